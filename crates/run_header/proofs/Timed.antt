-- The conditions of a schedule as operations of its task.
use Rattle.std.proofs.Common.{◌≡◌, ◌≢◌, ℕ, ◌<◌, List, [], ◌∷◌, All, length, map, get_or, refl, sym, ap, ◌∙◌, subst, arith, slice_index}
use Rattle.std.proofs.lemmas.List.{get_or-map, length-map}
use Rattle.graph_model.specs.Graph.{DetectorGraph}
use Rattle.graph_model.specs.declared.Tag.{Tag}
use Rattle.graph_model.proofs.Elements.{get_in}
use Rattle.release_gate.specs.Gated.{IsRefusal}
use Rattle.release_gate.specs.declared.gate_error.GateError.{GateError}
use Rattle.release_gate.specs.declared.gate_error.GateError.TheVariants as gating
use Rattle.release_gate.specs.Operations.{IsTaskOf as GateTaskOf, TimedOperation, labels_of, operation_of, raw_slots_of}
use Rattle.report_model.specs.Tasks as tasks
use Rattle.schedule_reader.specs.Accepted.{NamesObservables}
use Rattle.surface_model.specs.Accepted.{IsAccepted}
use Rattle.surface_model.specs.Layout.{last_slot}
use Rattle.surface_model.specs.Measurements.{Observable, observables}
use Rattle.surface_model.specs.Schedules.{CondLine, Schedule}
use Rattle.window_model.specs.Decoder.{Operation, Task, operation_at}
use Rattle.window_model.specs.Windows.{WindowPlan}
use Rattle.window_setting.specs.Settings.{AreOperations, task_for}
use Rattle.run_header.specs.Timings.{IsHeldUp, of_gating, raws_of, timed_conds, timed_of}
use Rattle.run_header.proofs.Conds.{cond_in_range}

abbrev paired : List ℕ → List ℕ → List (ℕ × ℕ)
paired raws ls = map (λ l. (l, slice_index raws l)) ls

labels_kept : (raws ls : List ℕ) → map (λ (label : ℕ × ℕ). label.0) (paired raws ls) ≡ ls
labels_kept raws [] = refl
labels_kept raws (l ∷ ls) = ap (λ xs. l ∷ xs) (labels_kept raws ls)

slots_kept : (raws ls : List ℕ) → map (slice_index raws) (map (λ (label : ℕ × ℕ). label.0)
    (paired raws ls)) ≡ map (λ (label : ℕ × ℕ). label.1) (paired raws ls)
slots_kept raws [] = refl
slots_kept raws (l ∷ ls) = ap (λ xs. slice_index raws l ∷ xs) (slots_kept raws ls)

pub same_operations : (raws : List ℕ) (cs : List CondLine) →
    map operation_of (map (timed_of raws) cs) ≡ map tasks.operation_of cs
same_operations raws [] = refl
same_operations raws (c ∷ cs) =
    ap (λ ls. record { slot = c.slot; labels = ls } ∷ map operation_of (map (timed_of raws) cs))
    (labels_kept raws c.labels)
    ∙ ap (λ ops. tasks.operation_of c ∷ ops) (same_operations raws cs)

pub no_cond : CondLine
no_cond = record { line = 0; label = []; patch = 0; slot = 0; labels = [] }

-- where conditions name something, operations have observables
pub some_labels : (raws : List ℕ) (cs : List CondLine) → All (λ (c : CondLine). c.labels ≢ []) cs →
    All (λ (op : TimedOperation). op.labels ≢ []) (map (timed_of raws) cs)
some_labels raws cs some k d l e =
    let within : k < length cs = omega (arith, l, length-map cs (timed_of raws)) in
    let at = get_or-map (timed_of raws) cs k no_cond d within in
    some k no_cond within (nothing (get_or cs k no_cond).labels
    (sym (ap (λ (op : TimedOperation). op.labels) at) ∙ e))
  where
    nothing : (ls : List ℕ) → paired raws ls ≡ [] → ls ≡ []
    nothing [] e = refl
    nothing (l ∷ ls) e = cc

module _ (s : Schedule) (g : DetectorGraph) (tags : List Tag) (plan : WindowPlan) (raws : List ℕ)
    (last : ℕ) (are : raws ≡ raws_of s) where
  abbrev pub task : Task
  task = task_for g tags plan (timed_conds s) raws last

  pub gate_task : GateTaskOf g plan (timed_conds s) task
  gate_task = record { graph = refl; plan = refl; operations = refl; raw_slots = slots }
    where
      slots : All (λ op. map (slice_index raws) (labels_of op) ≡ raw_slots_of op) (timed_conds s)
      slots k d l =
          let within : k < length s.conds =
          omega (arith, l, length-map s.conds (timed_of (raws_of s))) in
          let at = get_or-map (timed_of (raws_of s)) s.conds k no_cond d within in
          subst (λ (op : TimedOperation). map (slice_index raws) (labels_of op) ≡ raw_slots_of op)
          (sym at)
          (subst (λ rs. map (slice_index rs) (labels_of (timed_of (raws_of s) (get_or s.conds k
          no_cond))) ≡ raw_slots_of (timed_of (raws_of s) (get_or s.conds k no_cond))) (sym are)
          (slots_kept (raws_of s) (get_or s.conds k no_cond).labels))

  count : length task.operations ≡ length s.conds
  count = ap length (same_operations (raws_of s) s.conds) ∙ length-map s.conds tasks.operation_of

  at : (op : ℕ) → op < length s.conds → operation_at task op
      ≡ tasks.operation_of (get_or s.conds op no_cond)
  at op l =
      ap (λ ops. get_or ops op (record { slot = 0; labels = [] }))
      (same_operations (raws_of s) s.conds)
      ∙ get_or-map tasks.operation_of s.conds op no_cond (record { slot = 0; labels = [] }) l

  pub are_operations : IsAccepted s → NamesObservables s → last ≡ last_slot s → AreOperations task
  are_operations accepted names last_is = record {
    some = λ op l e. let within : op < length s.conds = omega (arith, l, count) in
        names.some op no_cond within (sym (ap (λ (o : Operation). o.labels) (at op within)) ∙ e);
    named = λ op l.
        let within : op < length s.conds = omega (arith, l, count) in
        let long : length (observables s) ≡ length raws =
        sym (ap length are ∙ length-map (observables s) (λ (o : Observable). o.slot)) in
        subst (λ (o : Operation). All (λ x. x < length raws) o.labels) (sym (at op within))
        (subst (λ n. All (λ x. x < n) (get_or s.conds op no_cond).labels) long
        (names.known op no_cond within));
    in_slots = λ op l.
        let within : op < length s.conds = omega (arith, l, count) in
        let low = cond_in_range s accepted (get_or s.conds op no_cond)
        (get_in s.conds op no_cond within) in
        omega (arith, low, ap (λ (o : Operation). o.slot) (at op within), last_is);
  }

-- why there are no gates, as it is reported
pub held : (s : Schedule) (of : Task) (e : GateError) → IsRefusal e of →
    IsHeldUp s of (of_gating (tasks.labels_of s) e)
held s of (gating.TooEarly op ready) h = (op, h, refl)
held s of gating.Memory h = tt
