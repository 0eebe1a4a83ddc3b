-- What is made of an accepted schedule fits together.
use Rattle.std.proofs.Common.{◌≡◌, ℕ, ◌≤◌, ◌<◌, List, All, length, map, sym, ap, ◌∙◌, subst, arith}
use Rattle.std.proofs.lemmas.List.{length-map}
use Rattle.std.proofs.lemmas.Simd.{map-map}
use Rattle.graph_model.specs.Graph.{DetectorGraph, GraphEdge}
use Rattle.graph_model.specs.declared.Tag.{Tag}
use Rattle.surface_model.specs.Schedules.{Schedule}
use Rattle.surface_model.specs.Layout.{last_slot}
use Rattle.surface_model.specs.Measurements.{Detector, detectors, Observable, observables}
use Rattle.surface_model.specs.Errors.{graph_of}
use Rattle.surface_model.specs.Accepted.{IsAccepted}
use Rattle.surface_laws.specs.GraphLaws.{MasksLaw}
use Rattle.surface_model.specs.Tags.{tag_of, tags_of}
use Rattle.measure_map.specs.Placed.{Placed, PlacedObservable, map_of, placed_observable}
use Rattle.window_plan.specs.Placed.{PlacedPlan, IsPlacedPlan}
use Rattle.window_model.specs.Decoder.{Task}
use Rattle.window_model.specs.Gates.{IsFirstTooEarly, IsTooEarly}
use Rattle.release_gate.specs.Gated.{AreGates, GateTable}
use Rattle.run_header.specs.declared.refusal.OpeningError.{OpeningError}
use Rattle.run_header.specs.declared.refusal.OpeningError.TheVariants as error
use Rattle.run_header.specs.declared.refusal.Refusal.TheVariants as refusal
use Rattle.boundary_fold.specs.Folds.{IsPlanFor}
use Rattle.window_setting.specs.Settings.{task_for}
use Rattle.run_header.specs.declared.sizes.PlanSizes.{PlanSizes}
use Rattle.run_header.specs.Openings.{IsNoTask, IsTaskOf}
use Rattle.run_header.specs.Refusals.{commit_of, buffer_of}
use Rattle.report_model.specs.Tasks.{operation_of, task_of}
use Rattle.run_header.specs.Timings.{IsHeldUp, raws_of, timed_conds}
use Rattle.run_header.proofs.Timed.{same_operations}
use Rattle.run_header.proofs.Slots.{tags_in_range, raws_in_range}
use Rattle.window_plan.specs.Kinds.{order_of}

abbrev pub raws_in : Placed → List ℕ
raws_in m = map (λ (o : PlacedObservable). o.slot) m.observables

placed_raws : (s : Schedule) → raws_in (map_of s) ≡ raws_of s
unfolding map_of
placed_raws s = map-map (λ (o : PlacedObservable). o.slot) (placed_observable s) (observables s)

pub raws_are : (s : Schedule) (m : Placed) (raws : List ℕ) → m ≡ map_of s → raws ≡ raws_in m →
    raws ≡ raws_of s
raws_are s m raws is from_map = from_map ∙ ap raws_in is ∙ placed_raws s

-- ---- the plan, and what is decoded under it

each_tag : (s : Schedule) → length (tags_of s) ≡ (graph_of s).vertices
each_tag s = length-map (detectors s) (tag_of s)
    ∙ sym (length-map (detectors s) (λ (d : Detector). d.bits))

module _ (sizes : PlanSizes) (s : Schedule) (g : DetectorGraph) (tags read : List Tag)
    (commit buffer : ℕ) (p : PlacedPlan) (graph_is : g ≡ graph_of s) (tags_are : tags ≡ tags_of s)
    (same : read ≡ tags) (planned : IsPlacedPlan g read (order_of sizes.kind) commit buffer p) where
  pub plan_for : IsPlanFor g tags p
  plan_for = record {
    order = order_of sizes.kind;
    commit = commit;
    buffer = buffer;
    each_tag = ap length tags_are ∙ each_tag s
        ∙ sym (ap (λ (x : DetectorGraph). x.vertices) graph_is);
    is_placed = subst (λ x. IsPlacedPlan g x (order_of sizes.kind) commit buffer p) same planned;
  }

  pub placed_as : commit ≡ commit_of sizes s → buffer ≡ buffer_of sizes s → IsPlacedPlan
      (graph_of s) (tags_of s) (order_of sizes.kind) (commit_of sizes s) (buffer_of sizes s) p
  placed_as commit_is buffer_is =
      subst (λ x. IsPlacedPlan x (tags_of s) (order_of sizes.kind) (commit_of sizes s)
      (buffer_of sizes s) p) graph_is
      (subst (λ x. IsPlacedPlan g x (order_of sizes.kind) (commit_of sizes s) (buffer_of sizes s) p)
      (same ∙ tags_are)
      (subst (λ x. IsPlacedPlan g read (order_of sizes.kind) x (buffer_of sizes s) p) commit_is
      (subst (λ x. IsPlacedPlan g read (order_of sizes.kind) commit x p) buffer_is planned)))

  pub task_same : (raws : List ℕ) (last : ℕ) → raws ≡ raws_of s → last ≡ last_slot s →
      task_for g tags p.plan (timed_conds s) raws last ≡ task_of s p.plan
  task_same raws last raws_are last_is = let ops = same_operations (raws_of s) s.conds in cc

  pub task_planned : (raws : List ℕ) (last : ℕ) → commit ≡ commit_of sizes s →
      buffer ≡ buffer_of sizes s → raws ≡ raws_of s → last ≡ last_slot s → (gates : GateTable) →
      AreGates (task_for g tags p.plan (timed_conds s) raws last) gates →
      IsTaskOf sizes s (task_for g tags p.plan (timed_conds s) raws last)
  task_planned raws last commit_is buffer_is raws_are last_is gates are =
      let placed = placed_as commit_is buffer_is in
      let same = task_same raws last raws_are last_is in
      let count = length-map s.conds operation_of in
      record {
        plan = p.plan;
        planned = placed.is_plan;
        within = placed.within;
        timely = λ op round l early.
            let same_early = subst (λ (t : Task). IsTooEarly t op round) (sym same) early in
            are.none_early op round (omega (
              arith,
              l,
              ap (λ (t : Task). length t.operations) same,
              count,
            )) same_early;
        task_is = same;
      }

  -- where a condition holds the task up, it is reported
  pub told : (raws : List ℕ) (last : ℕ) → commit ≡ commit_of sizes s →
      buffer ≡ buffer_of sizes s → raws ≡ raws_of s → last ≡ last_slot s → (e : OpeningError) →
      IsHeldUp s (task_for g tags p.plan (timed_conds s) raws last) e → IsNoTask sizes s e
  told raws last commit_is buffer_is raws_are last_is (error.Refused (refusal.TooEarly label ready))
      held =
      let placed = placed_as commit_is buffer_is in
      record {
        plan = p.plan;
        planned = placed.is_plan;
        within = placed.within;
        op = held.0;
        first = subst (λ (t : Task). IsFirstTooEarly t held.0 ready)
            (task_same raws last raws_are last_is) held.1;
        label_is = held.2;
      }
  told raws last commit_is buffer_is raws_are last_is (error.Refused (refusal.Schedule fault))
      held = absurd held
  told raws last commit_is buffer_is raws_are last_is (error.Refused (refusal.TooLarge detectors))
      held = absurd held
  told raws last commit_is buffer_is raws_are last_is
      (error.Refused (refusal.TooManyWindows windows)) held = absurd held
  told raws last commit_is buffer_is raws_are last_is (error.Refused (refusal.TooManyLinks links))
      held = absurd held
  told raws last commit_is buffer_is raws_are last_is
      (error.Refused (refusal.WindowTooLarge window detectors)) held = absurd held
  told raws last commit_is buffer_is raws_are last_is (error.Ended line) held = absurd held
  told raws last commit_is buffer_is raws_are last_is error.ReadFault held = absurd held
  told raws last commit_is buffer_is raws_are last_is error.Memory held = tt

-- ---- slots and numbers

pub tags_within : (s : Schedule) (tags : List Tag) (last : ℕ) → tags ≡ tags_of s →
    last ≡ last_slot s → All (λ (tag : Tag). tag.slot ≤ last) tags
tags_within s tags last are is = subst (λ n. All (λ (tag : Tag). tag.slot ≤ n) tags) (sym is)
    (subst (All (λ (tag : Tag). tag.slot ≤ last_slot s)) (sym are) (tags_in_range s))

pub raws_within : (s : Schedule) (raws : List ℕ) (last : ℕ) → IsAccepted s → raws ≡ raws_of s →
    last ≡ last_slot s → All (λ slot. slot ≤ last) raws
raws_within s raws last accepted are is = subst (λ n. All (λ slot. slot ≤ n) raws) (sym is)
    (subst (All (λ slot. slot ≤ last_slot s)) (sym are) (raws_in_range s accepted))

pub raws_few : (s : Schedule) (raws : List ℕ) → MasksLaw → IsAccepted s → raws ≡ raws_of s →
    length raws ≤ 512
raws_few s raws law accepted are =
    let few = law s accepted in
    let many : length raws ≡ length (observables s) = ap length are
    ∙ length-map (observables s) (λ (o : Observable). o.slot) in omega (arith, few.0, many)

pub masks_within : (s : Schedule) (g : DetectorGraph) (raws : List ℕ) →
    MasksLaw → IsAccepted s → g ≡ graph_of s → raws ≡ raws_of s →
    All (λ (edge : GraphEdge). All (λ l. l < length raws) edge.mask) g.edges
masks_within s g raws law accepted is are =
    subst (λ (x : DetectorGraph). All (λ (edge : GraphEdge). All (λ l. l < length raws) edge.mask)
    x.edges) (sym is)
    (subst (λ n. All (λ (edge : GraphEdge). All (λ l. l < n) edge.mask) (graph_of s).edges) (sym (ap
    length are ∙ length-map (observables s) (λ (o : Observable). o.slot))) (law s accepted).1)
