-- The gates of every task that has this graph, plan and operations.
use Rattle.std.proofs.Common.{◌≡◌, ◌≢◌, ℕ, ◌<◌, List, [], ◌∷◌, ◌++◌, All, length, map, get_or, refl, sym, ap, ◌∙◌, subst, arith, slice_index}
use Rattle.std.proofs.lemmas.List.{get_or-map, length-map}
use Rattle.graph_model.specs.Graph.{DetectorGraph, IsGraph}
use Rattle.graph_model.specs.declared.Tag.{Tag}
use Rattle.window_model.specs.Decoder.{Operation, Task, needs, operation_at}
use Rattle.window_model.specs.GateLaws.{ComputedRoundLaw, OneRoundLaw}
use Rattle.window_model.specs.Gates.{AreReadySlots, IsFirstTooEarly, IsReadyRound, IsTooEarly, WaitsFor, needed as needed_slot, older, raw, round_over}
use Rattle.window_model.specs.Laws.{PlanLaw, PlanLaws}
use Rattle.window_model.specs.Windows.{WindowPlan, greatest}
use Rattle.release_gate.specs.Gated.{AreGates, AreNeeded, AreRounds, IsFirstEarly, needed}
use Rattle.release_gate.specs.Operations.{IsPlanOf, IsTaskOf, TimedOperation, labels_of, operation_of, raw_slots_of, timed_at}

abbrev with_tags : Task → List Tag → Task
with_tags task tags = record task { tags = tags }

-- what is waited for does not depend on the tags
retagged : (task : Task) (tags : List Tag) (op slot : ℕ) → WaitsFor (with_tags task tags) op slot →
    WaitsFor task op slot
retagged task tags op slot (raw l c) = raw l c
retagged task tags op slot (needed_slot w m) = needed_slot w m
retagged task tags op slot (older x w m a) = older x w m a

tagged : (task : Task) (tags : List Tag) (op slot : ℕ) → WaitsFor task op slot →
    WaitsFor (with_tags task tags) op slot
tagged task tags op slot (raw l c) = raw l c
tagged task tags op slot (needed_slot w m) = needed_slot w m
tagged task tags op slot (older x w m a) = older x w m a

same_round : (task : Task) (tags : List Tag) (op round : ℕ) →
    IsReadyRound (with_tags task tags) op round → IsReadyRound task op round
same_round task tags op round ready = record {
  waited = retagged task tags op round ready.waited;
  greatest = λ slot waits. ready.greatest slot (tagged task tags op slot waits);
}

nothing_mapped : (labels : List (ℕ × ℕ)) → map (λ (label : ℕ × ℕ). label.0) labels ≡ [] →
    labels ≡ []
nothing_mapped [] e = refl
nothing_mapped (l ∷ ls) e = cc

module _ (planned : PlanLaw) (computed : ComputedRoundLaw) (one : OneRoundLaw) (g : DetectorGraph)
    (plan : WindowPlan) (is_graph : IsGraph g) (made : IsPlanOf g plan)
    (ops : List TimedOperation) (named : All (λ (op : TimedOperation). op.labels ≢ []) ops)
    (slots : List ℕ) (ready : AreReadySlots plan slots)
    (lists : List (List ℕ)) (are_needed : AreNeeded g plan ops lists)
    (rounds : List ℕ) (are_rounds : AreRounds slots ops lists rounds) (task : Task)
    (t : IsTaskOf g plan ops task) where
  count_is : length task.operations ≡ length ops
  count_is = ap length t.operations ∙ length-map ops operation_of

  at : (k : ℕ) → k < length ops → operation_at task k ≡ operation_of (timed_at ops k)
  at k l = ap (λ os. get_or os k (record { slot = 0; labels = [] })) t.operations ∙ get_or-map
      operation_of ops k (record { slot = 0; labels = [] }) (record { slot = 0; labels = [] }) l

  needs_are : (k : ℕ) → k < length ops → get_or lists k [] ≡ needs task k
  needs_are k l =
      let labels = labels_of (timed_at ops k) in
      are_needed.needed k l ∙ ap (λ x. needed x plan labels) (sym t.graph)
      ∙ ap (λ p. needed task.graph p labels) (sym t.plan)
      ∙ ap (λ (o : Operation). needed task.graph task.plan o.labels) (sym (at k l))

  raws_are : (k : ℕ) → k < length ops → raw_slots_of (timed_at ops k)
      ≡ map (slice_index task.raw_slots) (operation_at task k).labels
  raws_are k l = sym (t.raw_slots k (record { slot = 0; labels = [] }) l)
      ∙ ap (λ (o : Operation). map (slice_index task.raw_slots) o.labels) (sym (at k l))

  round_is : (k : ℕ) → k < length ops → get_or rounds k 0 ≡ round_over task slots k
  round_is k l =
      are_rounds.round k l
      ∙ ap (λ ws. greatest (raw_slots_of (timed_at ops k) ++ map (slice_index slots) ws))
      (needs_are k l)
      ∙ ap (λ rs. greatest (rs ++ map (slice_index slots) (needs task k))) (raws_are k l)

  laws : PlanLaws task.graph made.tags task.plan
  laws =
      subst (λ x. PlanLaws x made.tags task.plan) (sym t.graph)
      (subst (PlanLaws g made.tags) (sym t.plan) (planned g made.tags made.order made.commit
      made.buffer plan is_graph made.each_tag made.is_plan))

  some_label : (k : ℕ) → k < length ops → (operation_at task k).labels ≢ []
  some_label k l e = named k (record { slot = 0; labels = [] }) l
      (nothing_mapped (timed_at ops k).labels (sym (ap (λ (o : Operation). o.labels) (at k l)) ∙ e))

  ready_round : (k : ℕ) → k < length ops → IsReadyRound task k (get_or rounds k 0)
  ready_round k l =
      subst (IsReadyRound task k) (sym (round_is k l))
      (same_round task made.tags k (round_over task slots k)
      (computed (with_tags task made.tags) slots k laws
      (subst (λ p. AreReadySlots p slots) (sym t.plan) ready) (some_label k l)))

  slot_is : (k : ℕ) → k < length ops → (operation_at task k).slot ≡ (timed_at ops k).slot
  slot_is k l = ap (λ (o : Operation). o.slot) (at k l)

  in_time : (k later : ℕ) → k < length ops → get_or rounds k 0 < (timed_at ops k).slot →
      IsTooEarly task k later → ⊥
  in_time k later l below early =
      let e = one task k later (get_or rounds k 0) early.ready (ready_round k l) in
      let late = early.not_below in
      let s = slot_is k l in omega (arith, e, late, s, below)

  pub gates_are : ((k : ℕ) → k < length ops → get_or rounds k 0 < (timed_at ops k).slot) →
      AreGates task (record { needs = lists; rounds = rounds })
  gates_are below = record {
    each_needs = are_needed.each ∙ sym count_is;
    each_round = are_rounds.each ∙ sym count_is;
    needed = λ k l. let within : k < length ops = omega (arith, l, count_is) in needs_are k within;
    ready = λ k l. let within : k < length ops = omega (arith, l, count_is) in ready_round k within;
    none_early = λ k round l early. let within : k < length ops = omega (arith, l, count_is) in
        in_time k round within (below k within) early;
  }

  pub first_is : (k : ℕ) → IsFirstEarly ops rounds k → IsFirstTooEarly task k (get_or rounds k 0)
  first_is k f = record {
    in_range = omega (arith, f.in_range, count_is);
    too_early = record {
      ready = ready_round k f.in_range;
      not_below = let s = slot_is k f.in_range in omega (arith, s, f.not_below);
    };
    first = λ other later lt early. let within : other < length ops =
        omega (arith, lt, f.in_range) in in_time other later within (f.first other lt) early;
  }
