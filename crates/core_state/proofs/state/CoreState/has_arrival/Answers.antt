use Rattle.std.proofs.Common.{◌≡◌, ◌<◌, sym, ap, subst, arith}
use Rattle.detector_graph.specs.declared.folded.Folded.{Folded}
use Rattle.core_journal.specs.Entries.{raws_at, values_at}
use Rattle.core_state.specs.States.{CoreTable, machine_of}
use Rattle.core_state.proofs.Brought.{arrived_in, same_folded}
use Rattle.core_state.proofs.Follows.{is_state_of}
use Rattle.core_state.proofs.state.CoreState.has_arrival.Goals as goal

pub has_values-requires-clause-slot : goal.has_values-requires-clause-slot
has_values-requires-clause-slot c =
    let low = arrived_in _ (is_state_of _ c.self.invariant) in
    let here = subst (λ (t : CoreTable). c.args.slot < (machine_of t).arrived) (sym c.self.view_is)
    c.requires in
    omega (arith, low, here)

pub has_values-requires-clause-of : goal.has_values-requires-clause-of
has_values-requires-clause-of c = c.self.invariant.each_value

pub has_raws-requires-clause-slot : goal.has_raws-requires-clause-slot
has_raws-requires-clause-slot c =
    let low = arrived_in _ (is_state_of _ c.self.invariant) in
    let here = subst (λ (t : CoreTable). c.args.slot < (machine_of t).arrived) (sym c.self.view_is)
    c.requires in
    omega (arith, low, here)

pub has_raws-requires-clause-of : goal.has_raws-requires-clause-of
has_raws-requires-clause-of c = c.self.invariant.each_raw

pub returns-then-not-is_slot-clause-no : goal.returns-then-not-is_slot-clause-no
returns-then-not-is_slot-clause-no c _ equal =
    c.is_slot.ensures.no c.if-not-is_slot.true (sym (ap (λ (f : Folded). f.slot) equal))

pub returns-then-not-has_values-clause-no : goal.returns-then-not-has_values-clause-no
returns-then-not-has_values-clause-no c _ equal =
    c.has_values.ensures.no c.if-not-has_values.true
    (subst (λ (t : CoreTable). values_at t.task t.kept.values c.args.slot
    ≡ c.args.folded.now.defects) (sym c.self.view_is) (ap (λ (f : Folded). f.defects) equal))

pub returns-clause-yes : goal.returns-clause-yes
returns-clause-yes c yes_ =
    same_folded c.args.folded.now c.args.slot _ _ (c.is_slot.ensures.yes c.if-not-is_slot.false)
    (subst (λ (t : CoreTable). values_at t.task t.kept.values c.args.slot
    ≡ c.args.folded.now.defects) c.self.view_is
    (c.has_values.ensures.yes c.if-not-has_values.false))
    (subst (λ (t : CoreTable). raws_at t.task t.kept.raws c.args.slot ≡ c.args.folded.now.raws)
    c.self.view_is (c.has_raws.ensures.yes yes_))

pub returns-clause-no : goal.returns-clause-no
returns-clause-no c no_ equal =
    c.has_raws.ensures.no no_
    (subst (λ (t : CoreTable). raws_at t.task t.kept.raws c.args.slot ≡ c.args.folded.now.raws)
    (sym c.self.view_is) (ap (λ (f : Folded). f.raws) equal))
