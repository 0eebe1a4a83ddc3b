use Rattle.std.proofs.Common.{◌≡◌, ◌<◌, length, map, sym, ◌∙◌, arith}
use Rattle.std.specs.Arc.{arc_value}
use Rattle.std.proofs.lemmas.List.{length-map}
use Rattle.core_state.specs.States.{machine_of}
use Rattle.core_state.proofs.Brought.{all_slots, as_many, one_more_slot, slot_of_all}
use Rattle.core_state.proofs.state.CoreState.has_arrivals.Goals as goal

pub returns-then-not-are_as_many-clause-no : goal.returns-then-not-are_as_many-clause-no
returns-then-not-are_as_many-clause-no c _ equal =
    c.are_as_many.ensures.no c.if-not-are_as_many.true
    (sym (length-map c.args.given.now arc_value)
    ∙ as_many c.args.self.now (map arc_value c.args.given.now) c.is_state.ensures equal)

pub slot_at-requires : goal.slot_at-requires
slot_at-requires c =
    let end = c.arrived-slot-end.ensures in
    let many = c.are_as_many.ensures.yes c.if-not-are_as_many.false in
    let below = c.loop-slot-test.true in
    omega (arith, end, many, below)

pub has_arrival-requires : goal.has_arrival-requires
has_arrival-requires c =
    let end = c.arrived-slot-end.ensures in
    let below = c.loop-slot-test.true in
    omega (arith, end, below)

pub returns-then-not-has_arrival-clause-no : goal.returns-then-not-has_arrival-clause-no
returns-then-not-has_arrival-clause-no c _ equal =
    let end = c.arrived-slot-end.ensures in
    let below = c.loop-slot-test.true in
    c.has_arrival.ensures.no c.if-not-has_arrival.true
    (slot_of_all c.args.self.now (map arc_value c.args.given.now) c.is_state.ensures equal
    c.loop-slot.slot c.slot_at.result.now c.slot_at.ensures (omega (arith, end, below)))

pub loop-slot-preserved : goal.loop-slot-preserved
loop-slot-preserved c =
    one_more_slot c.args.self.now (map arc_value c.args.given.now) c.loop-slot.slot
    c.slot_at.result.now c.loop-slot.invariant c.slot_at.ensures
    (c.has_arrival.ensures.yes c.if-not-has_arrival.false)

pub returns-clause-yes : goal.returns-clause-yes
returns-clause-yes c _ =
    let end = c.arrived-slot-end.ensures in
    let many = c.are_as_many.ensures.yes c.if-not-are_as_many.false in
    let over = c.loop-slot-test.false in
    all_slots c.args.self.now (map arc_value c.args.given.now) c.is_state.ensures c.loop-slot.slot
    (length-map c.args.given.now arc_value ∙ many) (omega (arith, end, over)) c.loop-slot.invariant
