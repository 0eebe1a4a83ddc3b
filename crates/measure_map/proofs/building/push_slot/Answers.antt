use Rattle.std.proofs.Common.{◌≡◌, ◌-◌, ◌∙◌, [], arith, get_or, length, sym}
use Rattle.surface_model.specs.Measurements.{bits_of_slot}
use Rattle.measure_map.proofs.Slotwise.{last_line, many_lines, more_lines}
use Rattle.measure_map.proofs.Unchanged.{quiet_line}
use Rattle.measure_map.proofs.building.push_slot.Goals as goal

pub push_same-requires-clause-few : goal.push_same-requires-clause-few
push_same-requires-clause-few c = let many = many_lines c.args.schedule.now c.args.slot
    c.args.bits.now c.requires.bits in omega (arith, many, c.requires.slots)

pub push-requires : goal.push-requires
push-requires c = let many = many_lines c.args.schedule.now c.args.slot c.args.bits.now
    c.requires.bits in omega (arith, many, c.requires.slots)

pub returns-in_ok-push_same : goal.returns-in_ok-push_same
returns-in_ok-push_same c =
    let s = c.args.schedule.now in let t = c.args.slot in let old = c.args.bits.now in
    let e : get_or old (length old - 1) [] ≡ bits_of_slot s t =
    last_line s t old c.requires.bits c.if-slot-gt0.true
    ∙ quiet_line s c.requires.accepted t c.if-slot-gt0.true
    (sym (c.is_quiet.ensures.quiet s c.requires.times) ∙ c.if-is_quiet.true) in
    more_lines (bits_of_slot s) old c.push_same.new.self (get_or old (length old - 1) []) t
    c.in_ok-push_same.ensures c.requires.bits e

pub returns-in_ok-push : goal.returns-in_ok-push
returns-in_ok-push c =
    let s = c.args.schedule.now in let t = c.args.slot in
    more_lines (bits_of_slot s) c.args.bits.now c.push.new.self _ t c.in_ok-push.ensures
    c.requires.bits c.in_ok-bits_of_slot.ensures
