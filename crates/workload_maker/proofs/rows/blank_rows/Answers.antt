use Rattle.std.proofs.Common.{◌∙◌, replicate, false, arith, map, ap}
use Rattle.std.proofs.lemmas.List.{take_all}
use Rattle.workload_maker.specs.Turns.{blank_row}
use Rattle.workload_maker.proofs.Blank.{blank_more}
use Rattle.workload_maker.proofs.rows.blank_rows.Goals as goal

pub loop-slot-preserved : goal.loop-slot-preserved
loop-slot-preserved c =
    blank_more c.args.measured.now.lines c.loop-slot.slot c.loop-slot.rows.items
    c.push.new.self.items _ (omega (arith, c.loop-slot-test.true, c.slots-slot-end.ensures))
    c.loop-slot.invariant
    (c.in_ok-zeros.ensures ∙ ap (λ n. replicate n false) c.width.ensures)
    c.in_ok-push.ensures.items

pub returns : goal.returns
returns c =
    c.loop-slot.invariant
    ∙ ap (map blank_row) (take_all c.loop-slot.slot c.args.measured.now.lines
    (omega (arith, c.loop-slot-test.false, c.slots-slot-end.ensures)))
