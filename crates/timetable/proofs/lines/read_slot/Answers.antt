use Rattle.std.proofs.Common.{◌∙◌, ap, arith, get_or, length, sym}
use Rattle.std.proofs.lemmas.Bool.{eqb-true}
use Rattle.std.proofs.lemmas.Option.{slice_get-get_or}
use Rattle.surface_model.specs.Schedules.{ReadLine}
use Rattle.timetable.proofs.Lined.{read_first, read_never, reads_known, some_items}
use Rattle.timetable.proofs.lines.read_slot.Goals as goal

pub row-numbers-requires : goal.row-numbers-requires
row-numbers-requires c = let long = c.requires.readings.count in
    omega (arith, long, c.requires.patch)

pub returns-then-is_empty : goal.returns-then-is_empty
returns-then-is_empty c = read_never c.args.schedule.now c.args.readings.now.rows
    c.args.patch c.row-numbers.result.now c.requires.readings c.row-numbers.ensures
    (eqb-true (length c.row-numbers.result.now) 0 (sym c.is_empty.ensures ∙ c.if-is_empty.true))

pub read_line-requires : goal.read_line-requires
read_line-requires c =
    let row = c.row-numbers.result.now in
    reads_known c.args.schedule.now c.args.readings.now.rows c.args.patch row c.requires.readings
    c.row-numbers.ensures 0 0 (some_items row (sym c.is_empty.ensures ∙ c.if-is_empty.false))

pub returns : goal.returns
returns c =
    let row = c.row-numbers.result.now in
    ap (λ (x : ReadLine). x.slot) (c.behind-schedule.view_is ∙ c.read_line.ensures)
    ∙ read_first c.args.schedule.now c.args.readings.now.rows
    c.args.patch row c.requires.readings c.row-numbers.ensures (get_or row 0 0)
    (slice_get-get_or row 0 0 (some_items row (sym c.is_empty.ensures ∙ c.if-is_empty.false)))
