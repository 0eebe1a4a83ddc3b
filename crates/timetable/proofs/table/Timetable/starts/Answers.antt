use Rattle.std.proofs.Common.{slice_get, sym, ap, ◌∙◌}
use Rattle.timetable.specs.Times.{Times}
use Rattle.timetable.proofs.Timed.{starts_are, starts_known}
use Rattle.timetable.proofs.table.Timetable.starts.Goals as goal

pub returns-clause-lines : goal.returns-clause-lines
returns-clause-lines c = λ s e. starts_are s c.args.self.now c.args.slot c.row.result.now e
    (sym (ap (λ (t : Times). slice_get t.starts c.args.slot) c.self.view_is) ∙ c.row.ensures)

pub returns-clause-known : goal.returns-clause-known
returns-clause-known c = λ s e. starts_known s c.args.self.now c.args.slot c.row.result.now e
    (sym (ap (λ (t : Times). slice_get t.starts c.args.slot) c.self.view_is) ∙ c.row.ensures)
