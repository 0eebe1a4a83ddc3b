use Rattle.std.proofs.Common.{sym, ◌∙◌}
use Rattle.timetable.proofs.Quiet.{quiet_as, quiet_regions}
use Rattle.timetable.proofs.table.Timetable.is_quiet.Goals as goal

pub returns-clause-quiet : goal.returns-clause-quiet
returns-clause-quiet c = λ s e. c.is_still.ensures
    ∙ quiet_as s c.args.self.now c.args.slot e c.requires

pub returns-clause-same : goal.returns-clause-same
returns-clause-same c = λ s a e h. quiet_regions s c.args.slot
    (sym (quiet_as s c.args.self.now c.args.slot e c.requires) ∙ sym c.is_still.ensures ∙ h)
