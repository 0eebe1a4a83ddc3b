use Rattle.std.proofs.Common.{sym, ap, ◌∙◌, length}
use Rattle.timetable.specs.Times.{Times}
use Rattle.timetable.proofs.Timed.{slots_are}
use Rattle.timetable.proofs.table.Timetable.slots.Goals as goal

pub returns-clause-last : goal.returns-clause-last
returns-clause-last c = λ s e. sym c.self.invariant.inits
    ∙ ap (λ (t : Times). length t.inits) c.self.view_is ∙ slots_are s c.args.self.now e
