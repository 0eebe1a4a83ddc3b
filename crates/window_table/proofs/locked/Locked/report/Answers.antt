use Rattle.std.proofs.Common.{sym, subst}
use Rattle.core_state.specs.States.{CoreTable}
use Rattle.window_core.specs.Turned.{IsReported}
use Rattle.window_table.proofs.locked.Locked.report.Goals as goal

pub returns-clause-reported : goal.returns-clause-reported
returns-clause-reported g c =
    subst (λ (t : CoreTable). IsReported c.args.self.now.core t c.args.finished
    c.report-reported.result) (sym c.note_change.ensures.core) c.report-reported.ensures
