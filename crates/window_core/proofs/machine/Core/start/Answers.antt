use Rattle.window_core.proofs.Equipped.{begun}
use Rattle.window_core.proofs.machine.Core.start.Goals as goal

pub invariant_of-result : goal.invariant_of-result
invariant_of-result c =
    begun c.args.setting c.args.retries _ _ _ (c.in_ok-state.ensures) (c.in_ok-drafts.ensures)
    (c.in_ok-sheets.ensures)
