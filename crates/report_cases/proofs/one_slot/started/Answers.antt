use Rattle.report_cases.proofs.OneSlot.{is_task}
use Rattle.report_cases.proofs.one_slot.started.Goals as goal

pub new-setting-requires-clause-gates : goal.new-setting-requires-clause-gates
new-setting-requires-clause-gates c =
    let timing = c.in_ok-timing.ensures in
    timing.gates _ (is_task _ _ _ _ _ _ timing.ops)
