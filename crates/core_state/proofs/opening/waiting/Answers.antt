use Rattle.core_state.proofs.Begun.{are_windows, waiting_is}
use Rattle.core_state.proofs.opening.waiting.Goals as goal

pub new-requires : goal.new-requires
new-requires c =
    rw c.deref.ensures.value
    (are_windows c.args.setting.now c.is_setting.ensures c.args.retries c.requires _
    c.in_ok-deps.ensures)

pub returns : goal.returns
returns c =
    waiting_is c.args.setting.now c.args.retries _ _ _ c.deref.ensures.value c.in_ok-deps.ensures
    c.in_ok-phases.phases c.in_ok-phases.ensures
