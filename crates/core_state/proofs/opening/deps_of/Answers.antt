use Rattle.std.proofs.Common.{◌∙◌}
use Rattle.core_state.proofs.Begun.{deps_at, lists_more}
use Rattle.core_state.proofs.opening.deps_of.Goals as goal

pub loop-window-preserved : goal.loop-window-preserved
loop-window-preserved c =
    lists_more (λ v. v.items) (deps_at c.args.setting.now) _ _ _ c.loop-window.window
    c.loop-window.invariant (c.in_ok-copied.ensures ∙ c.deps.ensures) c.in_ok-push.ensures.items
