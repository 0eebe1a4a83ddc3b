use Rattle.std.proofs.Common.{◌≡◌, length, take}
use Rattle.std.specs.List.{sum_by}
use Rattle.window_model.specs.Windows.{Window}
use Rattle.core_state.proofs.opening.links.Given as goal

abbrev pub invariant-loop-window : goal.invariant-loop-window
invariant-loop-window l =
    l.count ≡ sum_by (λ (w : Window). length w.deps) (take l.window l.setting.plan.windows)
