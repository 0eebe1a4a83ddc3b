use Rattle.std.proofs.Common.{◌≡◌, map}
use Rattle.std.specs.List.{range_with_len}
use Rattle.window_model.specs.Windows.{window_at}
use Rattle.core_state.proofs.opening.deps_of.Given as goal

abbrev pub invariant-loop-window : goal.invariant-loop-window
invariant-loop-window l = map (λ v. v.items) l.lists.items
    ≡ map (λ w. (window_at l.setting.plan w).deps) (range_with_len 0 l.window)
