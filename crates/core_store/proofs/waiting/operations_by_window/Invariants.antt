use Rattle.std.proofs.Common.{◌≡◌, map}
use Rattle.std.specs.List.{range_with_len}
use Rattle.release_laws.specs.Tables.{waiting_for}
use Rattle.core_store.proofs.waiting.operations_by_window.Given as goal

-- the windows so far
abbrev pub invariant-loop-window : goal.invariant-loop-window
invariant-loop-window l = l.lists ≡ map (waiting_for l.setting) (range_with_len 0 l.window)
