use Rattle.std.proofs.Common.{◌≡◌, map, take}
use Rattle.window_plan.specs.Ranks.{cell_at, key_cell}
use Rattle.window_plan.proofs.cells.cells_of.Given as goal

abbrev pub invariant-loop-rank : goal.invariant-loop-rank
invariant-loop-rank l = map cell_at l.cells.items ≡ map key_cell (take l.rank-index l.ranks)
