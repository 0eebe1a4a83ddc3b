use Rattle.std.proofs.Common.{◌≡◌, ◌+◌, ◌++◌, filter}
use Rattle.surface_model.specs.Layout.{is_check}
use Rattle.patch_layout.proofs.Areas.{line, rows}
use Rattle.patch_layout.proofs.code.checks.Given as goal

abbrev pub invariant-loop-row : goal.invariant-loop-row
invariant-loop-row l =
    l.corners.items ≡ filter (is_check l.region) (rows l.top l.row l.left (l.right + 1))

abbrev pub invariant-loop-col : goal.invariant-loop-col
invariant-loop-col l = l.corners.items
    ≡ filter (is_check l.region) (rows l.top l.row l.left (l.right + 1) ++ line l.row l.left l.col)
