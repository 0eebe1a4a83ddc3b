use Rattle.std.proofs.Common.{◌≡◌, ◌==◌, ◌||◌, false, take}
use Rattle.std.specs.List.{list_any}
use Rattle.patch_layout.specs.Items.{merge_line}
use Rattle.timetable.proofs.active.is_apart.Given as goal

abbrev pub invariant-loop-number : goal.invariant-loop-number
invariant-loop-number l = list_any (λ n. ((merge_line l.schedule n).one == l.patch)
    || ((merge_line l.schedule n).two == l.patch)) (take l.number-index l.merges) ≡ false
