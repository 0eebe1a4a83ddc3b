use Rattle.std.proofs.Common.{◌≡◌, ◌++◌, All, map, take}
use Rattle.surface_model.specs.Layout.{merged_region}
use Rattle.patch_layout.specs.Seen.{IsWellFormed}
use Rattle.patch_layout.specs.Items.{merge_line}
use Rattle.timetable.specs.Items.{patches_of}
use Rattle.timetable.proofs.active.regions_of.Given as goal

abbrev pub invariant-loop-number : goal.invariant-loop-number
invariant-loop-number l = (l.regions.items ≡ patches_of l.schedule (take l.number-index l.inits)
    l.merges) × All IsWellFormed l.regions.items

abbrev pub invariant-loop-number-2 : goal.invariant-loop-number-2
invariant-loop-number-2 l = (l.regions.items ≡ patches_of l.schedule l.inits l.merges
    ++ map (λ n. merged_region l.schedule (merge_line l.schedule n)) (take l.number-index l.merges))
    × All IsWellFormed l.regions.items
