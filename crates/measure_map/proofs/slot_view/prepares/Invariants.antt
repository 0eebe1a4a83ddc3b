use Rattle.std.proofs.Common.{◌≡◌, false, take}
use Rattle.std.specs.List.{list_any}
use Rattle.patch_layout.specs.Items.{init_line}
use Rattle.measure_map.specs.Slots.{fixes}
use Rattle.measure_map.proofs.slot_view.prepares.Given as goal

abbrev pub invariant-loop-number : goal.invariant-loop-number
invariant-loop-number l =
    list_any (λ n. fixes l.schedule (init_line l.schedule n).patch
    (init_line l.schedule n).basis l.corner) (take l.number-index l.inits) ≡ false
