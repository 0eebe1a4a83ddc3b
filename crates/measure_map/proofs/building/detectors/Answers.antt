use Rattle.std.proofs.Common.{◌≡◌, ◌+◌, ◌++◌, ◌∙◌, ℕ, List, ap, arith, map}
use Rattle.std.specs.List.{filter_map, flat_map, range_with_len}
use Rattle.surface_model.specs.Layout.{board, last_slot}
use Rattle.surface_model.specs.Measurements.{Detector, detector_at}
use Rattle.measure_map.specs.Placed.{placed_detector}
use Rattle.measure_map.specs.Seen.{SlotOf}
use Rattle.measure_map.proofs.Slotwise.{more_detectors}
use Rattle.measure_map.proofs.building.detectors.Goals as goal

pub loop-slot-preserved : goal.loop-slot-preserved
loop-slot-preserved c =
    let s = c.args.schedule.now in
    let f : ℕ → List Detector = λ t. filter_map (detector_at s t) (board s) in
    let old = c.loop-slot.detectors.items in
    more_detectors (placed_detector s) f old c.push_detectors.new.detectors.items c.loop-slot.slot
    c.loop-slot.invariant
    (c.in_ok-push_detectors.ensures
    ∙ ap (λ (v : SlotOf). old ++ map (placed_detector v.schedule)
    (filter_map (detector_at v.schedule v.slot) (board v.schedule))) c.view_of-view.ensures)

pub returns : goal.returns
returns c =
    let s = c.args.schedule.now in
    let f : ℕ → List Detector = λ t. filter_map (detector_at s t) (board s) in
    let last = c.slots-slot-end.ensures.last s c.requires.times in
    let e : c.loop-slot.slot ≡ last_slot s + 1 =
    omega (arith, last, c.loop-slot.auto.slot-end, c.loop-slot-test.false) in
    c.loop-slot.invariant ∙ ap (λ n. map (placed_detector s) (flat_map f (range_with_len 0 n))) e
