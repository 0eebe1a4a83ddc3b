use Rattle.std.proofs.Common.{◌≡◌, ◌++◌, ap, ◌∙◌, arith, map, take}
use Rattle.std.specs.List.{filter_map, flat_map}
use Rattle.std.proofs.lemmas.List.{take_all}
use Rattle.surface_model.specs.Layout.{board}
use Rattle.surface_model.specs.Measurements.{detector_at}
use Rattle.measure_map.specs.Placed.{detectors_of, placed_detector}
use Rattle.slot_bits.specs.Seen.{bits_of}
use Rattle.measure_map.proofs.Detected.{slot_detectors}
use Rattle.measure_map.proofs.detect.push_found.Goals as goal

pub returns : goal.returns
returns c =
    let s = c.args.view.now.schedule in let t = c.args.view.now.slot in
    let all = bits_of c.in_ok-bits.bits.items in
    let items : take c.loop-bit.bit-index c.deref-bit-items.result.now ≡ c.in_ok-bits.bits.items =
    take_all c.loop-bit.bit-index c.deref-bit-items.result.now
    (omega (arith, c.loop-bit-test.false)) ∙ c.deref-bit-items.ensures.value in
    let e : flat_map (detectors_of s t) all
    ≡ map (placed_detector s) (filter_map (detector_at s t) (board s)) =
    slot_detectors s c.is_accepted.ensures t all c.in_ok-bits.ensures.rising
    c.in_ok-bits.ensures.members in
    c.loop-bit.invariant
    ∙ ap (λ bs. c.args.detectors.now.items ++ flat_map (detectors_of s t) (bits_of bs)) items
    ∙ ap (λ zs. c.args.detectors.now.items ++ zs) e
