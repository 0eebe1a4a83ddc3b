use Rattle.std.proofs.Common.{◌++◌, ap, ◌∙◌, arith}
use Rattle.std.specs.List.{flat_map}
use Rattle.std.proofs.lemmas.List.{take_all}
use Rattle.surface_model.specs.Measurements.{bits_of_slot}
use Rattle.measure_map.specs.Placed.{detectors_of}
use Rattle.slot_bits.specs.Seen.{bit_of}
use Rattle.measure_map.proofs.Lasting.{lasting_all, lasting_more}
use Rattle.measure_map.proofs.detect.push_all_lasting.Goals as goal

pub loop-place-preserved : goal.loop-place-preserved
loop-place-preserved c =
    lasting_more c.args.view.now.schedule c.args.view.now.slot (bit_of c.bit_at.result)
    c.loop-place.place c.args.detectors.now.items c.loop-place.detectors.items
    c.push_lasting.new.detectors.items c.bit_at.ensures c.loop-place.invariant
    c.in_ok-push_lasting.ensures

pub returns : goal.returns
returns c =
    let s = c.args.view.now.schedule in
    let t = c.args.view.now.slot in
    let start = c.args.detectors.now.items in
    c.loop-place.invariant
    ∙ ap (λ bits. start ++ flat_map (detectors_of s t) bits)
    (take_all c.loop-place.place (bits_of_slot s t)
    (omega (arith, c.loop-place-test.false, c.width-place-end.ensures)))
    ∙ ap (λ ds. start ++ ds) (lasting_all s c.is_accepted.ensures t c.requires)
