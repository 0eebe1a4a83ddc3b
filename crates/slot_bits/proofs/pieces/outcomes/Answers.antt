use Rattle.std.proofs.Common.{◌≡◌, ap, ◌∙◌, arith, map}
use Rattle.std.proofs.lemmas.List.{take_all}
use Rattle.surface_model.specs.Layout.{checks}
use Rattle.surface_model.specs.Measurements as measurements
use Rattle.slot_bits.specs.Seen.{bits_of}
use Rattle.slot_bits.proofs.Adding.{outcomes_of_rise}
use Rattle.slot_bits.proofs.pieces.outcomes.Goals as goal

pub returns-clause-rising : goal.returns-clause-rising
returns-clause-rising c =
    let e : bits_of c.loop-corner.bits.items ≡ map measurements.Outcome (checks c.args.region) =
    c.loop-corner.invariant
    ∙ ap (map measurements.Outcome)
    (take_all c.loop-corner.corner-index c.deref-corner-items.result.now
    (omega (arith, c.loop-corner-test.false)) ∙ c.deref-corner-items.ensures.value
    ∙ c.in_ok-corners.ensures) in
    outcomes_of_rise (bits_of c.loop-corner.bits.items) c.args.region e
