use Rattle.std.proofs.Common.{ap, sym, ◌∙◌, length}
use Rattle.measure_map.specs.Placed.{detectors_of}
use Rattle.slot_bits.specs.Seen.{bit_of}
use Rattle.measure_map.proofs.Detected.{counted_at}
use Rattle.measure_map.proofs.detect.is_detected.Goals as goal

pub returns-in-Outcome : goal.returns-in-Outcome
returns-in-Outcome c =
    let v = c.args.view.now in
    counted_at v.schedule v.slot c.in-Outcome.corner c.is_watched.result c.is_watched.ensures
    ∙ ap (λ b. length (detectors_of v.schedule v.slot (bit_of b))) (sym c.in-Outcome.is)
