use Rattle.std.proofs.Common.{◌∙◌, ap, sym, [], Option, Some}
use Rattle.measure_map.specs.Placed.{PlacedDetector}
use Rattle.measure_map.specs.declared.types.FoundDetector.{FoundDetector}
use Rattle.measure_map.proofs.Detected.{some_at}
use Rattle.measure_map.proofs.detect.detector_at.Goals as goal
use Rattle.graph_model.specs.declared.Tag.{Tag}

pub returns : goal.returns
returns c =
    let v = c.args.view.now in let places = c.in_ok-bits.bits.items in
    let shown : FoundDetector → Option PlacedDetector = λ f.
    Some (record { tag = f.tag; corner = f.corner; bits = f.bits.items }) in
    ap shown c.in_ok-found.ensures.ok
    ∙ ap (λ (tag : Tag). Some (record { tag = tag; corner = c.args.corner; bits = places }))
    (c.tag_of-tag.ensures [])
    ∙ some_at v.schedule c.is_accepted.ensures v.slot c.args.corner places (sym c.is_watched.ensures
    ∙ c.if-not-is_watched.false) c.in_ok-bits.ensures
