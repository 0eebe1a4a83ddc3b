use Rattle.std.proofs.Common.{◌-◌, ◌++◌, ◌∷◌, [], ap, sym, ◌∙◌, Some}
use Rattle.graph_model.specs.declared.Tag.{Tag}
use Rattle.measure_map.specs.Placed.{detectors_of}
use Rattle.slot_bits.specs.Seen.{bit_of}
use Rattle.measure_map.proofs.Lasting.{lasting_at}
use Rattle.measure_map.proofs.detect.push_lasting.Goals as goal

pub returns : goal.returns
returns c =
    let s = c.args.view.now.schedule in
    let t = c.args.view.now.slot in
    let k = c.args.place in
    let old = c.args.detectors.now.items in
    let corner = c.in-Outcome.corner in
    c.in_ok-push.ensures.items
    ∙ ap (λ (tag : Tag). old ++ record {
      tag = tag;
      corner = corner;
      bits = (tag.slot, k) ∷ (tag.slot - 1, k) ∷ [];
    } ∷ []) (c.tag_of-tag.ensures [])
    ∙ ap (λ ds. old ++ ds) (lasting_at s c.is_accepted.ensures t c.requires.quiet k corner
    (c.requires.bit ∙ ap (λ b. Some (bit_of b)) c.in-Outcome.is))
    ∙ ap (λ b. old ++ detectors_of s t (bit_of b)) (sym c.in-Outcome.is)
