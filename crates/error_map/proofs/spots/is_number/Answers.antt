use Rattle.std.proofs.Common.{◌∙◌, arith, sym}
use Rattle.error_map.proofs.Searches.{found_there}
use Rattle.error_map.proofs.spots.is_number.Goals as goal

pub returns : goal.returns
returns c h =
    found_there c.args.detectors.now c.requires (record {
      slot = c.args.slot;
      corner = c.args.corner;
    }) c.args.number c.index-detectors-number.result (omega arith) c.index-detectors-number.is
    (sym c.is_at.ensures ∙ h)
