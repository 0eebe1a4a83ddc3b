use Rattle.std.proofs.Common.{◌∙◌, ap, subst, sym, List}
use Rattle.measure_map.specs.Placed.{Placed, PlacedDetector}
use Rattle.error_map.specs.Ends.{AreInOrder}
use Rattle.error_map.specs.Spots.{number_at}
use Rattle.error_map.proofs.EdgeSteps.{map_in_order}
use Rattle.error_map.proofs.spots.Spots.number_at.Goals as goal

pub is_number-requires : goal.is_number-requires
is_number-requires c =
    subst AreInOrder (sym c.detectors.ensures) (map_in_order c.self.inside.map.now c.is_map.ensures)

pub returns-then-is_number : goal.returns-then-is_number
returns-then-is_number c =
    sym (c.is_number.ensures c.if-is_number.true)
    ∙ ap (λ (xs : List PlacedDetector). number_at xs (record {
      slot = c.args.slot;
      corner = c.args.corner;
    })) c.detectors.ensures
    ∙ ap (λ (m : Placed). number_at m.detectors (record {
      slot = c.args.slot;
      corner = c.args.corner;
    })) c.self.view_is
