use Rattle.std.proofs.Common.{◌≡◌, ◌+◌, false, arith, ◌∙◌, sym, refl, ap, length, subst, List}
use Rattle.std.proofs.lemmas.Option.{same_Some, slice_get_read}
use Rattle.measure_map.specs.Placed.{IsFirstOf, PlacedDetector}
use Rattle.error_map.specs.Ends.{AreInOrder}
use Rattle.error_map.specs.Spots.{is_at, number_at}
use Rattle.error_map.proofs.EdgeSteps.{map_in_order}
use Rattle.error_map.proofs.Searches.{cut_found, cut_none, cut_slot}
use Rattle.error_map.proofs.spots.number_by_halves.Goals as goal
use Rattle.error_map.proofs.spots.number_by_halves.Goals.{else-place-detectors-via-then-place-detectors+else-is_at, else-place-detectors-via-else-place-detectors}

pub earlier-place-requires-clause-order : goal.earlier-place-requires-clause-order
earlier-place-requires-clause-order c =
    subst AreInOrder (sym c.detectors-detectors.ensures)
    (map_in_order c.args.map.now c.is_map.ensures)

pub earlier-place-requires-clause-cut : goal.earlier-place-requires-clause-cut
earlier-place-requires-clause-cut c =
    let ds = c.detectors-detectors.result.now in
    let same = sym c.detectors-detectors.ensures in
    cut_slot ds c.args.slot c.first_detector-first.result c.first_detector-end.result
    (subst (λ (xs : List PlacedDetector). IsFirstOf xs c.args.slot c.first_detector-first.result)
    same c.first_detector-first.ensures)
    (subst (λ (xs : List PlacedDetector). IsFirstOf xs (c.args.slot + 1)
    c.first_detector-end.result) same c.first_detector-end.ensures) c.args.corner

pub returns-then-is_at : goal.returns-then-is_at
returns-then-is_at c =
    cut_found c.detectors-detectors.result.now (record {
      slot = c.args.slot;
      corner = c.args.corner;
    }) c.earlier-place.result c.index-detectors-place.result
    c.earlier-place.ensures
    (omega arith) c.index-detectors-place.is (sym c.is_at.ensures ∙ c.if-is_at.true)
    ∙ ap (λ (xs : List PlacedDetector). number_at xs (record {
      slot = c.args.slot;
      corner = c.args.corner;
    })) c.detectors-detectors.ensures

pub returns-else-place-detectors : goal.returns-else-place-detectors
returns-else-place-detectors c =
    cut_none c.detectors-detectors.result.now (subst AreInOrder (sym c.detectors-detectors.ensures)
    (map_in_order c.args.map.now c.is_map.ensures)) (record {
      slot = c.args.slot;
      corner = c.args.corner;
    }) c.earlier-place.result c.earlier-place.ensures
    (elim c.else-place-detectors.branch [
      | else-place-detectors-via-then-place-detectors+else-is_at w ↦ λ l d e.
          subst (λ x. is_at (record { slot = c.args.slot; corner = c.args.corner }) x ≡ false)
          (same_Some w.index-detectors-place.result d
          (sym (slice_get_read c.detectors-detectors.result.now
          (length c.detectors-detectors.result.now) c.earlier-place.result
          w.index-detectors-place.result refl l w.index-detectors-place.is) ∙ e))
          (sym w.is_at.ensures ∙ w.if-is_at.false)
      | else-place-detectors-via-else-place-detectors w ↦ λ l d e. absurd (omega arith)
    ])
    ∙ ap (λ (xs : List PlacedDetector). number_at xs (record {
      slot = c.args.slot;
      corner = c.args.corner;
    })) c.detectors-detectors.ensures
