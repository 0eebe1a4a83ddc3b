use Rattle.std.proofs.Common.{◌∙◌, ◌+◌, ◌∷◌, [], ap, refl}
use Rattle.surface_model.specs.Layout.{Place}
use Rattle.surface_laws.specs.LayoutLaws.{corners}
use Rattle.error_map.specs.Ends.{first_two, found_in}
use Rattle.error_map.proofs.ends.around.Goals as goal

pub returns : goal.returns
returns c =
    let q = c.qubit.inside in
    let below_right : Place = record { row = q.row + 1; column = q.col + 1 } in
    let below : Place = record { row = q.row + 1; column = q.col } in
    let right : Place = record { row = q.row; column = q.col + 1 } in
    c.with_corner.ensures (right ∷ below ∷ below_right ∷ [])
    (c.with_corner-ends-3.ensures (below ∷ below_right ∷ [])
    (c.with_corner-ends-2.ensures (below_right ∷ []) (c.with_corner-ends.ensures [] refl)))
    ∙ ap (λ (p : Place). first_two (found_in c.args.spots.now.detectors c.args.slot c.args.basis
    (corners p))) c.qubit.view_is
