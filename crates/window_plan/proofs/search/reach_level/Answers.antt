use Rattle.std.proofs.Common.{◌<◌, subst, sym, length, get_or, arith}
use Rattle.graph_model.proofs.Members.{is_in_at}
use Rattle.window_plan.proofs.Levels.{longer}
use Rattle.window_plan.proofs.search.reach_level.Goals as goal

pub reach_beside-requires-clause-vertex : goal.reach_beside-requires-clause-vertex
reach_beside-requires-clause-vertex c =
    let grown = longer _ _ _ c.loop-place.invariant.grows in
    let test : c.loop-place.place < length c.args.found.now.members =
    subst (λ xs. c.loop-place.place < length xs) c.members-place-end.ensures.value
    c.loop-place-test.true in
    let within : c.loop-place.place < length c.loop-place.found.members =
    omega (arith, grown, test) in
    let below : get_or c.loop-place.found.members c.loop-place.place 0 < c.loop-place.found.bound =
    c.members.ensures.below (get_or c.loop-place.found.members c.loop-place.place 0)
    (is_in_at c.loop-place.found.members c.loop-place.place within) in
    subst (λ xs. get_or xs c.loop-place.place 0 < c.args.view.now.graph.vertices)
    (sym c.members.ensures.value) (omega (
      arith,
      below,
      c.loop-place.invariant.bound,
      c.requires.bound,
    ))
