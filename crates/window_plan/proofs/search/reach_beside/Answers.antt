use Rattle.std.proofs.Common.{◌<◌, subst, sym, length, get_or}
use Rattle.std.specs.Prelude.{nat_le}
use Rattle.window_model.specs.Windows.{home_of}
use Rattle.window_plan.proofs.Levels.{at_incident, beside_more}
use Rattle.window_plan.proofs.search.reach_beside.Goals as goal

pub edge-requires : goal.edge-requires
edge-requires c =
    subst (λ xs. get_or xs c.loop-number.number-index 0 < length c.args.view.now.graph.edges)
    (sym c.incident-number-items.ensures)
    (at_incident c.args.view.now.graph c.args.vertex c.loop-number.number-index
    (subst (λ xs. c.loop-number.number-index < length xs) c.incident-number-items.ensures
    c.loop-number-test.true))

pub loop-number-preserved : goal.loop-number-preserved
loop-number-preserved c = record {
  bound = cc;
  grows =
      beside_more c.args.view.now.graph c.args.vertex c.loop-number.number-index c.edge.result.now
      c.incident-number-items.result.now
      (λ x. nat_le c.args.view.now.window (home_of c.args.view.now.homes x))
      c.args.found.now.members c.loop-number.found.members c.reach_ends.new.found.members
      c.incident-number-items.ensures c.loop-number-test.true c.edge.ensures.value
      c.loop-number.invariant.grows c.in_ok-reach_ends.ensures.grows;
}
