use Rattle.dist_search.specs.Hops.{Extends, IsSearch}
use Rattle.dist_search.specs.Tables.{AreRows}
use Rattle.dist_search.proofs.homes.Rows.new.Given as goal

abbrev pub invariant-loop-vertex : goal.invariant-loop-vertex
invariant-loop-vertex l = record {
  rows : AreRows l.problem l.vertices l.vertex-index l.rows.entries.items l.rows.routes.items
      l.search.steps.items;
  search : IsSearch l.star.vertices l.search.left.items l.search.ends.items l.search.reached.items;
  steps : Extends l.fn.search.steps.items l.search.steps.items;
}
