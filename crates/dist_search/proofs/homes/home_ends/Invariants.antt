use Rattle.std.proofs.Common.{◌≡◌, length}
use Rattle.dist_search.specs.Hops.{AreEnds, IsSearch}
use Rattle.dist_search.proofs.homes.home_ends.Given as goal

abbrev pub invariant-loop-vertex : goal.invariant-loop-vertex
invariant-loop-vertex l = record {
  count : length l.ends.items ≡ l.star.vertices;
  ends : AreEnds l.star l.vertex-index l.vertices l.ends.items l.search.steps.items;
  search : IsSearch l.star.vertices l.search.left.items l.search.ends.items l.search.reached.items;
}
