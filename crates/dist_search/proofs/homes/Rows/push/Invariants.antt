use Rattle.std.proofs.Common.{◌≡◌, ◌++◌, map, take}
use Rattle.dist_search.specs.Tables.{route_between, weight_between}
use Rattle.dist_search.proofs.homes.Rows.push.Given as goal

abbrev pub invariant-loop-to : goal.invariant-loop-to
invariant-loop-to l = record {
  entries : l.self.entries.items ≡ l.initial.self.entries.items ++ map (weight_between
      l.homes.weights.items l.search.left.items l.from) (take l.to-index l.vertices);
  routes : l.self.routes.items ≡ l.initial.self.routes.items
      ++ map (route_between l.homes.ends.items l.search.left.items l.search.ends.items l.from)
      (take l.to-index l.vertices);
}
