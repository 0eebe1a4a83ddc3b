use Rattle.std.proofs.Common.{ℕ, ◌≡◌, ◌<◌, ◌≤◌, ◌*◌, ◌-◌, length}
use Rattle.matching_model.specs.Matchings.{matching_cost}
use Rattle.dist_search.specs.Tables.{dist_of}
use Rattle.pair_plain.specs.Pairings.{IsPairing, IsLeastAt}
use Rattle.pair_plain.proofs.+pairings.Given as goal
use Rattle.dist_search.specs.Hops.{most_distance}

abbrev pub decreases-cheapest_pairing : goal.decreases-cheapest_pairing
decreases-cheapest_pairing l = 2 * length l.left.now

abbrev pub decreases-joined_pairing : goal.decreases-joined_pairing
decreases-joined_pairing l = 2 * length l.left.now - 1

abbrev pub invariant-cheapest_pairing-loop-at : goal.invariant-cheapest_pairing-loop-at
invariant-cheapest_pairing-loop-at l = record {
  pairing : IsPairing l.left l.best.pairs.items;
  cost : l.best.cost ≡ matching_cost (dist_of l.table) l.best.pairs.items;
  low : l.best.cost ≤ most_distance * length l.left;
  least : (k : ℕ) → 0 < k → k < l.at → IsLeastAt (dist_of l.table) l.left k l.best.cost;
}
