use Rattle.std.proofs.Common.{◌+◌, ◌-◌, ◌*◌, ◌<◌, All, sum_by, length}
use Rattle.dist_search.specs.declared.search.Queued.{Queued}
use Rattle.dist_search.specs.Hops.{ArePending, AreReached, Extends, IsSearch, most_budget}
use Rattle.dist_search.proofs.search.Search.run.Given as goal

abbrev pub invariant-loop-queued : goal.invariant-loop-queued
invariant-loop-queued l = record {
  reached : AreReached l.star.hops l.start l.budget l.self.left.items l.self.ends.items
      l.self.steps.items;
  pending : ArePending l.star.hops l.self.left.items l.self.queue.items;
  queued : All (λ (q : Queued). q.vertex < l.star.vertices) l.self.queue.items;
  search : IsSearch l.star.vertices l.self.left.items l.self.ends.items l.self.reached.items;
  steps : Extends l.fn.self.steps.items l.self.steps.items;
}

abbrev pub decreases-loop-queued : goal.decreases-loop-queued
decreases-loop-queued l = 2 * (l.star.vertices * most_budget - sum_by (λ x. x) l.self.left.items)
    + length l.self.queue.items
