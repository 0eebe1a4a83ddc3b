use Rattle.std.proofs.Common.{ℕ, ◌≡◌, ◌<◌, ◌≤◌, ◌+◌, vec_len, get_or}
use Rattle.dist_search.specs.declared.star.Hop.{Hop}
use Rattle.dist_search.specs.Hops.{Advances, AreReached, Extends, IsSearch}
use Rattle.dist_search.proofs.Stars.{more}
use Rattle.dist_search.proofs.search.Search.relax_all.Given as goal

abbrev pub invariant-loop-number : goal.invariant-loop-number
invariant-loop-number l = record {
  reached : (start budget : ℕ) →
      AreReached l.star.hops start budget l.initial.self.left.items l.initial.self.ends.items
      l.initial.self.steps.items →
      AreReached l.star.hops start budget l.self.left.items l.self.ends.items l.self.steps.items;
  advances : Advances (vec_len l.initial.self.left) l.initial.self.left.items
      l.initial.self.queue.items l.self.left.items l.self.queue.items;
  kept : get_or l.self.left.items l.vertex 0 ≡ get_or l.initial.self.left.items l.vertex 0;
  relaxed : (k : ℕ) (d : Hop) → k < l.number-index →
      get_or l.self.left.items l.vertex 0 ≤ get_or l.self.left.items
      (get_or (more l.star.hops l.vertex) k d).to 0 +
      (get_or (more l.star.hops l.vertex) k d).weight;
  search : IsSearch (vec_len l.initial.self.left) l.self.left.items l.self.ends.items
      l.self.reached.items;
  steps : Extends l.initial.self.steps.items l.self.steps.items;
}
