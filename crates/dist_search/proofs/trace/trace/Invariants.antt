use Rattle.std.proofs.Common.{ℕ, List, ◌++◌}
use Rattle.dist_search.specs.Hops.{Way}
use Rattle.dist_search.proofs.Ways.{Traced}
use Rattle.dist_search.proofs.trace.trace.Given as goal

abbrev pub invariant-loop-at : goal.invariant-loop-at
invariant-loop-at l = (whole : List ℕ) → Way l.steps l.end whole →
    Traced l.steps (l.initial.edges.items ++ whole) l.at l.edges.items

abbrev pub decreases-loop-at : goal.decreases-loop-at
decreases-loop-at l = l.at
