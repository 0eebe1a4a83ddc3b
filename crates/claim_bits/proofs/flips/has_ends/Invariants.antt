use Rattle.std.proofs.Common.{◌≡◌, ◌<◌, ℕ, false, get_or}
use Rattle.graph_model.specs.Graph.{boundary}
use Rattle.claim_bits.proofs.flips.has_ends.Given as goal

-- the places so far
abbrev pub invariant-loop-at : goal.invariant-loop-at
invariant-loop-at l = (k : ℕ) → k < l.at → get_or l.bits k false
    ≡ boundary l.graph l.kept (get_or l.places k 0)
