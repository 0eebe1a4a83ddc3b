use Rattle.std.proofs.Common.{◌≡◌, false, take}
use Rattle.std.specs.List.{list_any}
use Rattle.claim_bits.specs.Seen.{joins}
use Rattle.claim_bits.proofs.arrivals.Arrivals.is_linked.Given as goal

-- none so far
abbrev pub invariant-loop-edge : goal.invariant-loop-edge
invariant-loop-edge l = list_any (joins l.self l.source) (take l.edge-index l.edge-items) ≡ false
