use Rattle.std.proofs.Common.{◌≡◌, ◌<◌, ℕ, [], length, map, slice_index, slice_index_or}
use Rattle.release_gate.specs.Gated.{round_of}
use Rattle.release_gate.specs.Operations.{timed_at}
use Rattle.release_gate.proofs.rounds.rounds_of.Given as goal

-- the operations so far
abbrev pub invariant-loop-at : goal.invariant-loop-at
invariant-loop-at l = record {
  each : length l.rounds.items ≡ l.at;
  round : (k : ℕ) → k < l.at → slice_index l.rounds.items k
      ≡ round_of l.slots (timed_at l.ops k) (slice_index_or (map (λ v. v.items) l.needs) k []);
}
