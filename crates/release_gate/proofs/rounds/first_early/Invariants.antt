use Rattle.std.proofs.Common.{◌<◌, ℕ, slice_index}
use Rattle.release_gate.specs.Operations.{timed_at}
use Rattle.release_gate.proofs.rounds.first_early.Given as goal

-- none so far comes too early
abbrev pub invariant-loop-at : goal.invariant-loop-at
invariant-loop-at l = (k : ℕ) → k < l.at → slice_index l.rounds k < (timed_at l.ops k).slot
