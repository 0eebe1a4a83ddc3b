use Rattle.std.proofs.Common.{◌≡◌, ◌<◌, ℕ, false, length, take, get_or}
use Rattle.graph_model.specs.Parity.{◌⊕◌}
use Rattle.window_model.specs.Speculation.{bit_at}
use Rattle.boundary_fold.proofs.turns.turn_places.Given as goal

-- the values are turned at the places so far
abbrev pub invariant-loop-at : goal.invariant-loop-at
invariant-loop-at l = record {
  len : length l.into ≡ length l.initial.into;
  so_far : (k : ℕ) → k < length l.detectors → get_or l.into k false ≡ get_or l.initial.into k false
      ⊕ bit_at (take l.at l.places) (take l.at l.bits) (get_or l.detectors k 0);
}
