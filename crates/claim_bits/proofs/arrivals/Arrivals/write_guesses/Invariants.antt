use Rattle.std.proofs.Common.{◌≡◌, ◌<◌, ℕ, false, length, get_or}
use Rattle.claim_bits.specs.Seen.{view_of}
use Rattle.claim_bits.proofs.arrivals.Arrivals.write_guesses.Given as goal

-- the places so far
abbrev pub invariant-loop-at : goal.invariant-loop-at
invariant-loop-at g l = record {
  len : length l.into ≡ length l.fn.into;
  so_far : (i : ℕ) → i < l.at → g.Q.Predictor.may_guess l.predictor
      (view_of l.self l.source l.window (get_or l.places i 0)) (get_or l.into i false);
}
