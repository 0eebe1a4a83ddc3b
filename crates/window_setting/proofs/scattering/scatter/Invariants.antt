use Rattle.std.proofs.Common.{◌≡◌, ◌<◌, ℕ, false, length, get_or, take}
use Rattle.graph_model.specs.Graph.{is_in}
use Rattle.window_setting.proofs.scattering.scatter.Given as goal

-- the places so far
abbrev pub invariant-loop-at : goal.invariant-loop-at
invariant-loop-at l = record {
  len : length l.into ≡ length l.initial.into;
  written : (k : ℕ) → k < l.at → get_or l.into (get_or l.places k 0) false
      ≡ get_or l.values k false;
  others : (v : ℕ) → is_in (take l.at l.places) v ≡ false → get_or l.into v false
      ≡ get_or l.initial.into v false;
}
