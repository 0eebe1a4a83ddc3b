-- Searches from a window's cell, by levels.
use Rattle.std.specs.Prelude.{◌≡◌, ◌<◌, ◌≤◌, ◌||◌, ℕ, Bool, true, List, length, take}
use Rattle.std.specs.List.{list_any}
use Rattle.graph_model.specs.Graph.{DetectorGraph, ends_at, incident_edges, is_in}
use Rattle.window_model.specs.Windows.{home_of, is_reached}

-- the new list is the old one, with the numbers that pass the test added at its end
pub record Grows (test : ℕ → Bool) (old new : List ℕ) : Type 0 where
  pub members : (x : ℕ) → is_in new x ≡ is_in old x || test x
  pub kept : take (length old) new ≡ old

-- whether an edge ends at both detectors
abbrev pub is_beside : DetectorGraph → ℕ → ℕ → Bool
is_beside g u x = list_any (ends_at g x) (incident_edges g u)

-- The members are what n edges reach, and those that stand before `from` have all their neighbours
-- among them.
pub record IsLevel (g : DetectorGraph) (homes : List ℕ) (w n from : ℕ)
    (members : List ℕ) : Type 0 where
  pub reached : (x : ℕ) → x < g.vertices → is_in members x ≡ is_reached g homes w n x
  pub closed : (u x : ℕ) → is_in (take from members) u ≡ true → is_beside g u x ≡ true →
      w ≤ home_of homes x → is_in members x ≡ true
  pub within : from ≤ length members
