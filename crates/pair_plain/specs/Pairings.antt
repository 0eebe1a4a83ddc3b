-- Pairings of some of the members, tried in turn.
use Rattle.std.specs.Prelude.{◌≡◌, ◌≤◌, ◌+◌, ◌-◌, ℕ, List, drop, slice_index}
use Rattle.std.specs.List.{remove}
use Rattle.graph_model.specs.Graph.{is_in}
use Rattle.matching_model.specs.Matchings.{AreApart, pair_ends, matching_cost}

-- each of the members stands in just one pair
pub record IsPairing (left : List ℕ) (pairs : List (ℕ × ℕ)) : Type 0 where
  pub apart : AreApart (pair_ends pairs)
  pub same : (x : ℕ) → is_in (pair_ends pairs) x ≡ is_in left x

-- no pairing of the members costs less
pub record IsCheapest (dist : ℕ → ℕ → ℕ) (left : List ℕ) (pairs : List (ℕ × ℕ)) : Type 0 where
  pub pairing : IsPairing left pairs
  pub least : (others : List (ℕ × ℕ)) → IsPairing left others →
      matching_cost dist pairs ≤ matching_cost dist others

-- the members but the first and the one at a place
abbrev pub without : List ℕ → ℕ → List ℕ
without left at = remove (drop 1 left) (at - 1)

-- no pairing that joins the first with the member at the place costs less
abbrev pub IsLeastAt : (ℕ → ℕ → ℕ) → List ℕ → ℕ → ℕ → Type 0
IsLeastAt dist left at cost = (others : List (ℕ × ℕ)) → IsPairing (without left at) others →
    cost ≤ dist (slice_index left 0) (slice_index left at) + matching_cost dist others
