-- Where the detectors of a window stand among them, by tables over all numbers; and how far one has
-- come in a rising list.
use Rattle.std.specs.Prelude.{◌≡◌, ◌<◌, ◌≤◌, ℕ, List, length, slice_index}
use Rattle.std.specs.List.Sorted.{IsStrictlyIncreasing}
use Rattle.graph_model.specs.Limits.{most_places}

-- The detectors rise, and the table has at the number of each its place among them. What else it
-- has says nothing.
pub record HasPlaces (detectors table : List ℕ) : Type 0 where
  pub rising : IsStrictlyIncreasing detectors
  pub few : length detectors ≤ most_places
  pub places : (i : ℕ) → i < length detectors →
      slice_index table (slice_index detectors i) ≡ i

-- the detectors of a window of a graph that has so many
pub record Located : Type 0 where
  pub detectors : List ℕ
  pub vertices : ℕ

-- the numbers of the list that stand before this place are below n
abbrev pub AreBelow : List ℕ → ℕ → ℕ → Type 0
AreBelow numbers place n = (k : ℕ) → k < place → slice_index numbers k < n

-- the numbers before the place are below n, and what stands at it is not
pub record IsFirstFrom (numbers : List ℕ) (n place : ℕ) : Type 0 where
  pub within : place ≤ length numbers
  pub below : AreBelow numbers place n
  pub above : place < length numbers → n ≤ slice_index numbers place
