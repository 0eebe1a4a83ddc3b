-- Lists that lie in one flat list.
use Rattle.std.specs.Prelude.{◌≡◌, ◌<◌, ◌≤◌, ◌+◌, ◌-◌, ℕ, List, length, map, sum_by, slice_index, slice_range, take}
use Rattle.std.specs.List.{range_with_len}

-- each list begins at its bound and ends at the next one, and the last ends with the values
pub record IsCut (bounds values : List ℕ) : Type 0 where
  pub begun : 0 < length bounds
  pub first : slice_index bounds 0 ≡ 0
  pub rising : (i : ℕ) → i + 1 < length bounds → slice_index bounds i ≤ slice_index bounds (i + 1)
  pub within : (i : ℕ) → i < length bounds → slice_index bounds i ≤ length values
  pub full : slice_index bounds (length bounds - 1) ≡ length values

abbrev pub lists_in : (bounds values : List ℕ) → List (List ℕ)
lists_in bounds values =
    map (λ i. slice_range values (slice_index bounds i) (slice_index bounds (i + 1)))
    (range_with_len 0 (length bounds - 1))

-- how many numbers the lists before this one have
abbrev pub before : List (List ℕ) → ℕ → ℕ
before lists i = sum_by length (take i lists)
