-- Lists of bits that slots share.
use Rattle.std.specs.Prelude.{◌<◌, ◌≤◌, ℕ, List, [], All, length, map, slice_index_or}
use Rattle.surface_model.specs.Limits.{most_slots}
use Rattle.surface_model.specs.Measurements.{Bit}

-- the list of each slot, by its number
abbrev pub lists_in : List (List Bit) → List ℕ → List (List Bit)
lists_in lists numbers = map (λ n. slice_index_or lists n []) numbers

pub record IsShared (lists : List (List Bit)) (numbers : List ℕ) : Type 0 where
  pub known : All (λ n. n < length lists) numbers
  pub slots : length numbers ≤ most_slots
  pub few : length lists ≤ length numbers
