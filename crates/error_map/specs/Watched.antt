-- The observables by the places that their bits speak of, as keys of the places and their numbers.
use Rattle.std.specs.Prelude.{◌≡◌, ◌<◌, ℕ, zero, suc, Bool, true, List, [], Contains, length, flat_map, slice_get, Some}
use Rattle.std.specs.List.{range_with_len}
use Rattle.std.specs.List.Sorted.{IsStrictlyIncreasing}
use Rattle.std.specs.Option.{option_map_or}
use Rattle.graph_model.specs.Graph.{is_in}
use Rattle.surface_model.specs.Layout.{Place, Region}
use Rattle.surface_model.specs.Measurements.{Bit, Readout, Outcome}
use Rattle.measure_map.specs.Placed.{Placed, PlacedObservable}
use Rattle.error_map.specs.Keys.{key_of, region_keys}
use Rattle.error_map.specs.declared.keys.Key.{Key}

-- the first of a number and the one before it, where there is one, and how many they are
abbrev pub first_of : ℕ → ℕ
first_of zero = 0
first_of (suc n) = n

abbrev pub count_of : ℕ → ℕ
count_of zero = 1
count_of (suc n) = 2

-- the places that a bit speaks of: the qubit that is read, or those that the corner covers, of
-- which its own is one
abbrev pub region_near : Bit → Region
region_near (Readout q) = record { row = q.row; column = q.column; height = 1; width = 1 }
region_near (Outcome c) =
    record {
      row = first_of c.row;
      column = first_of c.column;
      height = count_of c.row;
      width = count_of c.column;
    }

-- the keys of an observable's bits, by their places in its slot's line
abbrev pub bit_keys : ℕ → List Bit → ℕ → List Key
bit_keys n line k = option_map_or (λ bit. region_keys n (region_near bit)) (slice_get line k) []

-- those of the observable of a number
abbrev pub observable_keys : Placed → ℕ → List Key
observable_keys m n =
    option_map_or
    (λ (x : PlacedObservable). option_map_or (λ line. flat_map (bit_keys n line) x.places)
    (slice_get m.lines x.slot) []) (slice_get m.observables n) []

abbrev pub watch_keys : Placed → List Key
watch_keys m = flat_map (observable_keys m) (range_with_len 0 (length m.observables))

-- the keys of a map, and no others
pub record IsWatch (m : Placed) (keys : List Key) : Type 0 where
  pub complete : (key : Key) → Contains (watch_keys m) key → Contains keys key
  pub within : (key : Key) → Contains keys key → key.number < length m.observables

-- of the numbers that pass a test and that the place has a key with, those of the first keys
pub record AreTaken (p : ℕ → Bool) (keys : List Key) (q : Place) (at : ℕ)
    (numbers : List ℕ) : Type 0 where
  pub rising : IsStrictlyIncreasing numbers
  pub passed : (n : ℕ) → is_in numbers n ≡ true → p n ≡ true
  pub inhabited : (n : ℕ) → is_in numbers n ≡ true →
      (i : ℕ) × (i < at) × (slice_get keys i ≡ Some (key_of n q))
  pub complete : (n i : ℕ) → p n ≡ true → i < at → slice_get keys i ≡ Some (key_of n q) →
      is_in numbers n ≡ true
