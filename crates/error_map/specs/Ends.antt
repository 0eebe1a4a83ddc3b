-- A search for a detector by where it stands, and the first two of a list of detectors.
use Rattle.std.specs.Prelude.{◌≡◌, ◌<◌, ◌≤◌, ◌==◌, ◌&&◌, ◌||◌, ℕ, Bool, true, false, nat_lt, List, Option, Some, None, [], ◌∷◌, length, slice_get, filter}
use Rattle.std.specs.List.{filter_map}
use Rattle.surface_model.specs.declared.Basis.{Basis}
use Rattle.surface_model.specs.Schedules.{same_basis}
use Rattle.surface_model.specs.Layout.{Place, kind}
use Rattle.measure_map.specs.Placed.{PlacedDetector}
use Rattle.error_map.specs.Spots.{Spot, spots_in, number_at}
use Rattle.error_map.specs.declared.ends.Ends.{Ends}
use Rattle.error_map.specs.declared.ends.Ends.TheVariants.{None as NoEnd, One, Two}

-- the first two of a list
abbrev pub first_two : List ℕ → Ends
first_two [] = NoEnd
first_two (x ∷ []) = One x
first_two (x ∷ y ∷ xs) = Two x y

-- by slot, then row, then column
abbrev pub is_before : Place → Place → Bool
is_before p q = nat_lt p.row q.row || (p.row == q.row && nat_lt p.column q.column)

abbrev pub goes_before : Spot → Spot → Bool
goes_before k l = nat_lt k.slot l.slot || (k.slot == l.slot && is_before k.corner l.corner)

-- where a detector stands, and whether that is before a spot
abbrev pub place_of : PlacedDetector → Spot
place_of d = record { slot = d.tag.slot; corner = d.corner }

abbrev pub is_earlier : Spot → PlacedDetector → Bool
is_earlier k d = goes_before (place_of d) k

-- each detector stands before all later ones
abbrev pub AreInOrder : List PlacedDetector → Type 0
AreInOrder ds = (i j : ℕ) (d e : PlacedDetector) → i < j → slice_get ds i ≡ Some d →
    slice_get ds j ≡ Some e → goes_before (place_of d) (place_of e) ≡ true

-- the detectors below the first number stand before the spot, and those from the second on don't
pub record IsCut (ds : List PlacedDetector) (k : Spot) (low high : ℕ) : Type 0 where
  pub within : (low ≤ high) × (high ≤ length ds)
  pub below : (i : ℕ) (d : PlacedDetector) → i < low → slice_get ds i ≡ Some d →
      is_earlier k d ≡ true
  pub above : (i : ℕ) (d : PlacedDetector) → high ≤ i → slice_get ds i ≡ Some d →
      is_earlier k d ≡ false

-- whether the corner's check has the basis, where one is given
abbrev pub has_basis : Place → Option Basis → Bool
has_basis c (Some basis) = same_basis (kind c) basis
has_basis c None = true

-- the numbers of a slot's detectors at those of the corners that are of the basis
abbrev pub found_in : List PlacedDetector → ℕ → Option Basis → List Place → List ℕ
found_in ds t basis places =
    filter_map (number_at ds) (spots_in t (filter (λ c. has_basis c basis) places))
