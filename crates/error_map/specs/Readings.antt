-- The readings of a schedule's qubits, as keys of their places and slots.
use Rattle.std.specs.Prelude.{◌≡◌, ◌+◌, ℕ, Bool, true, List, [], ◌∷◌, Contains, if◌then◌else◌}
use Rattle.std.specs.List.{list_any}
use Rattle.surface_model.specs.declared.Basis.{Basis}
use Rattle.surface_model.specs.declared.Basis.TheVariants.{Z, X}
use Rattle.surface_model.specs.Schedules.{same_basis, MergeLine, ReadLine, Schedule}
use Rattle.surface_model.specs.Layout.{Place, Region, has_qubit, last_slot, readings_at, region_of_patch, split_slot}
use Rattle.surface_model.specs.Measurements.{same_place}
use Rattle.patch_layout.specs.Regions.{seam_basis, seam_region}
use Rattle.error_map.specs.declared.types.Wanted.{Wanted}
use Rattle.error_map.specs.declared.types.Wanted.TheVariants.{Every, One}
use Rattle.error_map.specs.Keys.{AreKeys, key_of, region_keys}
use Rattle.error_map.specs.declared.keys.Key.{Key}

-- whether the place is asked for: all are, or one
abbrev pub is_wanted : Wanted → Place → Bool
is_wanted Every q = true
is_wanted (One p) q = same_place p q

-- the keys of those of a region's places that are asked for
abbrev pub wanted_keys : Wanted → ℕ → Region → List Key
wanted_keys Every n r = region_keys n r
wanted_keys (One q) n r = if has_qubit r q then key_of n q ∷ [] else []

-- the keys of a line that reads in the basis
abbrev pub read_keys : Schedule → Wanted → Basis → ReadLine → List Key
read_keys s wanted basis line =
    if same_basis basis line.basis then wanted_keys wanted line.slot
    (region_of_patch s line.patch) else []

abbrev pub split_keys : Schedule → Wanted → Basis → MergeLine → List Key
split_keys s wanted basis merge =
    if same_basis basis (seam_basis s merge) then wanted_keys wanted (split_slot merge)
    (seam_region s merge) else []

-- the keys of the readings in a basis of the places that are asked for
pub record AreReadings (s : Schedule) (wanted : Wanted) (basis : Basis)
    (keys : List Key) : Type 0 where
  pub complete : (t : ℕ) (q : Place) → is_wanted wanted q ≡ true →
      list_any (same_basis basis) (readings_at s t q) ≡ true → Contains keys (key_of t q)
  pub sound : (t : ℕ) (q : Place) → Contains keys (key_of t q) →
      list_any (same_basis basis) (readings_at s t q) ≡ true

-- the keys of the readings in each basis, and the slot after the last
pub record ReadKeys : Type 0 where
  pub z : List Key
  pub x : List Key
  pub end : ℕ

pub record AreSearchable (r : ReadKeys) : Type 0 where
  pub z : AreKeys r.z
  pub x : AreKeys r.x

-- those of a schedule
pub record AreOf (s : Schedule) (wanted : Wanted) (r : ReadKeys) : Type 0 where
  pub z : AreReadings s wanted Z r.z
  pub x : AreReadings s wanted X r.x
  pub end : r.end ≡ last_slot s + 1

-- the number of a basis
abbrev pub pick : Basis → ℕ → ℕ → ℕ
pick Z z x = z
pick X z x = x
