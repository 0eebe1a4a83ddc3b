-- Where the detectors stand that a mechanism flips.
use Rattle.std.specs.Prelude.{ℕ, suc, Bool, ◌&&◌, ◌==◌, Option, List, [], ◌∷◌, map, filter, position}
use Rattle.std.specs.List.{filter_map}
use Rattle.surface_model.specs.declared.Basis.{Basis}
use Rattle.surface_model.specs.declared.Basis.TheVariants.{Z, X}
use Rattle.surface_model.specs.Schedules.{same_basis}
use Rattle.surface_model.specs.Layout.{Place, kind}
use Rattle.surface_model.specs.Measurements.{same_place}
use Rattle.surface_model.specs.Errors.{ErrorClass, ReadoutError, SpaceX, SpaceZ, OutcomeError, Mechanism}
use Rattle.surface_laws.specs.LayoutLaws.{corners}
use Rattle.measure_map.specs.Placed.{PlacedDetector}

-- a slot and a corner, where there may be a detector
pub record Spot : Type 0 where
  pub slot : ℕ
  pub corner : Place

abbrev pub spots_in : ℕ → List Place → List Spot
spots_in t places = map (λ c. record { slot = t; corner = c }) places

-- the corners round a qubit whose checks are of the basis
abbrev pub corners_in : Basis → Place → List Place
corners_in basis q = filter (λ c. same_basis (kind c) basis) (corners q)

-- a wrong readout shows at all corners round the qubit, a space error at those of one basis, and a
-- wrong outcome at its corner in two slots
abbrev pub spots_of : ErrorClass → ℕ → Place → List Spot
spots_of ReadoutError t q = spots_in t (corners q)
spots_of SpaceX t q = spots_in t (corners_in Z q)
spots_of SpaceZ t q = spots_in t (corners_in X q)
spots_of OutcomeError t c =
    record { slot = t; corner = c } ∷ record { slot = suc t; corner = c } ∷ []

abbrev pub spots : Mechanism → List Spot
spots e = spots_of e.class e.slot e.place

-- whether the detector stands there
abbrev pub is_at : Spot → PlacedDetector → Bool
is_at k d = d.tag.slot == k.slot && same_place d.corner k.corner

-- the number of the detector there
abbrev pub number_at : List PlacedDetector → Spot → Option ℕ
number_at detectors k = position (is_at k) detectors

-- the numbers of the detectors that the mechanism flips, where there are any
abbrev pub ends_found : List PlacedDetector → Mechanism → List ℕ
ends_found detectors e = filter_map (number_at detectors) (spots e)
