-- What is measured, with each bit of a detector or an observable named by where it stands in its
-- slot's line.
use Rattle.std.specs.Prelude.{◌≡◌, ◌==◌, ◌+◌, ◌<◌, ◌≤◌, ℕ, zero, suc, Bool, false, if◌then◌else◌, List, [], ◌∷◌, option_map, filter, map, slice_get, slice_index_or, Some, length}
use Rattle.std.specs.List.{filter_map, range_with_len}
use Rattle.graph_model.specs.declared.Tag.{Tag}
use Rattle.surface_model.specs.Schedules.{Schedule}
use Rattle.surface_model.specs.Layout.{Place, last_slot}
use Rattle.surface_model.specs.Measurements.{Bit, Readout, Outcome, detector_at, bits_of_slot, Detector, detectors, Observable, observables, parity_of}
use Rattle.surface_model.specs.Accepted.{IsAccepted}
use Rattle.surface_model.specs.Tags.{tag_of}
pub use Rattle.slot_bits.specs.Observed.{PlacedObservable, place_of, placed_observable}

-- a detector: its slot and the tile of its corner, the corner, and its bits, each by its slot and
-- its place in that slot's line
pub record PlacedDetector : Type 0 where
  pub tag : Tag
  pub corner : Place
  pub bits : List (ℕ × ℕ)

-- the line of each slot, from 0 to the last, and all detectors and observables in the order of
-- their numbers
pub record Placed : Type 0 where
  pub lines : List (List Bit)
  pub detectors : List PlacedDetector
  pub observables : List PlacedObservable

-- with each bit named by its slot and its place there
abbrev pub placed_detector : Schedule → Detector → PlacedDetector
placed_detector s d =
    record { tag = tag_of s d; corner = d.corner; bits = map (λ m. (m.slot, place_of s m)) d.bits }

-- the detector of slot t at an outcome's corner, if there is one
abbrev pub detectors_of : Schedule → ℕ → Bit → List PlacedDetector
detectors_of s t (Readout q) = []
detectors_of s t (Outcome c) =
    filter_map (λ p. option_map (placed_detector s) (detector_at s t p)) (c ∷ [])

-- the map of a schedule's measurements
unfoldable pub map_of : Schedule → Placed
map_of s = record {
  lines = map (bits_of_slot s) (range_with_len 0 (last_slot s + 1));
  detectors = map (placed_detector s) (detectors s);
  observables = map (placed_observable s) (observables s);
}

-- n is the number of the first detector in slot t or after it: those before it are of earlier slots
pub record IsFirstOf (ds : List PlacedDetector) (t n : ℕ) : Type 0 where
  pub within : n ≤ length ds
  pub below : (i : ℕ) (d : PlacedDetector) → i < n → slice_get ds i ≡ Some d → d.tag.slot < t
  pub above : (i : ℕ) (d : PlacedDetector) → n ≤ i → slice_get ds i ≡ Some d → t ≤ d.tag.slot

-- what is measured is that of some schedule that is accepted
pub record IsMap (m : Placed) : Type 0 where
  pub schedule : Schedule
  pub accepted : IsAccepted schedule
  pub given : m ≡ map_of schedule

-- ---- values, where row t has a truth value for each bit of slot t

-- what stands for the slot before this one; before slot 0 there is nothing
abbrev pub before_slot : {X : Type 0} → List (List X) → ℕ → List X
before_slot rows zero = []
before_slot rows (suc t) = slice_index_or rows t []

-- the value of a bit by its slot and place, from the row of a slot and from that of the slot before
abbrev pub slot_value : ℕ → List Bool → List Bool → ℕ × ℕ → Bool
slot_value t before row place = slice_index_or (if place.0 == t then row else before) place.1 false

-- the values of a slot's detectors, in order
unfoldable pub defects_at : Schedule → List (List Bool) → ℕ → List Bool
defects_at s rows t =
    map (λ d. parity_of s rows d.bits) (filter (λ (d : Detector). d.slot == t) (detectors s))

-- the values of a slot's observables, in order
unfoldable pub raws_at : Schedule → List (List Bool) → ℕ → List Bool
raws_at s rows t =
    map (λ o. parity_of s rows o.bits) (filter (λ (o : Observable). o.slot == t) (observables s))
