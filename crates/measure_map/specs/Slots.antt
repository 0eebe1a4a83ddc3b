-- What a slot's line is made of, line by line of the schedule.
use Rattle.std.specs.Prelude.{◌≡◌, ◌<◌, ◌&&◌, ◌-◌, ◌++◌, ◌∷◌, ℕ, Bool, true, List, [], Option, Some, None, is_some, option_map, position}
use Rattle.std.specs.List.{filter_map, flat_map, range_with_len}
use Rattle.surface_model.specs.declared.Basis.{Basis}
use Rattle.surface_model.specs.Schedules.{Schedule, same_basis}
use Rattle.surface_model.specs.Layout.{Place, board, covered, is_check, kind, region_of_patch}
use Rattle.surface_model.specs.Measurements.{Bit, Readout, Outcome, same_bit, Detector, detector_at, detector_bits}
use Rattle.timetable.specs.Times.{is_quiet}

-- the places, with the slot, of those of the qubits that the line reads
abbrev pub found_places : ℕ → List Bit → List Place → List (ℕ × ℕ)
found_places t line qs =
    filter_map (λ q. option_map (λ k. (t, k)) (position (same_bit (Readout q)) line)) qs

-- a place with its slot, if there is one
abbrev pub one_place : ℕ → Option ℕ → List (ℕ × ℕ)
one_place t (Some k) = (t, k) ∷ []
one_place t None = []

-- the places of a corner's outcomes, in the slot and in the one before, and of the readouts round
-- it
abbrev pub places_round : ℕ → List Bit → List Bit → Place → List (ℕ × ℕ)
places_round t before line corner =
    (one_place t (position (same_bit (Outcome corner)) line)
    ++ one_place (t - 1) (position (same_bit (Outcome corner)) before))
    ++ found_places t line (covered corner)

-- whether the corner has a check of the patch that is of this basis
abbrev pub fixes : Schedule → ℕ → Basis → Place → Bool
fixes s p basis corner = same_basis basis (kind corner) && is_check (region_of_patch s p) corner

-- whether there is a detector at the corner
abbrev pub is_watched : Schedule → ℕ → Place → Bool
is_watched s t corner = is_some (detector_bits s t corner)

-- the detectors of the slots before slot t
abbrev pub detectors_before : Schedule → ℕ → List Detector
detectors_before s t = flat_map (λ u. filter_map (detector_at s u) (board s)) (range_with_len 0 t)

-- there is a slot before, and nothing begins or ends in this one
pub record IsQuietAfter (s : Schedule) (t : ℕ) : Type 0 where
  pub later : 0 < t
  pub quiet : is_quiet s t ≡ true
