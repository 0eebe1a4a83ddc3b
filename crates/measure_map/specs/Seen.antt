-- The crate's types as the definitions' data.
use Rattle.std.specs.Prelude.{◌≡◌, ◌<◌, ℕ, List, length}
use Rattle.surface_model.specs.Schedules.{Schedule}
use Rattle.surface_model.specs.Measurements as measurements
use Rattle.surface_model.specs.Accepted.{IsAccepted}
use Rattle.timetable.specs.Times.{Times, times_of}
use Rattle.slot_bits.specs.Lines.{bits_before}
use Rattle.slot_bits.specs.declared.bits.Bit.{Bit}
use Rattle.slot_bits.specs.Seen.{bits_of}
use Rattle.measure_map.specs.declared.types.MapError.{MapError}
use Rattle.measure_map.specs.declared.types.MapError.TheVariants.{TooLarge, Memory}

-- a schedule is refused where it has too many detectors, with their number
abbrev pub IsRefused : Schedule → MapError → Type 0
IsRefused s (TooLarge detectors) =
    measurements.HasTooManyDetectors s × (detectors ≡ length (measurements.detectors s))
IsRefused s Memory = Unit {0}

-- a slot of a schedule
pub record SlotOf : Type 0 where
  pub schedule : Schedule
  pub slot : ℕ

-- the timetable of an accepted schedule, and the bits of slot t and of the one before
pub record IsSlot (s : Schedule) (table : Times) (t : ℕ) (first last : List Bit) : Type 0 where
  pub accepted : IsAccepted s
  pub times : table ≡ times_of s
  pub slot : t < length table.inits
  pub before : bits_of first ≡ bits_before s t
  pub bits : bits_of last ≡ measurements.bits_of_slot s t
