-- The crate's types as the definitions' data.
use Rattle.std.specs.Prelude.{◌≡◌, ◌+◌, List, map}
use Rattle.std.specs.List.{range_with_len}
use Rattle.surface_model.specs.Schedules.{Schedule}
use Rattle.surface_model.specs.Layout.{last_slot}
use Rattle.surface_model.specs.Measurements as measurements
use Rattle.surface_model.specs.Accepted.{IsAccepted}
use Rattle.slot_bits.specs.declared.bits.Bit.{Bit}
use Rattle.slot_bits.specs.declared.bits.Bit.TheVariants.{Readout, Outcome}

abbrev pub bit_of : Bit → measurements.Bit
bit_of (Readout q) = measurements.Readout q
bit_of (Outcome c) = measurements.Outcome c

abbrev pub bits_of : List Bit → List measurements.Bit
bits_of bits = map bit_of bits

-- the bits of each slot of an accepted schedule
pub record AreBits (s : Schedule) (bits : List (List measurements.Bit)) : Type 0 where
  pub accepted : IsAccepted s
  pub bits_are : bits ≡ map (measurements.bits_of_slot s) (range_with_len 0 (last_slot s + 1))
