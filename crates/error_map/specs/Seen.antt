-- The crate's mechanisms as the definitions' data.
use Rattle.std.specs.Prelude.{ℕ, Bool, false, List, map}
use Rattle.surface_model.specs.declared.Basis.{Basis}
use Rattle.surface_model.specs.declared.Basis.TheVariants.{Z, X}
use Rattle.surface_model.specs.Errors as errors
use Rattle.error_map.specs.declared.types.Class.{Class}
use Rattle.error_map.specs.declared.types.Class.TheVariants.{Readout as ReadoutClass, SpaceX, SpaceZ, Measurement}
use Rattle.error_map.specs.declared.types.Effect.{Effect}
use Rattle.error_map.specs.declared.types.Effect.TheVariants.{Readout, Outcome, Space}
use Rattle.error_map.specs.declared.types.Mechanism.{Mechanism}

abbrev pub class_of : Class → errors.ErrorClass
class_of ReadoutClass = errors.ReadoutError
class_of SpaceX = errors.SpaceX
class_of SpaceZ = errors.SpaceZ
class_of Measurement = errors.OutcomeError

-- which mechanism of the definitions it is
abbrev pub mechanism_of : Mechanism → errors.Mechanism
mechanism_of m =
    record {
      slot = m.slot;
      class = class_of m.class;
      place = record { row = m.row; column = m.col };
    }

abbrev pub mechanisms_of : List Mechanism → List errors.Mechanism
mechanisms_of ms = map mechanism_of ms

-- the space errors that the checks of a basis see
abbrev pub class_seen : Basis → errors.ErrorClass
class_seen Z = errors.SpaceX
class_seen X = errors.SpaceZ

-- the mechanism of an effect; the last slot of which it can change a bit; and whether the readout
-- in that slot shows it
abbrev pub error_in : Effect → errors.Mechanism
error_in (Readout t i j) =
    record { slot = t; class = errors.ReadoutError; place = record { row = i; column = j } }
error_in (Outcome t i j) =
    record { slot = t; class = errors.OutcomeError; place = record { row = i; column = j } }
error_in (Space e) =
    record {
      slot = e.slot;
      class = class_seen e.basis;
      place = record { row = e.row; column = e.col };
    }

abbrev pub next_in : Effect → ℕ
next_in (Readout t i j) = t
next_in (Outcome t i j) = t
next_in (Space e) = e.next

abbrev pub shown_in : Effect → Bool
shown_in (Readout t i j) = false
shown_in (Outcome t i j) = false
shown_in (Space e) = e.shown
