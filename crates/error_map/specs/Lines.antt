-- The bits of a slot's line, and the mechanisms of the slot.
use Rattle.std.specs.Prelude.{ℕ, Option, Some, None, List, ◌++◌}
use Rattle.std.specs.List.{filter_map}
use Rattle.surface_model.specs.Layout.{Place}
use Rattle.surface_model.specs.Errors.{ReadoutError, SpaceX, SpaceZ, OutcomeError, Mechanism, of_class}
use Rattle.slot_bits.specs.declared.bits.Bit.{Bit}
use Rattle.slot_bits.specs.declared.bits.Bit.TheVariants.{Readout, Outcome}

-- the qubit that is read, and the corner of the outcome
abbrev pub readout_place : Bit → Option Place
readout_place (Readout q) = Some q
readout_place (Outcome c) = None

abbrev pub outcome_place : Bit → Option Place
outcome_place (Readout q) = None
outcome_place (Outcome c) = Some c

abbrev pub readout_places : List Bit → List Place
readout_places line = filter_map readout_place line

abbrev pub outcome_places : List Bit → List Place
outcome_places line = filter_map outcome_place line

-- the mechanisms of a slot with this line and these active qubits
abbrev pub mechanisms_with : ℕ → List Bit → List Place → List Mechanism
mechanisms_with t line qubits =
    of_class t ReadoutError (readout_places line) ++ of_class t SpaceX qubits
    ++ of_class t SpaceZ qubits ++ of_class t OutcomeError (outcome_places line)
