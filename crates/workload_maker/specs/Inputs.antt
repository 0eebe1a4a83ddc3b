-- The inputs that are made: a header, and a row for each slot.
use Rattle.std.specs.Prelude.{◌≡◌, ℕ, ◌+◌, Bool, List, ◌++◌, length, map, None}
use Rattle.std.specs.List.{range_with_len}
use Rattle.graph_model.specs.Parity.{parity}
use Rattle.surface_model.specs.Schedules.{Schedule}
use Rattle.surface_model.specs.Layout.{last_slot}
use Rattle.surface_model.specs.Measurements.{HasTooManyDetectors, bits_of_slot, detectors}
use Rattle.surface_model.specs.Errors.{Mechanism, flips_bit}
use Rattle.surface_model.specs.Parse.{schedule_of}
use Rattle.surface_model.specs.Rules.{rule_fault}
use Rattle.surface_model.specs.Text.{text_fault}
use Rattle.workload_maker.specs.Headers.{made_header}
use Rattle.workload_maker.specs.Draws.{made_errors}
use Rattle.workload_maker.specs.Digits.{rows_text}
use Rattle.workload_maker.specs.declared.make_error.MakeError.{MakeError}
use Rattle.workload_maker.specs.declared.make_error.MakeError.TheVariants.{TooLarge, Memory}

-- the row of a slot: each bit is 1 where an odd number of the errors change it
abbrev pub row_of : Schedule → List Mechanism → ℕ → List Bool
row_of s es t =
    map (λ bit. parity (λ e. flips_bit s e (record { slot = t; bit = bit })) es) (bits_of_slot s t)

unfoldable pub rows_of : Schedule → List Mechanism → List (List Bool)
rows_of s es = map (row_of s es) (range_with_len 0 (last_slot s + 1))

-- the whole input of this seed
unfoldable pub made_text : (distance patches slots seed : ℕ) → List ℕ
made_text d n l seed =
    let header = made_header d n l in
    let s = schedule_of header in
    header ++ rows_text (rows_of s (made_errors s seed))

-- no line of the header is at fault, and its schedule breaks no rule
pub record IsSound (header : List ℕ) : Type 0 where
  pub faultless : text_fault header ≡ None
  pub ruled : rule_fault (schedule_of header) ≡ None

-- a schedule has too many detectors, whose number is reported
abbrev pub HaveTooMany : Schedule → MakeError → Type 0
HaveTooMany s (TooLarge count) = HasTooManyDetectors s × (count ≡ length (detectors s))
HaveTooMany s Memory = Unit {0}

-- nothing is made: the schedule has too many detectors, or memory was wanting
abbrev pub IsRefused : (distance patches slots : ℕ) → MakeError → Type 0
IsRefused d n l error = HaveTooMany (schedule_of (made_header d n l)) error
