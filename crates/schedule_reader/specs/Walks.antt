-- A text read line by line.
use Rattle.std.specs.Prelude.{ℕ, ◌+◌, Bool, not, ◌&&◌, ◌||◌, nat_le, length, if◌then◌else◌, List, [], ◌∷◌, Option, Some, None, Result, Ok, Err, option_map}
use Rattle.surface_model.specs.Limits.{most_text_bytes}
use Rattle.surface_model.specs.Text.{TextLine, LineFault, BadLine, Fault, is_empty, is_foreign, is_rounds, is_skipped, fields_of, ends_with_feed}
use Rattle.schedule_reader.specs.Known.{Tables, fault_in, with_line}
use Rattle.schedule_reader.specs.Pieces.{others}

abbrev pub text_line : ℕ → List ℕ → TextLine
text_line number bytes = record { number = number; fields = fields_of bytes }

abbrev pub fault_at : ℕ → Option LineFault → Option Fault
fault_at number found = option_map (λ kind. record { line = number; kind = kind }) found

abbrev pub is_bad_line : Bool → List (List ℕ) → List ℕ → Bool
is_bad_line whole rest bytes = is_foreign bytes || (is_empty rest && not (whole && is_rounds bytes))

-- what is wrong with the next line, which stands before these
abbrev pub judged_in : Bool → Tables → List (List ℕ) → List ℕ → Option LineFault
judged_in whole t rest bytes =
    if is_bad_line whole rest bytes then Some BadLine
    else if is_skipped bytes then None
    else fault_in t (others rest) (text_line 0 bytes)

abbrev pub and_taken : Tables → ℕ → List ℕ → Tables
and_taken t number bytes = if is_skipped bytes then t else with_line t (text_line number bytes)

abbrev pub or_fault : Option LineFault → ℕ → Result Tables Fault → Result Tables Fault
or_fault None number later = later
or_fault (Some kind) number later = Err (record { line = number; kind = kind })

-- what the lines give, the first of this number, or the first fault
abbrev pub walk : Bool → Tables → ℕ → List (List ℕ) → Result Tables Fault
walk whole t number [] = Ok t
walk whole t number (bytes ∷ rest) = or_fault (judged_in whole t rest bytes) number
    (walk whole (and_taken t number bytes) (number + 1) rest)

-- the text's last line has its line feed and ends within so many bytes
abbrev pub is_whole : List ℕ → Bool
is_whole text = ends_with_feed text && nat_le (length text) most_text_bytes
