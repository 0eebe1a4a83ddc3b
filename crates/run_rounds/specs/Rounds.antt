-- How the bytes after an accepted header were read: the rows of the slots, one after another, and
-- where the reading ended.
use Rattle.std.specs.Prelude.{◌≡◌, ◌⊎◌, ℕ, ◌+◌, Bool, List, [], ◌∷◌, ◌++◌, length, map, Option, Result, Ok, Err}
use Rattle.std.specs.List.{range_with_len}
use Rattle.port_io.specs.Traffic.{IsAtEnd}
use Rattle.surface_model.specs.Schedules.{Schedule}
use Rattle.surface_model.specs.Layout.{last_slot}
use Rattle.surface_model.specs.Measurements.{bits_of_slot}
use Rattle.surface_model.specs.Reading.{Reading, RowKind, Ending, Good, RowFault, EndedAt, reading_of, reading_before_more}
use Rattle.syndrome_source.specs.Rows.{kind_of}
use Rattle.syndrome_source.specs.declared.error.RowError.{RowError}
use Rattle.syndrome_source.specs.declared.error.RowError.TheVariants.{Fault, Ended, ReadFault, Memory}

-- how many bits the row of each slot has
abbrev pub lengths_of : Schedule → List ℕ
lengths_of s = map (λ t. length (bits_of_slot s t)) (range_with_len 0 (last_slot s + 1))

-- how these bytes read as the schedule's rows
abbrev pub rounds_of : Schedule → List ℕ → Reading
rounds_of s bytes = reading_of (lengths_of s) (s.rounds_line + 1) bytes

-- those rows of the bytes that have their line feed
abbrev pub fed_rows : Schedule → List ℕ → List (List Bool)
fed_rows s bytes = (reading_before_more (lengths_of s) (s.rounds_line + 1) bytes).rows

-- nothing is wrong so far
abbrev pub IsFaultless : Ending → Type 0
IsFaultless Good = Unit {0}
IsFaultless (RowFault line kind) = ⊥
IsFaultless (EndedAt line) = Unit {0}

-- the last of the bytes is the first that offends, whatever follows
pub record IsFirstOffence (s : Schedule) (bytes : List ℕ) (rows : List (List Bool)) (line : ℕ)
    (kind : RowKind) : Type 0 where
  pub front : List ℕ
  pub byte : ℕ
  pub bytes_are : bytes ≡ front ++ byte ∷ []
  pub sound : IsFaultless (rounds_of s front).ending
  pub wrong : (rest : List ℕ) →
      rounds_of s (bytes ++ rest) ≡ record { rows = rows; ending = RowFault line kind }

-- Nothing is wrong in these bytes, and the rows are those with their line feed, or with the last
-- that ends with the input
abbrev pub AreSoFar : Schedule → List ℕ → Option (List ℕ) → List (List Bool) → Type 0
AreSoFar s bytes left rows =
    IsFaultless (rounds_of s bytes).ending
    × ((rows ≡ fed_rows s bytes) ⊎ (IsAtEnd left × (rows ≡ (rounds_of s bytes).rows)))

-- These bytes were taken and these rows read, and the reading ended so: with the input, after the
-- last row or before; at the first byte that offends; or where a take failed
abbrev pub AreRounds : {A : Type 0} → Schedule → List ℕ → Option (List ℕ) → List (List Bool) →
    Result A RowError → Type 0
AreRounds s bytes left rows (Ok done) =
    IsAtEnd left × (rounds_of s bytes ≡ record { rows = rows; ending = Good })
AreRounds s bytes left rows (Err (Fault line kind)) =
    IsFirstOffence s bytes rows line (kind_of kind)
AreRounds s bytes left rows (Err (Ended line)) =
    IsAtEnd left × (rounds_of s bytes ≡ record { rows = rows; ending = EndedAt line })
AreRounds s bytes left rows (Err ReadFault) = AreSoFar s bytes left rows
AreRounds s bytes left rows (Err Memory) = ⊥

-- These rows are read of the bytes, whether the reading goes on or has ended
abbrev pub AreRead : Schedule → List ℕ → Option (List ℕ) → List (List Bool) → Type 0
AreRead s bytes left rows =
    AreSoFar s bytes left rows
    ⊎ ((end : Result (Unit {0}) RowError) × AreRounds s bytes left rows end)
