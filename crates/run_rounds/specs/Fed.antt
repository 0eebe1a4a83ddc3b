-- The rows of the slots where a script is to follow them: each has its line feed, the last too, and
-- what stands after them is not looked at.
use Rattle.std.specs.Prelude.{◌≡◌, ◌⊎◌, ℕ, ◌+◌, Bool, false, List, [], ◌∷◌, ◌++◌, Option}
use Rattle.port_io.specs.Traffic.{Goes, IsAtEnd, taken}
use Rattle.port_io.specs.declared.port.TapeByte.{TapeByte}
use Rattle.surface_model.specs.Schedules.{Schedule}
use Rattle.surface_model.specs.Layout.{last_slot}
use Rattle.surface_model.specs.Reading.{Reading, RowKind, RowFault, EndedAt, reading_before_more}
use Rattle.syndrome_source.specs.Rows.{IsNoRow, IsRow, kind_of}
use Rattle.syndrome_source.specs.declared.error.RowError.{RowError}
use Rattle.syndrome_source.specs.declared.error.RowError.TheVariants.{Fault, Ended, ReadFault, Memory}
use Rattle.run_rounds.specs.Courses.{AreFed}
use Rattle.run_rounds.specs.Rounds.{lengths_of}
use Rattle.run_rounds.specs.Slots.{AreFolds, At, line_of, next_at, width_of}

-- how these bytes read as the schedule's rows, where more text follows
abbrev pub rows_before_more : Schedule → List ℕ → Reading
rows_before_more s bytes = reading_before_more (lengths_of s) (s.rounds_line + 1) bytes

-- these bytes are the rows of all slots, each with its line feed, and no more
abbrev pub AreAllFed : Schedule → List ℕ → List (List Bool) → Type 0
AreAllFed s bytes rows = AreFed s (last_slot s + 1) bytes rows

-- One slot was read: these bytes are its row with its line feed, and these values are reported
pub record IsSlotFed (old new : At) (values raws : List Bool) (left left' : Option (List ℕ))
    (tape tape' : Option (List TapeByte)) : Type 0 where
  pub bytes : List ℕ
  pub row : List Bool
  pub goes : Goes (taken bytes) left left' tape tape'
  pub is_row : IsRow (width_of old) false row bytes left'
  pub next : new ≡ next_at old row
  pub folds : AreFolds old row values raws

-- What was taken where no slot was read: at want of memory nothing, or a whole row
abbrev pub IsSlotUnfed : At → Option (List ℕ) → List ℕ → RowError → Type 0
IsSlotUnfed at left bytes Memory =
    (bytes ≡ []) ⊎ ((row : List Bool) × IsRow (width_of at) false row bytes left)
IsSlotUnfed at left bytes (Fault line kind) =
    IsNoRow (line_of at) (width_of at) false bytes left (Fault line kind)
IsSlotUnfed at left bytes (Ended line) =
    IsNoRow (line_of at) (width_of at) false bytes left (Ended line)
IsSlotUnfed at left bytes ReadFault = IsNoRow (line_of at) (width_of at) false bytes left ReadFault

-- nothing is wrong in these bytes, and they are fewer than the rows have
abbrev pub AreBegun : Schedule → List ℕ → List (List Bool) → Type 0
AreBegun s bytes rows =
    (line : ℕ) × (rows_before_more s bytes ≡ record { rows = rows; ending = EndedAt line })

-- the last of the bytes is the first that offends, whatever follows
pub record IsRowOffence (s : Schedule) (bytes : List ℕ) (rows : List (List Bool)) (line : ℕ)
    (kind : RowKind) : Type 0 where
  pub front : List ℕ
  pub byte : ℕ
  pub bytes_are : bytes ≡ front ++ byte ∷ []
  pub sound : AreBegun s front rows
  pub wrong : (rest : List ℕ) →
      rows_before_more s (bytes ++ rest) ≡ record { rows = rows; ending = RowFault line kind }

-- What was taken where the rows are not whole: these rows are, and then a byte offends, the input
-- ends, or a take fails
abbrev pub AreUnfed : Schedule → List ℕ → Option (List ℕ) → List (List Bool) → RowError → Type 0
AreUnfed s bytes left rows (Fault line kind) = IsRowOffence s bytes rows line (kind_of kind)
AreUnfed s bytes left rows (Ended line) =
    IsAtEnd left × (rows_before_more s bytes ≡ record { rows = rows; ending = EndedAt line })
AreUnfed s bytes left rows ReadFault = AreBegun s bytes rows
AreUnfed s bytes left rows Memory = ⊥
