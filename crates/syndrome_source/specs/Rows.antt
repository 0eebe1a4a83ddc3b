-- Where the taking of a row ends, in the words of how rows read.
use Rattle.std.specs.Prelude.{◌≡◌, ◌⊎◌, ℕ, Bool, true, false, List, [], ◌∷◌, ◌++◌, length, map, Option, if◌then◌else◌}
use Rattle.port_io.specs.Traffic.{IsAtEnd}
use Rattle.surface_model.specs.Reading.{RowKind, Whole, Ended as NoMore, next_row, at_end, RowFault, Foreign, Short as TooShort, Long as TooLong, Trailing as Behind, Fault as Wrong}
use Rattle.syndrome_source.specs.declared.error.RowKind.{RowKind as Kind}
use Rattle.syndrome_source.specs.declared.error.RowKind.TheVariants.{Short, Long, Byte, Trailing}
use Rattle.syndrome_source.specs.declared.error.RowError.{RowError}
use Rattle.syndrome_source.specs.declared.error.RowError.TheVariants.{Fault, Ended, ReadFault, Memory}
use Rattle.syndrome_source.specs.declared.rows.RowEnd.{RowEnd}
use Rattle.syndrome_source.specs.declared.rows.RowEnd.TheVariants.{LineFeed, LineFeedOrInput}

abbrev pub kind_of : Kind → RowKind
kind_of Short = TooShort
kind_of Long = TooLong
kind_of Byte = Foreign
kind_of Trailing = Behind

-- whether the end of input may stand for the line feed, as it may in the last row
abbrev pub is_last : RowEnd → Bool
is_last LineFeed = false
is_last LineFeedOrInput = true

-- Whatever follows, the bytes are this row and no more; of the last row the input may have ended
-- after the bits
abbrev pub IsRow : ℕ → Bool → List Bool → List ℕ → Option (List ℕ) → Type 0
IsRow count false row bytes left =
    (rest : List ℕ) → next_row count false (bytes ++ rest) ≡ Whole row rest
IsRow count true row bytes left =
    ((rest : List ℕ) → next_row count true (bytes ++ rest) ≡ Whole row rest)
    ⊎ (IsAtEnd left × (next_row count true bytes ≡ Whole row []))

-- the row is begun: nothing in it is wrong, and its line feed was not taken
abbrev pub IsBegun : ℕ → List ℕ → Type 0
IsBegun count bytes = next_row count false bytes ≡ NoMore

-- the last of the bytes is the first that offends, whatever follows
pub record IsOffence (count : ℕ) (last : Bool) (bytes : List ℕ) (kind : RowKind) : Type 0 where
  pub front : List ℕ
  pub byte : ℕ
  pub bytes_are : bytes ≡ front ++ byte ∷ []
  pub sound : IsBegun count front
  pub wrong : (rest : List ℕ) → next_row count last (bytes ++ rest) ≡ Wrong kind

-- what was taken where no row of so many bits was
abbrev pub IsNoRow : ℕ → ℕ → Bool → List ℕ → Option (List ℕ) → RowError → Type 0
IsNoRow number count last bytes left (Fault line kind) =
    (line ≡ number) × IsOffence count last bytes (kind_of kind)
IsNoRow number count last bytes left (Ended line) =
    (line ≡ number) × IsAtEnd left × (next_row count last bytes ≡ NoMore)
IsNoRow number count last bytes left ReadFault = IsBegun count bytes
IsNoRow number count last bytes left Memory = bytes ≡ []

-- what was taken where the input did not end: one byte, after the last row
abbrev pub IsNoEnd : ℕ → List ℕ → RowError → Type 0
IsNoEnd number bytes (Fault line kind) =
    (length bytes ≡ 1)
    × ((rest : List ℕ) → (at_end number (bytes ++ rest)).ending ≡ RowFault line (kind_of kind))
IsNoEnd number bytes (Ended line) = ⊥
IsNoEnd number bytes ReadFault = bytes ≡ []
IsNoEnd number bytes Memory = ⊥

-- ---- on the way

-- a bit as it is written
abbrev pub byte_of : Bool → ℕ
byte_of bit = if bit then 49 else 48

abbrev pub written : List Bool → List ℕ
written row = map byte_of row
