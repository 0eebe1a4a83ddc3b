-- What is taken of a script, line by line.
use Rattle.std.specs.Prelude.{◌≡◌, ◌≢◌, ◌<◌, ◌⊎◌, ℕ, ◌+◌, ◌-◌, List, [], ◌∷◌, ◌++◌, Option, None, Some}
use Rattle.std.specs.Bool.{⊤}
use Rattle.port_io.specs.Traffic.{IsAtEnd}
use Rattle.replay_model.specs.Scripts.{command_of, due_from, Ended as NotWhole, line_within, most_line_bytes, TooLong as Longer, Unfit, Whole}
use Rattle.script_reader.specs.declared.error.ScriptError.{ScriptError}
use Rattle.script_reader.specs.declared.error.ScriptError.TheVariants.{Fault, Ended, ReadFault}
use Rattle.script_reader.specs.declared.found.Found.{Found}
use Rattle.script_reader.specs.declared.found.Found.TheVariants.{Line, Last, End}
use Rattle.script_reader.specs.declared.taking.LineEnd.{LineEnd}
use Rattle.script_reader.specs.declared.taking.LineEnd.TheVariants.{Whole as AtFeed, Last as AtInput, Input, TooLong, Failed}

-- where a reader stands: the number of the line that comes next, and how many lines may still come
pub record At : Type 0 where
  pub line : ℕ
  pub room : ℕ

abbrev pub at : ℕ → ℕ → At
at line room = record { line = line; room = room }

-- after one line
abbrev pub behind : At → At
behind where_ = at (where_.line + 1) (where_.room - 1)

-- after a line that was read; where there is none it stays
abbrev pub after_read : At → Found → At
after_read where_ (Line command) = behind where_
after_read where_ (Last command) = behind where_
after_read where_ End = where_

-- where a line was read, one more may come
abbrev pub MayRead : ℕ → Found → Type 0
MayRead room (Line command) = 0 < room
MayRead room (Last command) = 0 < room
MayRead room End = ⊤

-- ---- the bytes of a line

-- Whatever follows, these bytes are the line, with its line feed, and no more.
abbrev pub IsFed : List ℕ → List ℕ → Type 0
IsFed line bytes = (rest : List ℕ) → line_within most_line_bytes (bytes ++ rest) ≡ Whole line rest

-- The input ended after these bytes, which are the line.
abbrev pub IsLast : List ℕ → List ℕ → Option (List ℕ) → Type 0
IsLast line bytes left = IsAtEnd left × (line_within most_line_bytes bytes ≡ Whole line [])

-- Whatever follows, these bytes are one more than a line may have.
abbrev pub IsTooLong : List ℕ → Type 0
IsTooLong bytes = (rest : List ℕ) → line_within most_line_bytes (bytes ++ rest) ≡ Longer rest

-- a line, which has a byte or a line feed
abbrev pub IsLine : List ℕ → List ℕ → Option (List ℕ) → Type 0
IsLine line bytes left = (bytes ≢ []) × (IsFed line bytes ⊎ IsLast line bytes left)

-- the line is begun: no line feed and no byte too many was taken
abbrev pub IsBegun : List ℕ → Type 0
IsBegun bytes = line_within most_line_bytes bytes ≡ Whole bytes []

-- ---- what the reading of one line takes

-- the line of this command, with its line feed or up to the end of input, where one more may come;
-- or nothing, where the input has ended
abbrev pub IsRead : At → Found → List ℕ → Option (List ℕ) → Type 0
IsRead where_ (Line command) bytes left =
    (line : List ℕ) × (bytes ≢ []) × IsFed line bytes × (command_of line ≡ Some command)
    × (0 < where_.room)
IsRead where_ (Last command) bytes left =
    (line : List ℕ) × (bytes ≢ []) × IsLast line bytes left × (command_of line ≡ Some command)
    × (0 < where_.room)
IsRead where_ End bytes left = (bytes ≡ []) × IsAtEnd left

-- a line that is too long, that is no command, or that is one too many
abbrev pub IsBad : At → List ℕ → Option (List ℕ) → Type 0
IsBad where_ bytes left =
    IsTooLong bytes
    ⊎ ((line : List ℕ) × IsLine line bytes left × ((command_of line ≡ None) ⊎ (where_.room ≡ 0)))

-- what was taken where no line was read
abbrev pub IsNoLine : At → List ℕ → Option (List ℕ) → ScriptError → Type 0
IsNoLine where_ bytes left (Fault line) = (line ≡ where_.line) × IsBad where_ bytes left
IsNoLine where_ bytes left (Ended line) = ⊥
IsNoLine where_ bytes left ReadFault = IsBegun bytes

-- ---- the line that is due

-- the last of the bytes is the first that doesn't fit, whatever follows
pub record IsUnfit (due bytes : List ℕ) : Type 0 where
  pub front : List ℕ
  pub byte : ℕ
  pub bytes_are : bytes ≡ front ++ byte ∷ []
  pub sound : due_from due front ≡ NotWhole
  pub unfit : (rest : List ℕ) → due_from due (bytes ++ rest) ≡ Unfit

-- what was taken where the line that is due, of this number, was not
abbrev pub IsNotDue : List ℕ → ℕ → List ℕ → Option (List ℕ) → ScriptError → Type 0
IsNotDue due number bytes left (Fault line) = (line ≡ number) × IsUnfit due bytes
IsNotDue due number bytes left (Ended line) =
    (line ≡ number) × IsAtEnd left × (due_from due bytes ≡ NotWhole)
IsNotDue due number bytes left ReadFault = due_from due bytes ≡ NotWhole

-- ---- on the way

-- what was taken for the bytes of a line, by what ended it
abbrev pub IsEndOf : LineEnd → List ℕ → List ℕ → Option (List ℕ) → Type 0
IsEndOf AtFeed line bytes left = (bytes ≢ []) × IsFed line bytes
IsEndOf AtInput line bytes left = (bytes ≢ []) × IsLast line bytes left
IsEndOf Input line bytes left = (bytes ≡ []) × IsAtEnd left
IsEndOf TooLong line bytes left = IsTooLong bytes
IsEndOf Failed line bytes left = IsBegun bytes
