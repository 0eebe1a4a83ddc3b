-- The text of a script: after the rows the line `script`, and then a line for each command, up to
-- the end of input. Here stands what can be said of the text by itself; whether a command may be
-- done stands in Replays. Lines are numbered from 1 over the whole input, and a line feed is 10.
use Rattle.std.specs.Prelude.{ℕ, zero, suc, ◌+◌, Bool, ◌&&◌, ◌==◌, if◌then◌else◌, List, [], ◌∷◌, ◌++◌, take, drop, codes, bytes_eq, Option, Some, None}
use Rattle.std.specs.List.{list_any}
use Rattle.surface_model.specs.Text.{is_number, number_of}
use Rattle.replay_model.specs.declared.ScriptLine.{ScriptLine}
use Rattle.replay_model.specs.declared.ScriptLine.TheVariants.{Arrive, Turn, Finish}

-- ---- one line

-- `finish`, one space, and a number of 1 to 9 digits
abbrev pub is_finish : List ℕ → Bool
is_finish bytes = bytes_eq (take 7 bytes) (codes "finish ") && is_number (drop 7 bytes)

abbrev pub finish_of : List ℕ → Option ScriptLine
finish_of bytes = if is_finish bytes then Some (Finish (number_of (drop 7 bytes))) else None

-- the command that a line spells, which stands without its line feed
abbrev pub command_of : List ℕ → Option ScriptLine
command_of bytes =
    if bytes_eq bytes (codes "arrive") then Some Arrive
    else if bytes_eq bytes (codes "turn") then Some Turn
    else finish_of bytes

-- no line has more bytes
abbrev pub most_line_bytes : ℕ
most_line_bytes = 32

-- no script has more lines
abbrev pub most_lines : ℕ
most_lines = 1000000

-- what is taken for one line, and what is left after it: its bytes, where its line feed or the end
-- of input comes after so many at most; or one byte more than it may have
pub data TakenLine : Type 0 where
  Whole : (bytes rest : List ℕ) → TakenLine
  TooLong : (rest : List ℕ) → TakenLine

abbrev pub with_byte : ℕ → TakenLine → TakenLine
with_byte byte (Whole bytes rest) = Whole (byte ∷ bytes) rest
with_byte byte (TooLong rest) = TooLong rest

abbrev pub line_within : ℕ → List ℕ → TakenLine
line_within room [] = Whole [] []
line_within zero (byte ∷ bytes) = if byte == 10 then Whole [] bytes else TooLong bytes
line_within (suc room) (byte ∷ bytes) =
    if byte == 10 then Whole [] bytes else with_byte byte (line_within room bytes)

-- ---- the next line

-- a command and what is left after its line; a line that is none; or the end of the script
pub data NextLine : Type 0 where
  Given : ScriptLine → (rest : List ℕ) → NextLine
  BadLine : NextLine
  NoMore : NextLine

abbrev pub given : Option ScriptLine → List ℕ → NextLine
given (Some command) rest = Given command rest
given None rest = BadLine

abbrev pub judged : TakenLine → NextLine
judged (Whole bytes rest) = given (command_of bytes) rest
judged (TooLong rest) = BadLine

-- The script ends where no byte is left; a last line may lack its line feed.
abbrev pub next_line : List ℕ → NextLine
next_line [] = NoMore
next_line (byte ∷ bytes) = judged (line_within most_line_bytes (byte ∷ bytes))

-- ---- the line `script`

-- the script begins after it; or its first byte that doesn't fit is taken; or the input ends in it
pub data DueLine : Type 0 where
  Begun : (rest : List ℕ) → DueLine
  Unfit : DueLine
  Ended : DueLine

-- these bytes are due
abbrev pub due_from : List ℕ → List ℕ → DueLine
due_from [] bytes = Begun bytes
due_from (due ∷ dues) [] = Ended
due_from (due ∷ dues) (byte ∷ bytes) = if byte == due then due_from dues bytes else Unfit

abbrev pub due_line : List ℕ
due_line = codes "script" ++ 10 ∷ []

abbrev pub script_due : List ℕ → DueLine
script_due bytes = due_from due_line bytes

-- ---- the whole

-- how a script reads: to the end of input, or to a line that is at fault
pub data ScriptEnd : Type 0 where
  Complete : ScriptEnd
  FaultAt : (line : ℕ) → ScriptEnd

-- its commands before that
pub record Script : Type 0 where
  pub commands : List ScriptLine
  pub ending : ScriptEnd

abbrev pub with_command : ScriptLine → Script → Script
with_command command script =
    record { commands = command ∷ script.commands; ending = script.ending }

abbrev pub ends : ScriptEnd → Script
ends ending = record { commands = []; ending = ending }

-- a line that is one too many is at fault, whatever it is
abbrev pub after_most : ℕ → List ℕ → Script
after_most number [] = ends Complete
after_most number (byte ∷ bytes) = ends (FaultAt number)

-- after one line, the others
abbrev pub after_line : (List ℕ → Script) → ℕ → NextLine → Script
after_line others number (Given command rest) = with_command command (others rest)
after_line others number BadLine = ends (FaultAt number)
after_line others number NoMore = ends Complete

-- at most so many lines, from the line of this number on
abbrev pub script_within : ℕ → ℕ → List ℕ → Script
script_within zero number bytes = after_most number bytes
script_within (suc more) number bytes =
    after_line (λ rest. script_within more (number + 1) rest) number (next_line bytes)

-- the script of these bytes, whose first line has this number
abbrev pub script_of : ℕ → List ℕ → Script
script_of number bytes = script_within most_lines number bytes

-- of these bytes, those up to the last line feed: where a read fails, the lines in them were taken
-- whole, and they alone are done
abbrev pub whole_lines : List ℕ → List ℕ
whole_lines [] = []
whole_lines (byte ∷ bytes) = if list_any (λ b. b == 10) (byte ∷ bytes) then byte
    ∷ whole_lines bytes else []
