-- What one line more says of the script that is read.
use Rattle.std.specs.Prelude.{◌≡◌, ◌⊎◌, ℕ, List, [], ◌++◌, Option}
use Rattle.port_io.specs.Traffic.{IsAtEnd}
use Rattle.replay_model.specs.declared.ScriptLine.{ScriptLine}
use Rattle.replay_model.specs.Scripts.{Script, Complete, FaultAt, ends, script_within, with_command}
use Rattle.script_reader.specs.declared.error.ScriptError.TheVariants.{Fault}
use Rattle.script_reader.specs.declared.found.Found.TheVariants.{Line, Last, End}
use Rattle.script_reader.specs.Lines.{At, behind, IsNoLine, IsRead}

-- how the bytes from here on read
abbrev pub reads : At → List ℕ → Script
reads where_ bytes = script_within where_.room where_.line bytes

-- After these bytes the script is this, whatever follows; or the input has ended, and it is this.
abbrev pub ReadsSo : At → List ℕ → Option (List ℕ) → Script → Type 0
ReadsSo where_ bytes left script =
    ((rest : List ℕ) → reads where_ (bytes ++ rest) ≡ script)
    ⊎ (IsAtEnd left × (reads where_ bytes ≡ script))

abbrev pub ReadOnLaw : Type 0
ReadOnLaw =
    (where_ : At) (command : ScriptLine) (bytes : List ℕ) (left : Option (List ℕ)) →
    IsRead where_ (Line command) bytes left →
    (rest : List ℕ) →
    reads where_ (bytes ++ rest) ≡ with_command command (reads (behind where_) rest)

abbrev pub LastLaw : Type 0
LastLaw =
    (where_ : At) (command : ScriptLine) (bytes : List ℕ) (left : Option (List ℕ)) →
    IsRead where_ (Last command) bytes left →
    IsAtEnd left × (reads where_ bytes ≡ with_command command (ends Complete))

abbrev pub EndedLaw : Type 0
EndedLaw =
    (where_ : At) (bytes : List ℕ) (left : Option (List ℕ)) → IsRead where_ End bytes left →
    IsAtEnd left × (reads where_ bytes ≡ ends Complete)

abbrev pub StoppedLaw : Type 0
StoppedLaw =
    (where_ : At) (bytes : List ℕ) (left : Option (List ℕ)) (line : ℕ) →
    IsNoLine where_ bytes left (Fault line) → ReadsSo where_ bytes left (ends (FaultAt line))
