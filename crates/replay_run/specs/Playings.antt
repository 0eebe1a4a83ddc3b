-- The course of a script: what its lines did and printed so far, and when it has ended.
use Rattle.std.specs.Prelude.{◌≡◌, ◌⊎◌, ℕ, ◌+◌, Bool, List, [], ◌++◌, length, Option, None, Some, slice_get}
use Rattle.detector_graph.specs.declared.folded.Folded.{Folded}
use Rattle.port_io.specs.Traffic.{Goes, taken}
use Rattle.port_io.specs.declared.port.TapeByte.{TapeByte}
use Rattle.measure_map.specs.Placed.{before_slot}
use Rattle.window_model.specs.Speculation.{Event, start}
use Rattle.core_state.specs.States.{events_of, machine_of}
use Rattle.replay_model.specs.declared.ScriptLine.{ScriptLine}
use Rattle.replay_model.specs.Scripts.{Script as Reading, due_line, whole_lines}
use Rattle.replay_model.specs.Replays.{MayDo, Plays, Stage}
use Rattle.script_reader.specs.Lines.{At, IsNoLine, IsRead, behind}
use Rattle.script_reader.specs.Laws.{reads}
use Rattle.script_reader.specs.declared.error.ScriptError.{ScriptError}
use Rattle.script_reader.specs.declared.found.Found.TheVariants.{Line, Last, End as NoMore}
use Rattle.script_run.specs.Plays.{IsDone, Playing}
use Rattle.run_rounds.specs.Courses.{AreFed}
use Rattle.run_rounds.specs.Slots.{At as Slot}
use Rattle.replay_run.specs.Readings.{IsCutAt, IsFoldOf, end_of_due}
use Rattle.replay_run.specs.Replies.{IsReplayedTo}
use Rattle.replay_run.specs.declared.end.End.{End}
use Rattle.replay_run.specs.declared.end.End.TheVariants.{Complete, Script}

-- ---- rows

-- The rows of the slots before this one were read, and these are the values that they give
pub record AreReadTo (at : Slot) (left left' : Option (List ℕ))
    (tape tape' : Option (List TapeByte))
    (items : List Folded) : Type 0 where
  pub bytes : List ℕ
  pub rows : List (List Bool)
  pub goes : Goes (taken bytes) left left' tape tape'
  pub fed : AreFed at.schedule at.slot bytes rows
  pub each_slot : length rows ≡ at.slot
  pub before_is : at.before ≡ before_slot rows at.slot
  pub each_item : length items ≡ at.slot
  pub gives : (more : List (List Bool)) (t : ℕ) (folded : Folded) →
      slice_get items t ≡ Some folded → IsFoldOf at.schedule (rows ++ more) t folded

-- ---- one line

-- a line of this number was done; or it may not be done, and the script is at fault there
abbrev pub IsLineDone : Stage → ScriptLine → ℕ → Playing → Playing → Option End → Type 0
IsLineDone stage command number old new None = IsDone stage command old new
IsLineDone stage command number old new (Some end) =
    (end ≡ Script number) × (¬ MayDo stage (machine_of old.core) command) × (new ≡ old)

-- nothing of the script is done after what was
abbrev pub IsStopped : At → Option (List ℕ) → List ℕ → End → Type 0
IsStopped at left bytes end =
    ((end ≡ Complete) × IsRead at NoMore bytes left)
    ⊎ ((error : ScriptError) × (end ≡ end_of_due error) × IsNoLine at bytes left error)

-- One line more: it was done, and others may come; or it was done, and the input ended in it; or it
-- may not be done; or there is none
abbrev pub IsStepped : Stage → At → At → Option (List ℕ) → List ℕ → Playing → Playing →
    Option End → Type 0
IsStepped stage at at' left bytes old new None =
    (command : ScriptLine) × IsRead at (Line command) bytes left × (at' ≡ behind at)
    × IsDone stage command old new
IsStepped stage at at' left bytes old new (Some end) =
    ((new ≡ old) × IsStopped at left bytes end)
    ⊎ (((command : ScriptLine) × IsRead at (Last command) bytes left × (end ≡ Complete)
    × IsDone stage command old new)
    ⊎ ((command : ScriptLine) × (IsRead at (Line command) bytes left
    ⊎ IsRead at (Last command) bytes left) × (end ≡ Script at.line)
    × (¬ MayDo stage (machine_of old.core) command) × (new ≡ old)))

-- ---- all lines

-- these commands in front
abbrev pub with_commands : List ScriptLine → Reading → Reading
with_commands commands script =
    record { commands = commands ++ script.commands; ending = script.ending }

-- what is as before
pub record IsSamePlay (old new : Playing) : Type 0 where
  pub task : new.core.task ≡ old.core.task
  pub retries : new.core.retries ≡ old.core.retries
  pub rows : new.rows ≡ old.rows
  pub labels : new.labels ≡ old.labels

-- Whole lines were taken from the first on, and their commands were done
pub record IsPlayedSo (stage : Stage) (first at : At) (left left' : Option (List ℕ))
    (tape tape' : Option (List TapeByte)) (old new : Playing) : Type 0 where
  pub bytes : List ℕ
  pub commands : List ScriptLine
  pub events : List Event
  pub printed : List ℕ
  pub goes : Goes (taken bytes) left left' tape tape'
  pub reads_on : (rest : List ℕ) → reads first (bytes ++ rest)
      ≡ with_commands commands (reads at rest)
  pub whole : (rest : List ℕ) → whole_lines (bytes ++ rest) ≡ bytes ++ whole_lines rest
  pub plays : Plays stage start commands events printed
  pub line : at.line ≡ first.line + length commands
  pub events_are : events_of new.core ≡ events
  pub text_is : new.text ≡ printed
  pub same : IsSamePlay old new

-- The script has ended so, and these bytes of it were taken
pub record IsPlayedTo (stage : Stage) (first : ℕ) (bytes : List ℕ) (left : Option (List ℕ))
    (old new : Playing) (end : End) : Type 0 where
  pub events : List Event
  pub printed : List ℕ
  pub replayed : IsReplayedTo stage first bytes left events printed end
  pub events_are : events_of new.core ≡ events
  pub text_is : new.text ≡ printed
  pub same : IsSamePlay old new

-- likewise with the line `script` before it, which has this number
abbrev pub IsTakenTo : Stage → ℕ → List ℕ → Option (List ℕ) → Playing → Playing → End → Type 0
IsTakenTo stage number bytes left old new end =
    ((new ≡ old) × IsCutAt number bytes left end)
    ⊎ ((script : List ℕ) × (bytes ≡ due_line ++ script)
    × IsPlayedTo stage (number + 1) script left old new end)

-- nothing is played yet
pub record IsUnplayed (p : Playing) : Type 0 where
  pub events : events_of p.core ≡ []
  pub text : p.text ≡ []
