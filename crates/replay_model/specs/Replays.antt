-- What the lines of a script do to the speculative decoder, when a line may not be done, and what a
-- replay prints of them.
use Rattle.std.specs.Prelude.{◌≡◌, ◌<◌, ℕ, ◌+◌, Bool, false, ◌&&◌, if◌then◌else◌, ◌⊎◌, List, [], ◌∷◌, ◌++◌, codes, is_some, length, take, slice_get, Option, None, Some, true}
use Rattle.std.specs.Bool.{⊤}
use Rattle.std.specs.List.{list_all, range_with_len}
use Rattle.window_model.specs.declared.GuessView.{GuessView}
use Rattle.window_model.specs.Windows.{window_count}
use Rattle.window_model.specs.Decoder.{Task, Syndrome, MayArrive}
use Rattle.window_model.specs.Guesses.{AreGuessed}
use Rattle.window_model.specs.TicketLaws.{closes}
use Rattle.window_model.specs.Speculation.{Machine, Event, Arrived, Claimed, start, happen_all, done, decoder_of, IsBrought, IsEnabled, IsFirstTurn, IsTurn}
use Rattle.report_model.specs.Texts.{event_line, line}
use Rattle.replay_model.specs.declared.ScriptLine.{ScriptLine}
use Rattle.replay_model.specs.declared.ScriptLine.TheVariants.{Arrive, Turn, Finish}
use Rattle.replay_model.specs.Scripts.{Script, ScriptEnd, Complete, FaultAt}

-- what a script is played on: the task, how often a window may be given up and still be claimed on
-- a guess, which guesses may be made, what was measured, and the labels of the operations
pub record Stage : Type 1 where
  pub task : Task
  pub retries : ℕ
  pub may_guess : GuessView → Bool → Type 0
  pub syndrome : Syndrome
  pub labels : List (List ℕ)

-- ---- which lines may be done

-- a ticket that was claimed and has neither had its result nor been found stale
pub record IsUnfinished (m : Machine) (k : ℕ) : Type 0 where
  pub claimed : k < m.tickets
  pub open_ : (m.claim k).closed ≡ false

-- The next slot may arrive; a turn may always be asked for; a ticket is finished once.
abbrev pub MayDo : Stage → Machine → ScriptLine → Type 0
MayDo stage m Arrive = MayArrive stage.task (decoder_of stage.task m) m.arrived
MayDo stage m Turn = ⊤
MayDo stage m (Finish k) = IsUnfinished m k

-- ---- what they do

-- one event happened, and its line is printed
pub record IsTold (stage : Stage) (m : Machine) (event : Event) (events : List Event)
    (text : List ℕ) : Type 0 where
  pub enabled : IsEnabled stage.task stage.retries m event
  pub events_are : events ≡ event ∷ []
  pub text_is : text ≡ event_line stage.task stage.labels m event

-- the next slot arrives with what was measured in it
pub record IsArrival (stage : Stage) (m : Machine) (events : List Event)
    (text : List ℕ) : Type 0 where
  pub values : List Bool
  pub raws : List Bool
  pub brought : IsBrought stage.task stage.syndrome (Arrived m.arrived values raws)
  pub told : IsTold stage m (Arrived m.arrived values raws) events text

-- the guesses of a claim stand in the relation
abbrev pub IsGuessedSo : Stage → Machine → Event → Type 0
IsGuessedSo stage m (Claimed k w links) = AreGuessed stage.may_guess stage.task m w links
IsGuessedSo stage m _ = ⊤

-- the turn that comes first
pub record IsTurnTaken (stage : Stage) (m : Machine) (events : List Event)
    (text : List ℕ) : Type 0 where
  pub event : Event
  pub turn : IsTurn event
  pub first : IsFirstTurn stage.task stage.retries m event
  pub guessed : IsGuessedSo stage m event
  pub told : IsTold stage m event events text

-- every window is committed and every operation is released
abbrev pub is_all_done : Task → Machine → Bool
is_all_done task m =
    list_all (λ w. is_some (done (m.phase w))) (range_with_len 0 (window_count task.plan))
    && list_all (λ op. is_some (m.released op)) (range_with_len 0 (length task.operations))

-- what is printed where there is no turn
abbrev pub rest_line : Task → Machine → List ℕ
rest_line task m = line ((if is_all_done task m then codes "done" else codes "idle") ∷ [])

-- no turn is enabled
pub record IsResting (stage : Stage) (m : Machine) (events : List Event)
    (text : List ℕ) : Type 0 where
  pub no_turn : (event : Event) → IsTurn event → ¬ IsEnabled stage.task stage.retries m event
  pub events_are : events ≡ []
  pub text_is : text ≡ rest_line stage.task m

-- the ticket has its result, where its window runs it, and else is found stale
pub record IsFinished (stage : Stage) (m : Machine) (k : ℕ) (events : List Event)
    (text : List ℕ) : Type 0 where
  pub event : Event
  pub closed : closes k event ≡ true
  pub told : IsTold stage m event events text

-- A line does these events, none or one, and prints this line.
abbrev pub Does : Stage → Machine → ScriptLine → List Event → List ℕ → Type 0
Does stage m Arrive events text = IsArrival stage m events text
Does stage m Turn events text = IsTurnTaken stage m events text ⊎ IsResting stage m events text
Does stage m (Finish k) events text = IsFinished stage m k events text

-- The lines are done one after another, each where it may be, and print this text.
abbrev pub Plays : Stage → Machine → List ScriptLine → List Event → List ℕ → Type 0
Plays stage m [] events text = (events ≡ []) × (text ≡ [])
Plays stage m (command ∷ commands) events text =
    (now later : List Event) × (told more : List ℕ) × (events ≡ now ++ later)
    × (text ≡ told ++ more)
    × MayDo stage m command × Does stage m command now told
    × Plays stage (happen_all stage.task m now) commands later more

-- ---- the whole

abbrev pub fault_of : ScriptEnd → Option ℕ
fault_of Complete = None
fault_of (FaultAt number) = Some number

-- The fault that is reported: where a command is left, it may not be done, and its line has this
-- number; else it is the fault of the text, if it has one.
abbrev pub StopsAt : Stage → Machine → ScriptEnd → ℕ → Option ScriptLine → Option ℕ → Type 0
StopsAt stage m ending number None fault = fault ≡ fault_of ending
StopsAt stage m ending number (Some command) fault = (¬ MayDo stage m command)
    × (fault ≡ Some number)

-- The script whose first line has the number `first` is played from the start, up to the first line
-- that is at fault: these events happen, and this text is printed.
pub record IsReplay (stage : Stage) (script : Script) (first : ℕ) (events : List Event)
    (text : List ℕ) (fault : Option ℕ) : Type 0 where
  pub count : ℕ
  pub plays : Plays stage start (take count script.commands) events text
  pub stops : StopsAt stage (happen_all stage.task start events) script.ending (first + count)
      (slice_get script.commands count) fault
