-- What the speculative decoder has to do with the run that is printed: with the predictor and the
-- retries of the words it came to the steps of that run, and its history is what the trace has.
use Rattle.std.specs.Prelude.{◌≡◌, ◌<◌, ℕ, Bool, if◌then◌else◌, List, All, Option, Some, None, count_by}
use Rattle.predictor.specs.Kinds.{near_answer, seeded_answer, zero_answer}
use Rattle.run_words.specs.declared.command.PredictorKind.{PredictorKind}
use Rattle.run_words.specs.declared.command.PredictorKind.TheVariants.{Zero, Near, Seeded}
use Rattle.slot_decoder.specs.Histories.{AreGuessedFrom}
use Rattle.window_model.specs.declared.GuessView.{GuessView}
use Rattle.window_model.specs.Decoder.{Task, Syndrome, Step}
use Rattle.window_model.specs.Speculation.{Event, IsBrought, IsOrderedFrom, start, visible}
use Rattle.window_model.specs.TicketLaws.{closes, is_claim}

-- the one answer that each kind of predictor may give
abbrev pub may_guess_of : PredictorKind → GuessView → Bool → Type 0
may_guess_of Zero view answer = answer ≡ zero_answer view
may_guess_of Near view answer = answer ≡ near_answer view
may_guess_of (Seeded seed) view answer = answer ≡ seeded_answer seed view

-- These events led to the steps. Each could happen, with so many retries, and each turn was the
-- first that could; each guess may be made; each arrival brought what was measured; each ticket
-- that was claimed has had one answer; and the steps are what shows
pub record IsSpeculated (may_guess : GuessView → Bool → Type 0) (retries : ℕ) (task : Task)
    (s : Syndrome) (events : List Event) (steps : List Step) : Type 0 where
  pub ordered : IsOrderedFrom task retries start events
  pub guessed : AreGuessedFrom may_guess task start events
  pub brought : All (IsBrought task s) events
  pub answered : (k : ℕ) → k < count_by is_claim events → count_by (closes k) events ≡ 1
  pub shown : steps ≡ visible task events

-- the history that is printed, where the words ask for the trace
abbrev pub traced_of : Bool → List Event → Option (List Event)
traced_of trace events = if trace then Some events else None
