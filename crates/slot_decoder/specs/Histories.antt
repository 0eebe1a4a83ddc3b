-- What is seen of the decoder, and what holds of all that happened in it: with what guesses, in
-- which order, and what shows of it.
use Rattle.std.specs.Prelude.{◌≡◌, ◌<◌, ℕ, Bool, List, All, count_by}
use Rattle.window_model.specs.declared.GuessView.{GuessView}
use Rattle.window_model.specs.Decoder.{Syndrome}
use Rattle.window_model.specs.Progress.{Progress, Fits}
use Rattle.window_model.specs.Speculation.{Event, IsBrought, IsOrderedFrom, start, visible}
use Rattle.window_model.specs.TicketLaws.{closes, is_claim}
pub use Rattle.window_core.specs.Guessed.{AreGuessedFrom, IsGuessedBy}

-- ---- what is seen

-- what has come of the slots so far, how often a window may be given up and still be guessed at
-- again, and all that happened
pub record DecoderView : Type 0 where
  pub progress : Progress
  pub retries : ℕ
  pub events : List Event

-- all guesses so far may be made
abbrev pub AreAllGuessed : (GuessView → Bool → Type 0) → DecoderView → Type 0
AreAllGuessed may_guess d = AreGuessedFrom may_guess d.progress.task start d.events

-- What always holds of what happened: each event could happen, and each turn was the first that
-- could; a syndrome has the values that have arrived just where each arrival brought its values;
-- each ticket that was claimed has had one answer; and the steps are what shows of it.
pub record IsHistoryOf (d : DecoderView) : Type 0 where
  pub ordered : IsOrderedFrom d.progress.task d.retries start d.events
  pub brought : (s : Syndrome) → Fits s d.progress → All (IsBrought d.progress.task s) d.events
  pub fits : (s : Syndrome) → All (IsBrought d.progress.task s) d.events → Fits s d.progress
  pub answered : (k : ℕ) → k < count_by is_claim d.events → count_by (closes k) d.events ≡ 1
  pub shown : d.progress.steps ≡ visible d.progress.task d.events
