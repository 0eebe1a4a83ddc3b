-- What always holds of a table's core.
use Rattle.std.specs.Prelude.{◌≡◌, ℕ, Bool}
use Rattle.window_model.specs.declared.GuessView.{GuessView}
use Rattle.window_model.specs.Decoder.{Task}
use Rattle.window_model.specs.Speculation.{start}
use Rattle.core_state.specs.States.{CoreTable, events_of}
use Rattle.window_core.specs.Guessed.{AreGuessedFrom}

-- whoever makes these guesses makes none that may not be made
pub record IsWithin (guesses may_guess : GuessView → Bool → Type 0) : Type 0 where
  pub all : (view : GuessView) (bit : Bool) → guesses view bit → may_guess view bit

-- It decodes this setting with these retries, and each guess in its history may be made.
pub record IsCoreOf (task : Task) (retries : ℕ) (may_guess : GuessView → Bool → Type 0)
    (c : CoreTable) : Type 0 where
  pub named : c.task ≡ task
  pub allowed : c.retries ≡ retries
  pub guessed : AreGuessedFrom may_guess c.task start (events_of c)
