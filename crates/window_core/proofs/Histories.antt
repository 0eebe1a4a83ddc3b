-- The guesses of a history that goes on.
use Rattle.std.proofs.Common.{Bool, List, [], ◌∷◌, ◌++◌, sym, subst}
use Rattle.window_model.specs.declared.GuessView.{GuessView}
use Rattle.window_model.specs.Decoder.{Task}
use Rattle.window_model.specs.Speculation.{Event, Machine, happens, happen_all, start}
use Rattle.core_journal.specs.declared.event.Event.{Event as Entry}
use Rattle.core_state.specs.States.{CoreTable, HasHappened, events_of, machine_of}
use Rattle.window_core.specs.Guessed.{AreGuessedFrom, IsGuessedBy}

pub guessed_append : (may_guess : GuessView → Bool → Type 0) (task : Task) (m : Machine)
    (xs ys : List Event) → AreGuessedFrom may_guess task m xs →
    AreGuessedFrom may_guess task (happen_all task m xs) ys →
    AreGuessedFrom may_guess task m (xs ++ ys)
guessed_append may_guess task m [] ys one two = two
guessed_append may_guess task m (x ∷ xs) ys one two =
    (one.0, guessed_append may_guess task (happens task m x) xs ys one.1 two)

-- one more event
pub one_guessed : (may_guess : GuessView → Bool → Type 0) (old new : CoreTable) (entry_ : Entry)
    (event : Event) → HasHappened old entry_ event new →
    IsGuessedBy may_guess old.task (machine_of old) event →
    AreGuessedFrom may_guess old.task start (events_of old) →
    AreGuessedFrom may_guess new.task start (events_of new)
one_guessed may_guess old new entry_ event h own all =
    subst (λ (task : Task). AreGuessedFrom may_guess task start (events_of new)) (sym h.task)
    (subst (AreGuessedFrom may_guess old.task start) (sym h.events)
    (guessed_append may_guess old.task start (events_of old) (event ∷ []) all (own, tt)))
