-- A core stays one of its table's setting, whatever it does.
use Rattle.std.proofs.Common.{◌≡◌, ℕ, Bool, List, [], Option, sym, subst, ◌∙◌, inl, inr}
use Rattle.window_model.specs.declared.GuessView.{GuessView}
use Rattle.window_model.specs.Decoder.{Task}
use Rattle.window_model.specs.Speculation.{Arrived, Claimed, Committed, Dropped, Poisoned, Released, Returned, Stale, Verified, start}
use Rattle.core_journal.specs.declared.event.Event.{Event as Entry}
use Rattle.core_journal.specs.declared.event.Event.TheVariants as entry
use Rattle.core_journal.specs.Entries.{history_of}
use Rattle.core_state.specs.States.{CoreTable, HasHappened, events_of}
use Rattle.window_core.proofs.Histories.{one_guessed}
use Rattle.window_core.specs.Guessed.{AreGuessedFrom}
use Rattle.window_core.specs.declared.turn.Finished.{Finished}
use Rattle.window_core.specs.declared.turn.Reported.{Reported}
use Rattle.window_core.specs.declared.turn.Reported.TheVariants as reported
use Rattle.window_core.specs.declared.turn.Turn.{Turn}
use Rattle.window_core.specs.declared.turn.Turn.TheVariants as turn
use Rattle.window_core.specs.Turned.{IsReported, IsSetAside, IsTurned}
use Rattle.window_table.specs.Cores.{IsCoreOf}
use Rattle.window_table.proofs.Named.{report_allows, report_keeps, turn_allows, turn_keeps}

module _ (may_guess : GuessView → Bool → Type 0) where
  -- all guesses so far may be made
  abbrev AreGood : CoreTable → Type 0
  AreGood c = AreGuessedFrom may_guess c.task start (events_of c)

  turn_guesses : (old new : CoreTable) (t : Turn) → IsTurned may_guess old new t → AreGood old →
      AreGood new
  turn_guesses old new (turn.Dropped w) h all =
      one_guessed may_guess old new (entry.Dropped w) (Dropped w) h.happened tt all
  turn_guesses old new (turn.Verified x w) h all =
      one_guessed may_guess old new (entry.Verified x w) (Verified x w) h.happened tt all
  turn_guesses old new (turn.Poisoned x w) h all =
      one_guessed may_guess old new (entry.Poisoned x w) (Poisoned x w) h.happened tt all
  turn_guesses old new (turn.Committed w) h all =
      one_guessed may_guess old new (entry.Committed h.0 w) (Committed h.0 w) h.1.happened tt all
  turn_guesses old new (turn.Released op bit) h all =
      one_guessed may_guess old new (entry.Released op bit) (Released op bit) h.happened tt all
  turn_guesses old new (turn.Claimed job) h all =
      one_guessed may_guess old new (entry.Claimed job.ticket h.window)
      (Claimed job.ticket h.window h.links) h.turned.happened h.guessed all
  turn_guesses old new turn.Idle h all = subst AreGood (sym h.0) all
  turn_guesses old new turn.Done h all = subst AreGood (sym h.0) all

  aside_guesses : (old new : CoreTable) (k : ℕ) (current : Option ℕ) →
      IsSetAside old new k current → AreGood old → AreGood new
  aside_guesses old new k current (inl h) all =
      one_guessed may_guess old new (entry.Stale k current) (Stale k) h.1 tt all
  aside_guesses old new k current (inr h) all = subst AreGood (sym h.1) all

  report_guesses : (old new : CoreTable) (finished : Finished) (r : Reported) →
      IsReported old new finished r → AreGood old → AreGood new
  report_guesses old new finished reported.Held h all =
      one_guessed may_guess old new (entry.Held finished.ticket)
      (Returned finished.ticket finished.decoded.set) h.2 tt all
  report_guesses old new finished (reported.Stale k current) h all =
      aside_guesses old new k current h.3 all

  module _ (task : Task) (retries : ℕ) where
    -- where nothing has happened, nothing was guessed
    pub begun : (c : CoreTable) → c.journal ≡ [] → c.task ≡ task → c.retries ≡ retries →
        IsCoreOf task retries may_guess c
    begun c empty named allowed = record {
      named = named;
      allowed = allowed;
      guessed = subst (λ (journal : List Entry).
          AreGuessedFrom may_guess c.task start (history_of c.task c.kept journal)) (sym empty) tt;
    }

    pub turned : (old new : CoreTable) (t : Turn) → IsTurned may_guess old new t →
        IsCoreOf task retries may_guess old → IsCoreOf task retries may_guess new
    turned old new t h is = record {
      named = turn_keeps may_guess old new t h ∙ is.named;
      allowed = turn_allows may_guess old new t h ∙ is.allowed;
      guessed = turn_guesses old new t h is.guessed;
    }

    pub answered : (old new : CoreTable) (finished : Finished) (r : Reported) →
        IsReported old new finished r → IsCoreOf task retries may_guess old →
        IsCoreOf task retries may_guess new
    answered old new finished r h is = record {
      named = report_keeps old new finished r h ∙ is.named;
      allowed = report_allows old new finished r h ∙ is.allowed;
      guessed = report_guesses old new finished r h is.guessed;
    }

    pub arrived : (old new : CoreTable) (t : ℕ) (values raws : List Bool) →
        HasHappened old (entry.Arrived t) (Arrived t values raws) new →
        IsCoreOf task retries may_guess old → IsCoreOf task retries may_guess new
    arrived old new t values raws h is = record {
      named = h.task ∙ is.named;
      allowed = h.retries ∙ is.allowed;
      guessed = one_guessed may_guess old new (entry.Arrived t) (Arrived t values raws) h tt
          is.guessed;
    }
