-- What a core decodes stays, whatever it does, and so do its retries.
use Rattle.std.proofs.Common.{◌≡◌, Bool, Option, ℕ, ap, inl, inr}
use Rattle.window_model.specs.declared.GuessView.{GuessView}
use Rattle.core_state.specs.States.{CoreTable}
use Rattle.window_core.specs.declared.turn.Finished.{Finished}
use Rattle.window_core.specs.declared.turn.Reported.{Reported}
use Rattle.window_core.specs.declared.turn.Reported.TheVariants as reported
use Rattle.window_core.specs.declared.turn.Turn.{Turn}
use Rattle.window_core.specs.declared.turn.Turn.TheVariants as turn
use Rattle.window_core.specs.Turned.{IsReported, IsSetAside, IsTurned}

pub turn_keeps : (may_guess : GuessView → Bool → Type 0) (old new : CoreTable) (t : Turn) →
    IsTurned may_guess old new t → new.task ≡ old.task
turn_keeps may_guess old new (turn.Dropped w) h = h.happened.task
turn_keeps may_guess old new (turn.Verified x w) h = h.happened.task
turn_keeps may_guess old new (turn.Poisoned x w) h = h.happened.task
turn_keeps may_guess old new (turn.Committed w) h = h.1.happened.task
turn_keeps may_guess old new (turn.Released op bit) h = h.happened.task
turn_keeps may_guess old new (turn.Claimed job) h = h.turned.happened.task
turn_keeps may_guess old new turn.Idle h = ap (λ (c : CoreTable). c.task) h.0
turn_keeps may_guess old new turn.Done h = ap (λ (c : CoreTable). c.task) h.0

aside_keeps : (old new : CoreTable) (k : ℕ) (current : Option ℕ) → IsSetAside old new k current →
    new.task ≡ old.task
aside_keeps old new k current (inl h) = h.1.task
aside_keeps old new k current (inr h) = ap (λ (c : CoreTable). c.task) h.1

pub report_keeps : (old new : CoreTable) (finished : Finished) (r : Reported) →
    IsReported old new finished r → new.task ≡ old.task
report_keeps old new finished reported.Held h = h.2.task
report_keeps old new finished (reported.Stale k current) h =
    aside_keeps old new k current h.3

pub turn_allows : (may_guess : GuessView → Bool → Type 0) (old new : CoreTable) (t : Turn) →
    IsTurned may_guess old new t → new.retries ≡ old.retries
turn_allows may_guess old new (turn.Dropped w) h = h.happened.retries
turn_allows may_guess old new (turn.Verified x w) h = h.happened.retries
turn_allows may_guess old new (turn.Poisoned x w) h = h.happened.retries
turn_allows may_guess old new (turn.Committed w) h = h.1.happened.retries
turn_allows may_guess old new (turn.Released op bit) h = h.happened.retries
turn_allows may_guess old new (turn.Claimed job) h = h.turned.happened.retries
turn_allows may_guess old new turn.Idle h = ap (λ (c : CoreTable). c.retries) h.0
turn_allows may_guess old new turn.Done h = ap (λ (c : CoreTable). c.retries) h.0

aside_allows : (old new : CoreTable) (k : ℕ) (current : Option ℕ) → IsSetAside old new k current →
    new.retries ≡ old.retries
aside_allows old new k current (inl h) = h.1.retries
aside_allows old new k current (inr h) = ap (λ (c : CoreTable). c.retries) h.1

pub report_allows : (old new : CoreTable) (finished : Finished) (r : Reported) →
    IsReported old new finished r → new.retries ≡ old.retries
report_allows old new finished reported.Held h = h.2.retries
report_allows old new finished (reported.Stale k current) h =
    aside_allows old new k current h.3
