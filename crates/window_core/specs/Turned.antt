-- What the calls of a core do.
use Rattle.std.specs.Prelude.{◌≡◌, ℕ, Bool, List, Option, ◌⊎◌}
use Rattle.window_model.specs.declared.GuessView.{GuessView}
use Rattle.window_model.specs.Guesses.{AreGuessed}
use Rattle.window_model.specs.Speculation.{Link, Claimed, Committed, Dropped, Poisoned, Released, Returned, Stale, Verified, MayBeStale}
use Rattle.window_model.specs.TicketLaws.{problem_of}
use Rattle.core_journal.specs.declared.event.Event.TheVariants as entry
use Rattle.core_state.specs.States.{CoreTable, HasHappened, MayHappen, machine_of}
use Rattle.window_core.specs.Cores.{HasTurned, IsAllDone, IsAwaited, NoTurn, current_of}
use Rattle.window_core.specs.declared.turn.Job.{Job}
use Rattle.window_core.specs.declared.turn.Finished.{Finished}
use Rattle.window_core.specs.declared.turn.Turn.{Turn}
use Rattle.window_core.specs.declared.turn.Turn.TheVariants as turn
use Rattle.window_core.specs.declared.turn.Reported.{Reported}
use Rattle.window_core.specs.declared.turn.Reported.TheVariants as reported

-- A window was claimed, with guesses that may be made; the job is the new ticket's.
pub record IsJobOf (may_guess : GuessView → Bool → Type 0) (old new : CoreTable) (job : Job) : Type
    0 where
  pub window : ℕ
  pub links : List Link
  pub turned : HasTurned old (entry.Claimed job.ticket window) (Claimed job.ticket window links) new
  pub problem : job.problem ≡ problem_of old.task (machine_of new) job.ticket
  pub guessed : AreGuessed may_guess old.task (machine_of old) window links

-- The first turn that can be made was made. Where none can be, the core is as before.
abbrev pub IsTurned : (GuessView → Bool → Type 0) → CoreTable → CoreTable → Turn → Type 0
IsTurned may_guess old new (turn.Dropped w) = HasTurned old (entry.Dropped w) (Dropped w) new
IsTurned may_guess old new (turn.Verified x w) =
    HasTurned old (entry.Verified x w) (Verified x w) new
IsTurned may_guess old new (turn.Poisoned x w) =
    HasTurned old (entry.Poisoned x w) (Poisoned x w) new
IsTurned may_guess old new (turn.Committed w) =
    (k : ℕ) × HasTurned old (entry.Committed k w) (Committed k w) new
IsTurned may_guess old new (turn.Released op bit) =
    HasTurned old (entry.Released op bit) (Released op bit) new
IsTurned may_guess old new (turn.Claimed job) = IsJobOf may_guess old new job
IsTurned may_guess old new turn.Idle = (new ≡ old) × NoTurn old × ¬ IsAllDone old
IsTurned may_guess old new turn.Done = (new ≡ old) × NoTurn old × IsAllDone old

-- A ticket that was claimed, has no result and wasn't found stale before, and that its window
-- doesn't run, is found stale. Else the core is as before.
abbrev pub IsSetAside : CoreTable → CoreTable → ℕ → Option ℕ → Type 0
IsSetAside old new k current =
    (MayBeStale (machine_of old) k × HasHappened old (entry.Stale k current) (Stale k) new)
    ⊎ ((¬ MayBeStale (machine_of old) k) × (new ≡ old))

-- The answer is held by its window, or, exactly where it isn't awaited, set aside.
abbrev pub IsReported : CoreTable → CoreTable → Finished → Reported → Type 0
IsReported old new finished reported.Held =
    IsAwaited old finished.ticket finished.decoded
    × MayHappen old (Returned finished.ticket finished.decoded.set)
    × HasHappened old (entry.Held finished.ticket)
    (Returned finished.ticket finished.decoded.set) new
IsReported old new finished (reported.Stale ticket current) =
    (¬ IsAwaited old finished.ticket finished.decoded) × (ticket ≡ finished.ticket)
    × (current ≡ current_of old ticket) × IsSetAside old new ticket current

-- the job of a ticket: its number and its problem
pub record IsJobFor (c : CoreTable) (k : ℕ) (job : Job) : Type 0 where
  pub ticket : job.ticket ≡ k
  pub problem : job.problem ≡ problem_of c.task (machine_of c) k
