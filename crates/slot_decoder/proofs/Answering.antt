-- A claim's job is awaited.
use Rattle.std.proofs.Common.{◌≡◌, Bool, false, None, sym, ap, ◌∙◌, subst, arith}
use Rattle.graph_model.specs.Problems.{Decoding}
use Rattle.window_model.specs.declared.GuessView.{GuessView}
use Rattle.window_model.specs.Speculation.{Claim, Claimed, Machine, Running, happens}
use Rattle.window_model.specs.TicketLaws.{problem_of}
use Rattle.window_model.proofs.Updates.{set_same}
use Rattle.core_journal.specs.declared.event.Event.TheVariants as entry
use Rattle.core_state.specs.States.{CoreTable, machine_of}
use Rattle.window_core.specs.Cores.{IsAwaited}
use Rattle.window_core.specs.Turned.{IsJobOf}
use Rattle.window_core.specs.declared.turn.Job.{Job}
use Rattle.slot_decoder.proofs.Driving.{machine_now}

module _ (may_guess : GuessView → Bool → Type 0) (old new : CoreTable) (job : Job)
    (h : IsJobOf may_guess old new job) where
  abbrev claimed : Machine
  claimed = happens old.task (machine_of old) (Claimed job.ticket h.window h.links)

  now : machine_of new ≡ claimed
  now = machine_now old new (entry.Claimed job.ticket h.window)
      (Claimed job.ticket h.window h.links) h.turned.happened

  own_window : (claimed.claim job.ticket).window ≡ h.window
  own_window = ap (λ (c : Claim). c.window)
      (set_same (machine_of old).claim job.ticket
      (record { window = h.window; links = h.links; result = None; closed = false }))

  runs : claimed.phase (claimed.claim job.ticket).window ≡ Running job.ticket
  runs = ap claimed.phase own_window ∙ set_same (machine_of old).phase h.window (Running job.ticket)

  -- any answer to the job's problem is awaited
  pub job_awaited : (answer : Decoding) → answer.problem ≡ job.problem →
      IsAwaited new job.ticket answer
  job_awaited answer same = record {
    taken =
        let count = ap (λ (m : Machine). m.tickets) now in
        let number = h.turned.next.may.number in
        omega (arith, count, number);
    running = subst (λ (m : Machine). m.phase (m.claim job.ticket).window ≡ Running job.ticket)
        (sym now) runs;
    problem = same ∙ h.problem
        ∙ ap (λ task. problem_of task (machine_of new) job.ticket)
        (sym h.turned.happened.task);
  }
