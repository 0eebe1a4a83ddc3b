-- Whose answer is awaited.
use Rattle.std.proofs.Common.{◌≡◌, ℕ, ◌<◌, false, true, Bool, cond, ⊎_elim, List, refl, sym, ap, ◌∙◌, subst, map, nat_lt, Option, None, Some, arith}
use Rattle.std.proofs.lemmas.Bool.{false≢true}
use Rattle.std.proofs.lemmas.Bool.Decides.{nat_tests}
use Rattle.std.proofs.lemmas.Option.{none-some, same_Some}
use Rattle.graph_model.specs.Problems.{Decoding, Problem}
use Rattle.window_model.specs.Parts.{part_of}
use Rattle.window_model.specs.Speculation.{Machine, MayReturn, Phase, Waiting, Running, Held, Done, sources_of}
use Rattle.window_model.specs.TicketLaws.{IsCovered, IsSound, problem_of}
use Rattle.window_model.specs.Windows.{window_at}
use Rattle.window_model.proofs.Soundness.{sound_law}
use Rattle.window_model.proofs.Tickets.{covered_law}
use Rattle.window_setting.specs.Defects.{AreClaimDefects}
use Rattle.window_setting.proofs.Lawful.{laws_of}
use Rattle.cascade_laws.specs.Store.{bits_of}
use Rattle.claim_bits.specs.ClaimLaws.{IsAnswer}
use Rattle.claim_bits.proofs.Answering.{answer_law}
use Rattle.core_state.specs.States.{CoreTable, IsState, events_of, machine_of, running_of}
use Rattle.window_core.specs.Cores.{IsAwaited, current_of}
use Rattle.window_core.proofs.Claiming.{has_values, problem_made}

runs_this : (phase : Phase) (k : ℕ) → running_of phase ≡ Some k → phase ≡ Running k
runs_this Waiting k e = absurd (none-some k e)
runs_this (Running j) k e = ap Running (same_Some j k e)
runs_this (Held j) k e = absurd (none-some k e)
runs_this (Done j) k e = absurd (none-some k e)

-- where a ticket was claimed, the current one is what its window runs
pub current_taken : (c : CoreTable) (k : ℕ) → k < (machine_of c).tickets →
    current_of c k ≡ running_of ((machine_of c).phase ((machine_of c).claim k).window)
current_taken c k l = ap (λ b. cond b (running_of ((machine_of c).phase
    ((machine_of c).claim k).window)) None) (lt_true l)
  where
    lt_true : k < (machine_of c).tickets → nat_lt k (machine_of c).tickets ≡ true
    lt_true h = grind (arith, nat_tests)

pub current_none : (c : CoreTable) (k : ℕ) → nat_lt k (machine_of c).tickets ≡ false →
    current_of c k ≡ None
current_none c k e = ap (λ b. cond b (running_of ((machine_of c).phase
    ((machine_of c).claim k).window)) None) e

-- the current ticket of a ticket is itself exactly where its window runs it
pub runs_itself : (c : CoreTable) (k : ℕ) → current_of c k ≡ Some k →
    (k < (machine_of c).tickets)
    × ((machine_of c).phase ((machine_of c).claim k).window ≡ Running k)
runs_itself c k e = by (nat_lt k (machine_of c).tickets) refl
  where
    by : (b : Bool) → nat_lt k (machine_of c).tickets ≡ b → (k < (machine_of c).tickets)
        × ((machine_of c).phase ((machine_of c).claim k).window ≡ Running k)
    by true is = (
      grind (arith, nat_tests),
      runs_this ((machine_of c).phase ((machine_of c).claim k).window) k
          (sym (ap (λ b. cond b (running_of ((machine_of c).phase
          ((machine_of c).claim k).window)) None) is) ∙ e),
    )
    by false is = absurd (none-some k (sym (current_none c k is) ∙ e))

pub awaited_runs : (c : CoreTable) (k : ℕ) (answer : Decoding) → IsAwaited c k answer →
    current_of c k ≡ Some k
awaited_runs c k answer h = current_taken c k h.taken ∙ ap running_of h.running

module _ (c : CoreTable) (h : IsState c) where
  pub covered : (k : ℕ) → k < (machine_of c).tickets → IsCovered c.task (machine_of c) k
  covered k l = covered_law c.task c.retries (events_of c) k (laws_of c.task h.setting) h.history l

  pub sound : IsSound c.task (machine_of c)
  sound = sound_law c.task c.retries (events_of c) (laws_of c.task h.setting) h.history

  -- the problem of a ticket, by what is kept of its claim
  pub problem_is : (k w : ℕ) (bits : List (List Bool)) (problem : Problem) →
      k < (machine_of c).tickets → w ≡ ((machine_of c).claim k).window →
      bits ≡ bits_of ((machine_of c).claim k).links →
      problem.part ≡ part_of c.task.graph c.task.plan w →
      AreClaimDefects c.task w c.kept.values bits problem.defects →
      problem ≡ problem_of c.task (machine_of c) k
  problem_is k w bits problem taken window are_bits part are =
      problem_made c.task (machine_of c) k w c.kept.values bits problem
      (subst (λ x. (window_at c.task.plan x).last < (machine_of c).arrived) (sym window)
      (covered k taken).arrived) (has_values c h) (sym window)
      (sound.sources k taken ∙ ap (λ x. (window_at c.task.plan x).deps) (sym window))
      (sym are_bits) part are

  -- an answer that is awaited may return
  pub may_return : (k : ℕ) (answer : Decoding) → IsAwaited c k answer → IsAnswer answer →
      MayReturn c.task (machine_of c) k answer.set
  may_return k answer is good = answer_law c.task c.retries (events_of c) k answer h.setting
      h.history is.running is.problem good
