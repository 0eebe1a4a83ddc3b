-- The ready rounds of a setting's operations: those that its gates have, each below its operation's
-- slot.
use Rattle.std.proofs.Common.{◌≡◌, ℕ, ◌+◌, ◌<◌, ◌≤◌, ⊎_elim, length, get_or, zero-add, sym, ◌∙◌, subst, arith, All}
use Rattle.std.proofs.lemmas.Bool.{cases_lt}
use Rattle.std.proofs.lemmas.List.{ext_get_or, get_or_default}
use Rattle.std.proofs.lemmas.List.FromFn.{get_or-map-range_with_len, length-map-range_with_len}
use Rattle.window_model.specs.Decoder.{Task, operation_at}
use Rattle.window_model.specs.Gates.{IsReadyRound, round_over}
use Rattle.window_model.proofs.ReadyRounds.{computed_round_law, one_round_law}
use Rattle.release_gate.specs.Gated.{AreGates, GateTable}
use Rattle.release_gate.specs.Slots.{ready_slots}
use Rattle.release_gate.proofs.Waits.{are_ready}
use Rattle.window_setting.specs.Settings.{IsSetting, TimelyLaw}
use Rattle.window_setting.specs.Slots.{ready_rounds}
use Rattle.window_setting.proofs.Lawful.{laws_of}

pub rounds_count : (task : Task) → length (ready_rounds task) ≡ length task.operations
rounds_count task = length-map-range_with_len (round_over task (ready_slots task.plan)) 0
    (length task.operations)

module _ (task : Task) (setting : IsSetting task) where
  pub ready_at : (op : ℕ) → op < length task.operations →
      IsReadyRound task op (get_or (ready_rounds task) op 0)
  ready_at op l =
      let laws = laws_of task setting in
      let read = get_or-map-range_with_len (round_over task (ready_slots task.plan)) 0
      (length task.operations) op op 0 l (zero-add op) in
      subst (IsReadyRound task op) (sym read)
      (computed_round_law task (ready_slots task.plan) op laws (are_ready task.plan laws.deps_lower)
      (setting.fit.operations.some op l))

  -- no operation comes too early
  pub below_slot : (op : ℕ) → op < length task.operations →
      get_or (ready_rounds task) op 0 < (operation_at task op).slot
  below_slot op l =
      ⊎_elim (λ (low : get_or (ready_rounds task) op 0 < (operation_at task op).slot). low)
      (λ (late : (operation_at task op).slot ≤ get_or (ready_rounds task) op 0).
      absurd (setting.fit.gated.none_early op (get_or (ready_rounds task) op 0)
      l (record { ready = ready_at op l; not_below = late })))
      (cases_lt (get_or (ready_rounds task) op 0) (operation_at task op).slot)

  pub rounds_are : (gates : GateTable) → AreGates task gates → gates.rounds ≡ ready_rounds task
  rounds_are gates gated =
      ext_get_or 0 gates.rounds (ready_rounds task) (gated.each_round ∙ sym (rounds_count task))
      (λ op l. let within : op < length task.operations = omega (arith, l, gated.each_round) in
      one_round_law task op (get_or gates.rounds op 0) (get_or (ready_rounds task) op 0)
      (gated.ready op within) (ready_at op within))

  -- each is the number of a slot
  pub rounds_in : All (λ s. s < task.last_slot + 1) (ready_rounds task)
  rounds_in k d l =
      let within : k < length task.operations = omega (arith, l, rounds_count task) in
      let low = below_slot k within in
      let last = setting.fit.operations.in_slots k within in
      let read = get_or_default (ready_rounds task) k d 0 l in
      omega (arith, low, last, read)

pub timely_law : TimelyLaw
timely_law task op setting l = (ready_at task setting op l, below_slot task setting op l)
