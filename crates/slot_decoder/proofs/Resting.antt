-- Between slots: what a core at rest shows is a settled run.
use Rattle.std.proofs.Common.{◌≡◌, ◌≢◌, ◌<◌, ◌≤◌, ◌+◌, ℕ, Bool, List, [], ◌∷◌, refl, sym, ap, ◌∙◌, subst, arith, length, All}
use Rattle.std.proofs.lemmas.List.Elements.{All-cons, All-head, All-nil}
use Rattle.window_model.specs.Decoder.{Task, Syndrome, Step, Arrive, Commit, Release, Decoder, HasRaw, IsRunFrom, operation_at, start as begun, after, after_all}
use Rattle.window_model.specs.Gates.{IsTimely}
use Rattle.window_model.specs.Laws.{PlanLaws, IsSettled}
use Rattle.window_model.specs.Progress.{Fits, IsProgress}
use Rattle.window_model.specs.Speculation.{Agrees, Event, Arrived, Claimed, Returned, Stale, Verified, Poisoned, Dropped, Committed, Released, Machine, decoder_of, happen_all, start, syndrome_of, visible, IsEnabled, IsQuiet, IsTurn}
use Rattle.window_model.proofs.Quiet.{quiet_law}
use Rattle.window_model.proofs.Simulation.{shown_law, simulation_law}
use Rattle.window_setting.specs.Settings.{IsSetting}
use Rattle.window_setting.proofs.Lawful.{laws_of}
use Rattle.core_journal.specs.Entries.{history_of}
use Rattle.core_state.specs.States.{CoreTable, IsState, events_of, machine_of}
use Rattle.slot_decoder.specs.Slots.{IsAtRest, progress_of, releases_in}

-- ---- at the start

none_labels : (labels : List ℕ) (task : Task) (d : Decoder) → d.arrived ≡ 0 → labels ≢ [] →
    All (HasRaw task d) labels → ⊥
none_labels [] task d zero some all = some refl
none_labels (l ∷ labels) task d zero some all =
    let k = (All-head (HasRaw task d) l labels all).arrived in omega (arith, k, zero)

-- no turn can be made
no_turn_yet : (task : Task) (retries : ℕ) → IsSetting task → (event : Event) → IsTurn event →
    IsEnabled task retries start event → ⊥
no_turn_yet task retries setting (Arrived t values raws) turn may = turn refl
no_turn_yet task retries setting (Claimed k w links) turn may =
    let low = may.arrived in omega (arith, low)
no_turn_yet task retries setting (Returned k set) turn may = turn refl
no_turn_yet task retries setting (Stale k) turn may = turn refl
no_turn_yet task retries setting (Verified x w) turn may = let e = may.1.is_pending in absurd cc
no_turn_yet task retries setting (Poisoned x w) turn may = let e = may.2.is_pending in absurd cc
no_turn_yet task retries setting (Dropped w) turn may = let e = may.is_pending in absurd cc
no_turn_yet task retries setting (Committed k w) turn may = let e = may.held in absurd cc
no_turn_yet task retries setting (Released op bit) turn may =
    none_labels (operation_at task op).labels task (decoder_of task start) refl
    (setting.fit.operations.some op may.in_range) may.raw_arrived

pub quiet_start : (task : Task) (retries : ℕ) → IsSetting task → IsQuiet task retries start
quiet_start task retries setting = record {
  none_running = λ w k e. absurd cc;
  no_turn = no_turn_yet task retries setting;
}

-- a core is at rest before anything has happened
pub at_rest_yet : (c : CoreTable) → IsState c → c.journal ≡ [] → (releases : List (ℕ × Bool)) →
    releases ≡ [] → IsAtRest c releases
at_rest_yet c state none releases no_releases =
    let no_events : events_of c ≡ [] = ap (history_of c.task c.kept) none in
    let at_start : machine_of c ≡ start = ap (happen_all c.task start) no_events in
    let zero = ap (λ (m : Machine). m.arrived) at_start in
    record {
      in_range = omega (arith, zero);
      quiet = subst (IsQuiet c.task c.retries) (sym at_start)
          (quiet_start c.task c.retries state.setting);
      answered = let none_yet = ap (λ (m : Machine). m.tickets) at_start in
          λ k l. absurd (omega (arith, l, none_yet));
      releases_are = no_releases
          ∙ sym (ap (λ events. releases_in (visible c.task events)) no_events);
    }

pub timely_task : (task : Task) → IsSetting task → IsTimely task
timely_task task setting = record {
  named = setting.fit.operations.named;
  none_early = setting.fit.gated.none_early;
}

-- ---- releases

abbrev pub IsOperationOf : Task → ℕ × Bool → Type 0
IsOperationOf task r = r.0 < length task.operations

releases_of_run : (task : Task) (s : Syndrome) (d : Decoder) (steps : List Step) →
    IsRunFrom task s d steps → All (IsOperationOf task) (releases_in steps)
releases_of_run task s d [] run = All-nil (IsOperationOf task)
releases_of_run task s d (Arrive slot ∷ steps) run =
    releases_of_run task s (after d (Arrive slot)) steps run.1
releases_of_run task s d (Commit window set ∷ steps) run =
    releases_of_run task s (after d (Commit window set)) steps run.1
releases_of_run task s d (Release op bit ∷ steps) run =
    All-cons (IsOperationOf task) (op, bit) (releases_in steps) run.0.in_range
    (releases_of_run task s (after d (Release op bit)) steps run.1)

-- ---- what holds of a core

module _ (c : CoreTable) (state : IsState c) where
  pub laws : PlanLaws c.task.graph c.task.tags c.task.plan
  laws = laws_of c.task state.setting

  -- a syndrome that has the values which are kept has those of the machine
  pub agrees_with : (s : Syndrome) → Fits s (progress_of c) → Agrees c.task (machine_of c) s
  agrees_with s fits = record {
    value = λ v within low.
        sym (fits.values.value v within low) ∙ state.agrees.value v within low;
    raw = λ l within low. sym (fits.raws.raw l within low) ∙ state.agrees.raw l within low;
  }

  pub shown : after_all begun (visible c.task (events_of c)) ≡ decoder_of c.task (machine_of c)
  shown = shown_law c.task c.retries (events_of c) laws state.history

  pub operations : All (IsOperationOf c.task) (releases_in (visible c.task (events_of c)))
  operations =
      let s = syndrome_of (machine_of c) in
      releases_of_run c.task s begun (visible c.task (events_of c))
      (simulation_law c.task c.retries (events_of c) s laws state.history (record {
        value = λ v within low. refl;
        raw = λ l within low. refl;
      }))

  module _ (quiet : IsQuiet c.task c.retries (machine_of c)) where
    pub settled : IsSettled c.task (decoder_of c.task (machine_of c))
    settled = quiet_law c.task c.retries (events_of c) laws state.history quiet

    pub is_progress : (machine_of c).arrived ≤ c.task.last_slot + 1 → IsProgress (progress_of c)
    is_progress in_range = record {
      in_range = in_range;
      each_value = state.each_value;
      each_raw = state.each_raw;
      arrived = ap (λ (d : Decoder). d.arrived) shown;
      runs = λ s fits.
          simulation_law c.task c.retries (events_of c) s laws state.history (agrees_with s fits);
      settled = subst (IsSettled c.task) (sym shown) settled;
    }
