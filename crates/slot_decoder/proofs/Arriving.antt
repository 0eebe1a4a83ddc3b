-- One more slot: it may arrive, and what the core shows then.
use Rattle.std.proofs.Common.{◌≡◌, ◌<◌, ◌≤◌, ◌+◌, ◌==◌, ⊎_elim, ℕ, Bool, false, List, [], ◌∷◌, ◌++◌, sym, ap, ◌∙◌, subst, append_assoc, arith, length, map, get_or, All, eq-eqb, slice_index}
use Rattle.std.proofs.lemmas.Bool.{cases_eq}
use Rattle.std.proofs.lemmas.List.{get_or-map, get_or_default, length-map}
use Rattle.std.proofs.lemmas.List.Elements.{All-head, All-tail}
use Rattle.graph_model.proofs.Members.{Contains-is_in}
use Rattle.graph_model.specs.declared.Tag.{Tag}
use Rattle.window_model.specs.declared.GuessView.{GuessView}
use Rattle.window_model.specs.Decoder.{Task, Arrive, Syndrome, MayArrive}
use Rattle.window_model.specs.Progress.{Progress, Fits}
use Rattle.window_model.specs.Speculation.{Event, Arrived, Machine, at_slot, decoder_of, detector_slots, happens, happen_all, start, visible, visible_from, IsBrought}
use Rattle.window_model.proofs.Histories.{happen_all-append}
use Rattle.window_model.proofs.Plans.{below_in}
use Rattle.window_model.proofs.ReadyRounds.{open_gate_law}
use Rattle.window_model.proofs.Soundness.{values_stay}
use Rattle.core_journal.specs.declared.event.Event.{Event as Entry}
use Rattle.core_journal.specs.Entries.{bit, syndrome_of}
use Rattle.core_state.specs.States.{CoreTable, HasHappened, IsState, MayHappen, events_of, machine_of}
use Rattle.core_state.proofs.Arrived.{count_slot}
use Rattle.slot_decoder.specs.Histories.{AreAllGuessed, AreGuessedFrom}
use Rattle.slot_decoder.specs.Slots.{AllQuiet, HasGoneOn, IsArrival, progress_of, view_of}
use Rattle.slot_decoder.proofs.Driving.{machine_now}
use Rattle.slot_decoder.proofs.Going.{all_keep, none_shows, visible_append}
use Rattle.window_core.proofs.Histories.{guessed_append}
use Rattle.slot_decoder.proofs.Resting.{laws, settled, timely_task}

-- the next slot may arrive at a core at rest
pub may_arrive : (c : CoreTable) (m : Progress) → progress_of c ≡ m → IsState c → AllQuiet c →
    (t : ℕ) (values raws : List Bool) → t ≡ m.arrived → m.arrived ≤ m.task.last_slot →
    length values ≡ length (at_slot (detector_slots m.task) m.arrived) →
    length raws ≡ length (at_slot m.task.raw_slots m.arrived) → MayHappen c (Arrived t values raws)
may_arrive c m seen state quiet t values raws at within each_value each_raw =
    let next : t ≡ (machine_of c).arrived = at ∙ ap (λ (p : Progress). p.arrived) (sym seen) in (
      subst (MayArrive c.task (decoder_of c.task (machine_of c))) (sym next)
          (open_gate_law c.task (decoder_of c.task (machine_of c)) (laws c state)
          (settled c state quiet) (timely_task c.task state.setting)
          (subst (λ (p : Progress). p.arrived ≤ p.task.last_slot) (sym seen) within)),
      subst (λ (p : Progress). length values ≡ length (at_slot (detector_slots p.task) p.arrived))
          (sym seen) each_value
          ∙ ap (λ n. length (at_slot (detector_slots c.task) n)) (sym next)
          ∙ sym (count_slot (detector_slots c.task) t),
      subst (λ (p : Progress). length raws ≡ length (at_slot p.task.raw_slots p.arrived))
          (sym seen) each_raw
          ∙ ap (λ n. length (at_slot c.task.raw_slots n)) (sym next)
          ∙ sym (count_slot c.task.raw_slots t),
    )

-- ---- the values that are known then

-- where two functions have the same values in a slot, they have the same value at each of it
known : (slots : List ℕ) (t : ℕ) (f g : ℕ → Bool) → map f (at_slot slots t)
    ≡ map g (at_slot slots t) → (n : ℕ) → n < length slots → slice_index slots n ≡ t → f n ≡ g n
known slots t f g same n within at =
    let xs = at_slot slots t in
    let c = Contains-is_in xs n (below_in (λ i. slice_index slots i == t) (length slots) n within
    (eq-eqb (slice_index slots n) t at)) in
    let here : get_or xs c.0 0 ≡ n = get_or_default xs c.0 0 n c.1 ∙ c.2 in
    ap f (sym here)
    ∙ sym (get_or-map f xs c.0 0 false c.1)
    ∙ ap (λ l. get_or l c.0 false) same
    ∙ get_or-map g xs c.0 0 false c.1
    ∙ ap g here

-- of a slot that has just arrived, or of an earlier one
known_by_now : (slots : List ℕ) (t : ℕ) (f g : ℕ → Bool) → map f (at_slot slots t)
    ≡ map g (at_slot slots t) → (n : ℕ) → n < length slots → slice_index slots n < t + 1 →
    (slice_index slots n < t → f n ≡ g n) → f n ≡ g n
known_by_now slots t f g same n within low before =
    ⊎_elim (λ at. known slots t f g same n within at)
    (λ other. before (omega (arith, other, low))) (cases_eq (slice_index slots n) t)

found : {X : Type 0} (P : X → Type 0) (xs : List X) (y : X) (ys : List X) → All P (xs ++ y ∷ ys) →
    P y
found P [] y ys all = All-head P y ys all
found P (x ∷ xs) y ys all = found P xs y ys (All-tail P x (xs ++ y ∷ ys) all)

-- ---- one more slot

module _ (may_guess : GuessView → Bool → Type 0) (old mid new : CoreTable) (before : IsState old)
    (after : IsState new) (t : ℕ) (values raws : List Bool) (entry_ : Entry)
    (may : MayHappen old (Arrived t values raws))
    (came : HasHappened old entry_ (Arrived t values raws) mid)
    (gone : HasGoneOn may_guess mid new) where
  abbrev slot : Event
  slot = Arrived t values raws

  abbrev at_arrival : Machine
  at_arrival = happens old.task (machine_of old) slot

  task_is : new.task ≡ old.task
  task_is = gone.task ∙ came.task

  events_are : events_of new ≡ events_of old ++ (slot ∷ gone.more)
  events_are =
      gone.events
      ∙ ap (λ l. l ++ gone.more) came.events
      ∙ append_assoc (events_of old) (slot ∷ []) gone.more

  machine_is : machine_of new ≡ happen_all old.task at_arrival gone.more
  machine_is =
      ap (λ task. happen_all task start (events_of new)) task_is
      ∙ ap (happen_all old.task start) events_are
      ∙ happen_all-append old.task start (events_of old) (slot ∷ gone.more)

  steps_are : visible new.task (events_of new) ≡ visible old.task (events_of old)
      ++ Arrive (machine_of old).arrived ∷ visible_from old.task at_arrival gone.more
  steps_are =
      ap (λ task. visible_from task start (events_of new)) task_is
      ∙ ap (visible_from old.task start) events_are
      ∙ visible_append old.task start (events_of old) (slot ∷ gone.more)
      ∙ ap (λ n. visible old.task (events_of old)
      ++ Arrive n ∷ visible_from old.task at_arrival gone.more) may.0.next

  arrived_is : (machine_of new).arrived ≡ (machine_of old).arrived + 1
  arrived_is = ap (λ (m : Machine). m.arrived) machine_is
      ∙ (all_keep old.task at_arrival gone.more gone.none_brings).arrived

  value_stays : (v : ℕ) → slice_index (detector_slots old.task) v < t →
      (machine_of new).value v ≡ (machine_of old).value v
  value_stays v low =
      ap (λ (m : Machine). m.value v) machine_is
      ∙ (all_keep old.task at_arrival gone.more gone.none_brings).value v
      ∙ values_stay (detector_slots old.task) t values (machine_of old).value v low

  raw_stays : (l : ℕ) → slice_index old.task.raw_slots l < t →
      (machine_of new).raw l ≡ (machine_of old).raw l
  raw_stays l low =
      ap (λ (m : Machine). m.raw l) machine_is
      ∙ (all_keep old.task at_arrival gone.more gone.none_brings).raw l
      ∙ values_stay old.task.raw_slots t raws (machine_of old).raw l low

  -- the arrival brought what is kept
  brought : IsBrought old.task (syndrome_of new.kept) slot
  brought =
      subst (λ task. IsBrought task (syndrome_of new.kept) slot) task_is
      (found (IsBrought new.task (syndrome_of new.kept)) (events_of old) slot gone.more
      (subst (All (IsBrought new.task (syndrome_of new.kept))) events_are after.brought))

  module _ (s : Syndrome) (fits : Fits s (progress_of old))
      (values_are : values ≡ map s.value (at_slot (detector_slots old.task) t))
      (raws_are : raws ≡ map s.raw (at_slot old.task.raw_slots t)) where
    value_known : (v : ℕ) → v < new.task.graph.vertices →
        slice_index (detector_slots new.task) v < (machine_of new).arrived →
        bit new.kept.values v ≡ s.value v
    value_known v within low =
        let in_graph : v < old.task.graph.vertices =
        subst (λ (task : Task). v < task.graph.vertices) task_is within in
        let early : slice_index (detector_slots old.task) v < (machine_of new).arrived =
        subst (λ (task : Task). slice_index (detector_slots task) v < (machine_of new).arrived)
        task_is low in
        let next = may.0.next in
        sym (known_by_now (detector_slots old.task) t s.value (bit new.kept.values)
        (sym values_are ∙ brought.0) v
        (omega (
          arith,
          in_graph,
          (laws old before).tagged,
          length-map old.task.tags (λ (tag : Tag). tag.slot),
        ))
        (omega (arith, early, arrived_is, next))
        (λ lower. let was = fits.values.value v in_graph (omega (arith, lower, next)) in
        sym was ∙ before.agrees.value v in_graph (omega (arith, lower, next))
        ∙ sym (value_stays v lower) ∙ sym (after.agrees.value v within low)))

    raw_known : (l : ℕ) → l < length new.task.raw_slots →
        slice_index new.task.raw_slots l < (machine_of new).arrived →
        bit new.kept.raws l ≡ s.raw l
    raw_known l within low =
        let in_task : l < length old.task.raw_slots =
        subst (λ (task : Task). l < length task.raw_slots) task_is within in
        let early : slice_index old.task.raw_slots l < (machine_of new).arrived =
        subst (λ (task : Task). slice_index task.raw_slots l < (machine_of new).arrived)
        task_is low in
        let next = may.0.next in
        sym (known_by_now old.task.raw_slots t s.raw (bit new.kept.raws)
        (sym raws_are ∙ brought.1) l in_task
        (omega (arith, early, arrived_is, next))
        (λ lower. let was = fits.raws.raw l in_task (omega (arith, lower, next)) in
        sym was ∙ before.agrees.raw l in_task (omega (arith, lower, next))
        ∙ sym (raw_stays l lower) ∙ sym (after.agrees.raw l within low)))

  pub arrival : IsArrival (progress_of old) values raws (progress_of new)
  arrival =
      let next = may.0.next in
      record {
        task = task_is;
        arrived = arrived_is;
        later = visible_from old.task at_arrival gone.more;
        none_arrives = none_shows old.task at_arrival gone.more gone.none_brings;
        steps = steps_are;
        fits = λ s fits values_are raws_are.
            let own = values_are ∙ ap (λ n. map s.value (at_slot (detector_slots old.task) n))
            (sym next) in
            let own_raws = raws_are ∙ ap (λ n. map s.raw (at_slot old.task.raw_slots n))
            (sym next) in
            record {
              values = record { value = value_known s fits own own_raws };
              raws = record { raw = raw_known s fits own own_raws };
            };
      }

  pub in_range_now : (machine_of new).arrived ≤ new.task.last_slot + 1
  in_range_now =
      let next = may.0.next in
      let last = may.0.in_range in
      let same = ap (λ (task : Task). task.last_slot) task_is in
      omega (arith, next, last, same, arrived_is)

  pub retries_stay : new.retries ≡ old.retries
  retries_stay = gone.retries ∙ came.retries

  -- the new guesses too may be made
  pub guessed_now : AreAllGuessed may_guess (view_of old) → AreAllGuessed may_guess (view_of new)
  guessed_now all =
      subst (λ task. AreGuessedFrom may_guess task start (events_of new)) (sym task_is)
      (subst (AreGuessedFrom may_guess old.task start) (sym events_are)
      (guessed_append may_guess old.task start (events_of old) (slot ∷ gone.more) all (
        tt,
        subst (λ m. AreGuessedFrom may_guess old.task m gone.more)
            (machine_now old mid entry_ slot came)
            (subst (λ task. AreGuessedFrom may_guess task (machine_of mid) gone.more) came.task
            gone.guessed),
      )))
