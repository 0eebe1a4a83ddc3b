-- All that happened: the values that its arrivals brought, and its answers.
use Rattle.std.proofs.Common.{◌≡◌, ◌<◌, ◌≤◌, ◌==◌, ℕ, Bool, if◌then◌else◌, List, [], ◌∷◌, refl, sym, ap, ◌∙◌, arith, length, map, All, eqb-true, slice_index}
use Rattle.std.proofs.lemmas.List.{length-map}
use Rattle.std.proofs.lemmas.List.Elements.{All-cons, All-head, All-nil, All-tail}
use Rattle.graph_model.proofs.Members.{map_same_in}
use Rattle.graph_model.specs.declared.Tag.{Tag}
use Rattle.window_model.specs.Decoder.{Task, Syndrome}
use Rattle.window_model.specs.Progress.{Fits}
use Rattle.window_model.specs.Speculation.{Event, Arrived, Claimed, Returned, Stale, Verified, Poisoned, Dropped, Committed, Released, Machine, at_slot, detector_slots, happens, happen_all, start, IsBrought, IsEnabled, IsHistoryFrom}
use Rattle.window_model.proofs.Arrivals.{brought_law}
use Rattle.window_model.proofs.Plans.{in_below}
use Rattle.window_model.proofs.Tickets.{closed_law, ticket_law}
use Rattle.core_journal.specs.Entries.{syndrome_of}
use Rattle.core_state.specs.States.{CoreTable, IsState, events_of, machine_of}
use Rattle.window_core.specs.Cores.{IsCore}
use Rattle.slot_decoder.specs.Histories.{IsHistoryOf}
use Rattle.slot_decoder.specs.Slots.{AllAnswered, progress_of, view_of}
use Rattle.slot_decoder.proofs.Going.{one_keeps}
use Rattle.slot_decoder.proofs.Resting.{laws}

-- ---- slots that have arrived

rises : (task : Task) (m : Machine) (event : Event) → m.arrived ≤ (happens task m event).arrived
rises task m (Arrived t values raws) = omega arith
rises task m (Claimed k w links) = omega arith
rises task m (Returned k set) = omega arith
rises task m (Stale k) = omega arith
rises task m (Verified x w) = let same = (one_keeps task m (Verified x w) tt).arrived in
    omega (arith, same)
rises task m (Poisoned x w) = omega arith
rises task m (Dropped w) = omega arith
rises task m (Committed k w) = omega arith
rises task m (Released op bit) = omega arith

all_rise : (task : Task) (m : Machine) (events : List Event) →
    m.arrived ≤ (happen_all task m events).arrived
all_rise task m [] = omega arith
all_rise task m (event ∷ events) =
    let one = rises task m event in
    let rest = all_rise task (happens task m event) events in
    omega (arith, one, rest)

-- ---- values of slots that have arrived

-- two functions with the same values in all slots below the bound have the same in one of them
same_in_slot : (slots : List ℕ) (t bound : ℕ) (f g : ℕ → Bool) → t < bound →
    ((n : ℕ) → n < length slots → slice_index slots n < bound → f n ≡ g n) →
    map f (at_slot slots t) ≡ map g (at_slot slots t)
same_in_slot slots t bound f g low known =
    map_same_in f g (at_slot slots t) (λ n m.
    let k = in_below (λ i. slice_index slots i == t) (length slots) n m in
    let at : slice_index slots n ≡ t = eqb-true (slice_index slots n) t k.1 in
    known n k.0 (omega (arith, at, low)))

-- the two syndromes have the same values in all slots below the bound
record AreAlike (task : Task) (one two : Syndrome) (bound : ℕ) : Type 0 where
  value : (v : ℕ) → v < length (detector_slots task) →
      slice_index (detector_slots task) v < bound → one.value v ≡ two.value v
  raw : (l : ℕ) → l < length task.raw_slots → slice_index task.raw_slots l < bound →
      one.raw l ≡ two.raw l

module _ (task : Task) (retries : ℕ) (one two : Syndrome) (bound : ℕ)
    (alike : AreAlike task one two bound) where
  -- what brings the values of the one brings those of the other
  brings : (m : Machine) (event : Event) → IsEnabled task retries m event →
      (happens task m event).arrived ≤ bound → IsBrought task one event → IsBrought task two event
  brings m (Arrived t values raws) may low brought =
      let next = may.0.next in
      let early : t < bound = omega (arith, next, low) in (
        brought.0
            ∙ same_in_slot (detector_slots task) t bound one.value two.value early alike.value,
        brought.1 ∙ same_in_slot task.raw_slots t bound one.raw two.raw early alike.raw,
      )
  brings m (Claimed k w links) may low brought = tt
  brings m (Returned k set) may low brought = tt
  brings m (Stale k) may low brought = tt
  brings m (Verified x w) may low brought = tt
  brings m (Poisoned x w) may low brought = tt
  brings m (Dropped w) may low brought = tt
  brings m (Committed k w) may low brought = tt
  brings m (Released op bit) may low brought = tt

  all_bring : (m : Machine) (events : List Event) → IsHistoryFrom task retries m events →
      (happen_all task m events).arrived ≤ bound → All (IsBrought task one) events →
      All (IsBrought task two) events
  all_bring m [] history low brought = All-nil (IsBrought task two)
  all_bring m (event ∷ events) history low brought =
      let rest = all_rise task (happens task m event) events in
      All-cons (IsBrought task two) event events
      (brings m event history.0 (omega (arith, rest, low))
      (All-head (IsBrought task one) event events brought))
      (all_bring (happens task m event) events history.1 low
      (All-tail (IsBrought task one) event events brought))

-- ---- what always holds

abbrev once : Bool → ℕ
once closed = if closed then 1 else 0

module _ (c : CoreTable) (core : IsCore c) (answered : AllAnswered c) where
  abbrev state : IsState c
  state = core.state

  brought_by : (s : Syndrome) → Fits s (progress_of c) → All (IsBrought c.task s) (events_of c)
  brought_by s fits =
      all_bring c.task c.retries (syndrome_of c.kept) s (machine_of c).arrived
      (record {
        value = λ v within low. fits.values.value v
            (omega (
              arith,
              within,
              (laws c state).tagged,
              length-map c.task.tags (λ (tag : Tag). tag.slot),
            )) low;
        raw = λ l within low. fits.raws.raw l within low;
      }) start (events_of c) state.history (omega arith) state.brought

  -- the other way round
  fits_by : (s : Syndrome) → All (IsBrought c.task s) (events_of c) → Fits s (progress_of c)
  fits_by s brought =
      let agrees = brought_law c.task c.retries (events_of c) s (laws c state) state.history brought
      in
      record {
        values = record {
          value = λ v within low.
              state.agrees.value v within low ∙ sym (agrees.value v within low);
        };
        raws = record {
          raw = λ l within low. state.agrees.raw l within low ∙ sym (agrees.raw l within low);
        };
      }

  pub happened : IsHistoryOf (view_of c)
  happened = record {
    ordered = core.ordered;
    brought = brought_by;
    fits = fits_by;
    answered = λ k l.
        let claims = ticket_law c.task (events_of c) in
        closed_law c.task c.retries (events_of c) k (laws c state) state.history
        ∙ ap once (answered k (omega (arith, l, claims)));
    shown = refl;
  }
