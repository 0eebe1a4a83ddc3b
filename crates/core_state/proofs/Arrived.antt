-- What arrivals, releases and commits leave of the tables.
use Rattle.std.proofs.Common.{◌≡◌, ℕ, zero, suc, ◌+◌, ◌<◌, ◌≤◌, ◌==◌, Bool, cond, List, refl, sym, ap, ◌∙◌, subst, length, arith, count_by, get_or, take}
use Rattle.std.specs.List.{range_with_len}
use Rattle.std.proofs.lemmas.List.{take_all, take_more}
use Rattle.std.proofs.lemmas.List.Sums.{length-filter, sum_by_push}
use Rattle.graph_model.proofs.Ranges.{count_next}
use Rattle.window_model.specs.Decoder.{owned_part}
use Rattle.window_model.specs.Speculation.{Event, Arrived, Committed, Released, at_slot, count_in, detector_slots, result_of, MayCommitTicket, IsEnabled}
use Rattle.window_phases.specs.Phases.{committed}
use Rattle.window_phases.proofs.Tables.{committed_table_law, left_table_law}
use Rattle.release_laws.specs.Tables.{ReleaseTable, TakesWindow, with_bit}
use Rattle.release_laws.proofs.Following.{released_table_law, taken_window_law}
use Rattle.core_journal.specs.declared.event.Event.TheVariants as entry
use Rattle.core_journal.specs.Entries.{Kept, values_at, raws_at}
use Rattle.core_journal.specs.EntryLaws.{IsOneMore, IsWrittenAt}
use Rattle.core_journal.proofs.Events.{arrived_law as arrived_entry}
use Rattle.core_state.specs.States.{Parts, AreParts, kept_of, kept_with, history_in, machine_in}
use Rattle.core_state.proofs.Follows.{Goes, follows, laws, with_entry}
use Rattle.core_state.proofs.Events.{left_release, left_store, plain_more}

-- how many have the slot, counted in two ways
counted_after : (t : ℕ) (slots : List ℕ) (n : ℕ) → n ≤ length slots → count_by (λ u. u == t)
    (take n slots) ≡ count_by (λ i. get_or slots i 0 == t) (range_with_len 0 n)
counted_after t slots zero l = refl
counted_after t slots (suc n) l =
    let e : suc n ≡ n + 1 = omega arith in
    ap (λ k. count_by (λ u. u == t) (take k slots)) e
    ∙ ap (count_by (λ u. u == t)) (take_more slots n 0 (omega (arith, l)))
    ∙ sum_by_push (λ u. cond (u == t) 1 0) (take n slots) (get_or slots n 0)
    ∙ ap (λ c. c + cond (get_or slots n 0 == t) 1 0) (counted_after t slots n (omega (arith, l)))
    ∙ sym (count_next (λ i. get_or slots i 0 == t) n)
    ∙ ap (λ k. count_by (λ i. get_or slots i 0 == t) (range_with_len 0 k)) (sym e)

pub count_slot : (slots : List ℕ) (t : ℕ) → count_in slots t ≡ length (at_slot slots t)
count_slot slots t =
    ap (count_by (λ u. u == t)) (sym (take_all (length slots) slots (omega arith)))
    ∙ counted_after t slots (length slots) (omega arith)
    ∙ sym (length-filter (λ i. get_or slots i 0 == t) (range_with_len 0 (length slots)))

module _ (p : Parts) (h : AreParts p) where
  -- ---- a slot

  module _ (slot : ℕ) (values raws : List Bool) (may : IsEnabled p.task p.retries (machine_in p)
      (Arrived slot values raws)) where
    abbrev came : Event
    came = Arrived slot values raws

    -- it is the next one
    pub next_slot : slot ≡ p.arrived
    next_slot = may.0.next ∙ h.arrived

    pub slot_values : length values ≡ length (at_slot (detector_slots p.task) slot)
    slot_values = may.1 ∙ count_slot (detector_slots p.task) slot

    pub slot_raws : length raws ≡ length (at_slot p.task.raw_slots slot)
    slot_raws = may.2 ∙ count_slot p.task.raw_slots slot

    pub arrived_goes : (new_values new_raws : List Bool) → length new_values ≡ length p.values →
        length new_raws ≡ length p.raws → values_at p.task new_values slot ≡ values →
        raws_at p.task new_raws slot ≡ raws →
        IsWrittenAt (detector_slots p.task) slot p.values new_values →
        IsWrittenAt p.task.raw_slots slot p.raws new_raws →
        Goes p (record p {
          arrived = p.arrived + 1;
          values = new_values;
          raws = new_raws;
          journal = with_entry p.journal (entry.Arrived slot);
        }) (entry.Arrived slot) came
    arrived_goes new_values new_raws each_value each_raw brings brings_raws one two =
        follows p h came may (p.arrived + 1) new_values new_raws p.tickets p.phases p.releases
        (entry.Arrived slot) more (λ k current e. absurd (cc))
        (left_table_law p.task p.retries (history_in p) p.phases came h.phases may tt)
        (left_store p h came may tt) (left_release p h came may tt)
        (ap (λ n. n + 1) h.arrived) each_value each_raw refl refl
        h.each_closed (record { part = h.answered.part }) h.each_bits
      where
        after : Kept
        after = kept_with p.task new_values new_raws p.tickets

        at_next : IsOneMore p.task (p.arrived + 1) (kept_of p) after p.journal.entries
            (entry.Arrived p.arrived) (Arrived p.arrived (values_at p.task new_values p.arrived)
            (raws_at p.task new_raws p.arrived))
        at_next =
            arrived_entry p.task p.arrived (kept_of p) p.journal.entries new_values new_raws h.there
            (subst (λ t. IsWrittenAt (detector_slots p.task) t p.values new_values) next_slot one)
            (subst (λ t. IsWrittenAt p.task.raw_slots t p.raws new_raws) next_slot two)

        at_slot_ : IsOneMore p.task (p.arrived + 1) (kept_of p) after
            p.journal.entries (entry.Arrived slot) (Arrived slot (values_at p.task new_values slot)
            (raws_at p.task new_raws slot))
        at_slot_ = subst (λ t. IsOneMore p.task (p.arrived + 1) (kept_of p)
            after p.journal.entries (entry.Arrived t) (Arrived t (values_at p.task new_values t)
            (raws_at p.task new_raws t))) (sym next_slot) at_next

        more : IsOneMore p.task (p.arrived + 1) (kept_of p) after p.journal.entries
            (entry.Arrived slot) came
        more =
            subst (λ rs. IsOneMore p.task (p.arrived + 1) (kept_of p) after p.journal.entries
            (entry.Arrived slot) (Arrived slot values rs)) brings_raws
            (subst (λ vs. IsOneMore p.task (p.arrived + 1) (kept_of p) after p.journal.entries
            (entry.Arrived slot) (Arrived slot vs (raws_at p.task new_raws slot))) brings
            at_slot_)

  -- ---- a release

  module _ (op : ℕ) (bit : Bool) (may : IsEnabled p.task p.retries (machine_in p)
      (Released op bit)) where
    pub released_goes : Goes p (record p {
      releases = with_bit p.releases op bit;
      journal = with_entry p.journal (entry.Released op bit);
    }) (entry.Released op bit)
        (Released op bit)
    released_goes =
        follows p h (Released op bit) may p.arrived p.values p.raws p.tickets p.phases
        (with_bit p.releases op bit) (entry.Released op bit)
        (plain_more p h (entry.Released op bit) tt) (λ k current e. absurd (cc))
        (left_table_law p.task p.retries (history_in p)
        p.phases (Released op bit) h.phases may tt)
        (left_store p h (Released op bit) may tt) (released_table_law p.task p.retries
        (history_in p) p.releases op bit (laws p h) h.history h.releases may).1
        h.arrived refl refl refl refl h.each_closed h.answered h.each_bits

    pub has_bit_place : op < length p.releases.bits
    has_bit_place = (released_table_law p.task p.retries (history_in p) p.releases op bit (laws p h)
        h.history h.releases may).0

  -- ---- a commit

  pub has_flag : (k w : ℕ) → MayCommitTicket p.task (machine_in p) k w → w < length p.phases.done
  has_flag k w may =
      (committed_table_law p.task p.retries (history_in p) p.phases k w h.phases may).0

  module _ (k w : ℕ) (may : MayCommitTicket p.task (machine_in p) k w) (releases : ReleaseTable)
      (takes : TakesWindow p.task w (owned_part p.task w (result_of (machine_in p) k)) p.releases
      releases) where
    pub committed_goes : Goes p (record p {
      phases = committed p.phases w;
      releases = releases;
      journal = with_entry p.journal (entry.Committed k w);
    }) (entry.Committed k w)
        (Committed k w)
    committed_goes =
        follows p h (Committed k w) may p.arrived p.values p.raws p.tickets (committed p.phases w)
        releases (entry.Committed k w)
        (plain_more p h (entry.Committed k w) tt) (λ k current e. absurd (cc))
        (committed_table_law p.task p.retries (history_in p) p.phases k w h.phases may).1
        (left_store p h (Committed k w) may tt) (taken_window_law p.task p.retries (history_in p)
        p.releases releases k w (laws p h) h.history h.releases may takes)
        h.arrived refl refl takes.frame.each refl h.each_closed h.answered h.each_bits
