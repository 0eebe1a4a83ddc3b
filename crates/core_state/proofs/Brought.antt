-- The slots that a history brings are those that have arrived, each with the values that are kept.
use Rattle.std.proofs.Common.{◌≡◌, ℕ, zero, suc, ◌+◌, ◌<◌, ◌≤◌, Bool, List, [], ◌∷◌, ◌++◌, refl, sym, ap, ◌∙◌, subst, map, All, arith, Option, None, Some, get_or, length, slice_get, take, zero-add}
use Rattle.std.specs.List.{range_with_len}
use Rattle.std.proofs.lemmas.List.{take_all, take_more}
use Rattle.std.proofs.lemmas.List.FromFn.{get_or-map-range_with_len, length-map-range_with_len, map-range_with_len_more}
use Rattle.std.proofs.lemmas.Option.{get_or_from_slice_get, slice_get_within}
use Rattle.std.proofs.lemmas.List.Elements.{All-head, All-tail}
use Rattle.detector_graph.specs.declared.folded.Folded.{Folded}
use Rattle.window_model.specs.Decoder.{Task, Syndrome}
use Rattle.window_model.specs.Speculation.{Event, Arrived, Claimed, Returned, Stale, Verified, Poisoned, Dropped, Committed, Released, Machine, at_slot, confirm, detector_slots, happen_all, happens, pending, standing, start, IsBrought, IsHistoryFrom}
use Rattle.core_journal.specs.Entries.{syndrome_of}
use Rattle.core_state.specs.Arrivals.{arrivals_in, kept_at}
use Rattle.core_state.specs.States.{CoreTable, IsState, events_of, machine_of}

-- the values of a syndrome in a slot
abbrev pub slot_of_syndrome : Task → Syndrome → ℕ → Folded
slot_of_syndrome task s t = record {
  slot = t;
  defects = map s.value (at_slot (detector_slots task) t);
  raws = map s.raw (at_slot task.raw_slots t);
}

abbrev pub made : ℕ → List Bool → List Bool → Folded
made t values raws = record { slot = t; defects = values; raws = raws }

-- so many slots are brought, from this one on, and none past the last
record AreBrought (task : Task) (s : Syndrome) (from to : ℕ) (brought : List Folded) : Type 0 where
  count : ℕ
  ends : to ≡ from + count
  within : from ≤ task.last_slot + 1 → to ≤ task.last_slot + 1
  values : brought ≡ map (slot_of_syndrome task s) (range_with_len from count)

one : (task : Task) (s : Syndrome) (from to t : ℕ) (values raws : List Bool)
    (brought : List Folded) → t ≡ from → t ≤ task.last_slot →
    values ≡ map s.value (at_slot (detector_slots task) t) →
    raws ≡ map s.raw (at_slot task.raw_slots t) → AreBrought task s (from + 1) to brought →
    AreBrought task s from to (made t values raws ∷ brought)
one task s from to t values raws brought at low has has_raws rest = record {
  count = suc rest.count;
  ends = let e = rest.ends in omega (arith, e);
  within = λ from_low. rest.within (omega (arith, at, low));
  values =
      ap (λ xs. made t values raws ∷ xs) rest.values
      ∙ ap (λ vs. made t vs raws ∷ later) has
      ∙ ap (λ rs. made t (map s.value (at_slot (detector_slots task) t)) rs ∷ later) has_raws
      ∙ ap (λ n. slot_of_syndrome task s n ∷ later) at;
}
  where
    later : List Folded
    later = map (slot_of_syndrome task s) (range_with_len (from + 1) rest.count)

confirmed : (m : Machine) (x : ℕ) (first second : Option ℕ) →
    (confirm m x first second).arrived ≡ m.arrived
confirmed m x (Some k) (Some j) = refl
confirmed m x (Some k) None = refl
confirmed m x None second = refl

brought_from : (task : Task) (retries : ℕ) (s : Syndrome) (m : Machine) (events : List Event) →
    IsHistoryFrom task retries m events → All (IsBrought task s) events →
    AreBrought task s m.arrived (happen_all task m events).arrived (arrivals_in events)
brought_from task retries s m [] h b =
    record { count = 0; ends = omega arith; within = λ l. l; values = refl }
brought_from task retries s m (Arrived t values raws ∷ events) h b =
    let has = All-head (IsBrought task s) (Arrived t values raws) events b in
    one task s m.arrived _ t values raws (arrivals_in events) h.0.0.next h.0.0.in_range has.0
    has.1
    (brought_from task retries s (happens task m (Arrived t values raws)) events h.1
    (All-tail (IsBrought task s) (Arrived t values raws) events b))
brought_from task retries s m (Claimed k w links ∷ events) h b =
    brought_from task retries s (happens task m (Claimed k w links)) events h.1
    (All-tail (IsBrought task s) (Claimed k w links) events b)
brought_from task retries s m (Returned k set ∷ events) h b =
    brought_from task retries s (happens task m (Returned k set)) events h.1
    (All-tail (IsBrought task s) (Returned k set) events b)
brought_from task retries s m (Stale k ∷ events) h b =
    brought_from task retries s (happens task m (Stale k)) events h.1
    (All-tail (IsBrought task s) (Stale k) events b)
brought_from task retries s m (Verified x w ∷ events) h b =
    subst (λ n. AreBrought task s n (happen_all task m (Verified x w ∷ events)).arrived
    (arrivals_in events))
    (confirmed m x (pending (m.phase w)) (standing (m.phase x)))
    (brought_from task retries s (happens task m (Verified x w)) events h.1
    (All-tail (IsBrought task s) (Verified x w) events b))
brought_from task retries s m (Poisoned x w ∷ events) h b =
    brought_from task retries s (happens task m (Poisoned x w)) events h.1
    (All-tail (IsBrought task s) (Poisoned x w) events b)
brought_from task retries s m (Dropped w ∷ events) h b =
    brought_from task retries s (happens task m (Dropped w)) events h.1
    (All-tail (IsBrought task s) (Dropped w) events b)
brought_from task retries s m (Committed k w ∷ events) h b =
    brought_from task retries s (happens task m (Committed k w)) events h.1
    (All-tail (IsBrought task s) (Committed k w) events b)
brought_from task retries s m (Released op bit ∷ events) h b =
    brought_from task retries s (happens task m (Released op bit)) events h.1
    (All-tail (IsBrought task s) (Released op bit) events b)

-- no more slots have arrived than there are
pub arrived_in : (c : CoreTable) → IsState c → (machine_of c).arrived ≤ c.task.last_slot + 1
arrived_in c h =
    let all = brought_from c.task c.retries (syndrome_of c.kept) start (events_of c) h.history
    h.brought in
    all.within (omega arith)

pub arrivals_are : (c : CoreTable) → IsState c → arrivals_in (events_of c)
    ≡ map (kept_at c) (range_with_len 0 (machine_of c).arrived)
arrivals_are c h =
    let all = brought_from c.task c.retries (syndrome_of c.kept) start (events_of c) h.history
    h.brought in
    let many : all.count ≡ (machine_of c).arrived = let e = all.ends in omega (arith, e) in
    all.values ∙ ap (λ n. map (kept_at c) (range_with_len 0 n)) many

-- ---- held against values that are given

-- the parts of a slot's values make the whole
pub same_folded : (f : Folded) (t : ℕ) (values raws : List Bool) → f.slot ≡ t →
    values ≡ f.defects → raws ≡ f.raws → made t values raws ≡ f
same_folded f t values raws at has has_raws =
    ap (λ n. made n values raws) (sym at)
    ∙ ap (λ vs. made f.slot vs raws) has
    ∙ ap (λ rs. made f.slot f.defects rs) has_raws

module _ (c : CoreTable) (given : List Folded) where
  -- one slot more is the same
  pub one_more_slot : (n : ℕ) (folded : Folded) →
      map (kept_at c) (range_with_len 0 n) ≡ take n given → slice_get given n ≡ Some folded →
      kept_at c n ≡ folded → map (kept_at c) (range_with_len 0 (n + 1)) ≡ take (n + 1) given
  one_more_slot n folded before read here =
      map-range_with_len_more (kept_at c) 0 n n (zero-add n)
      ∙ ap (λ (xs : List Folded). xs ++ kept_at c n ∷ []) before
      ∙ ap (λ (f : Folded). take n given ++ f ∷ [])
      (here ∙ sym (get_or_from_slice_get given n folded folded read))
      ∙ sym (take_more given n folded (slice_get_within given n folded read))

  module _ (h : IsState c) where
    -- all are
    pub all_slots : (n : ℕ) → length given ≡ (machine_of c).arrived → (machine_of c).arrived ≤ n →
        map (kept_at c) (range_with_len 0 n) ≡ take n given → arrivals_in (events_of c) ≡ given
    all_slots n long over same =
        let whole : map (kept_at c) (range_with_len 0 n) ≡ given =
        same ∙ take_all n given (omega (arith, long, over)) in
        let many : n ≡ (machine_of c).arrived =
        sym (length-map-range_with_len (kept_at c) 0 n) ∙ ap length whole ∙ long in
        arrivals_are c h ∙ ap (λ k. map (kept_at c) (range_with_len 0 k)) (sym many) ∙ whole

    -- where all are, each is
    pub slot_of_all : arrivals_in (events_of c) ≡ given → (n : ℕ) (folded : Folded) →
        slice_get given n ≡ Some folded → n < (machine_of c).arrived → kept_at c n ≡ folded
    slot_of_all same n folded read l =
        sym (get_or-map-range_with_len (kept_at c) 0 (machine_of c).arrived n n folded l
        (zero-add n))
        ∙ ap (λ (xs : List Folded). get_or xs n folded) (sym (arrivals_are c h) ∙ same)
        ∙ get_or_from_slice_get given n folded folded read

    pub as_many : arrivals_in (events_of c) ≡ given → length given ≡ (machine_of c).arrived
    as_many same =
        ap length (sym same ∙ arrivals_are c h)
        ∙ length-map-range_with_len (kept_at c) 0 (machine_of c).arrived
