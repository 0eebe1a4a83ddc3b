-- What a core's state says of its texts.
use Rattle.std.proofs.Common.{◌≡◌, ◌≤◌, ◌<◌, ◌+◌, ◌&&◌, ℕ, zero, suc, Bool, true, false, List, [], ◌∷◌, ◌++◌, drop, flat_map, length, take, nat_lt, arith, refl, sym, ap, ◌∙◌, subst, Some, is_some, option_map, slice_get, slice_index, slice_index_or}
use Rattle.std.specs.List.{range_with_len}
use Rattle.std.specs.List.Sorted.{IsStrictlyIncreasing}
use Rattle.std.proofs.lemmas.Bool.{ltb-true}
use Rattle.std.proofs.lemmas.List.Kept.{IsStrictlyIncreasing-filter}
use Rattle.std.proofs.lemmas.List.{take-map}
use Rattle.std.proofs.lemmas.Option.{get_or_from_slice_get, none-some, same_Some, slice_get-map, slice_get_within}
use Rattle.graph_model.specs.Graph.{is_in}
use Rattle.graph_model.proofs.Ascending.{increasing_length}
use Rattle.graph_model.proofs.Incidence.{increasing_range}
use Rattle.graph_model.proofs.Members.{all_within}
use Rattle.window_model.specs.Decoder.{Syndrome, after_all, owned_part, start}
use Rattle.window_model.specs.Gates.{most_windows}
use Rattle.window_model.specs.Laws.{PlanLaws}
use Rattle.window_model.specs.Speculation.{Event, IsHistory, Phase, Waiting, Running, Held, Done, done, happen_all, result_of, sources_of, start as begun}
use Rattle.window_model.specs.Windows.{slot_of, window_at, window_count}
use Rattle.window_model.proofs.Tickets.{covered_law}
use Rattle.window_model.proofs.Simulation.{shown_law}
use Rattle.window_setting.proofs.Lawful.{laws_of}
use Rattle.report_model.specs.Texts.{event_line, event_lines, step_line}
use Rattle.core_journal.specs.declared.event.Event.{Event as Entry}
use Rattle.core_journal.specs.declared.event.Event.TheVariants as entry
use Rattle.core_journal.specs.Entries.{event_of, history_of, links_of}
use Rattle.cascade_laws.specs.Turns.{is_done}
use Rattle.core_store.specs.Tickets.{ClaimBits, links_in, links_with}
use Rattle.core_state.proofs.Begun.{windows_few}
use Rattle.trace_laws.specs.Told.{AreTold, StandsYet, entry_line, entry_steps}
use Rattle.trace_laws.proofs.Standing.{standing_law}
use Rattle.trace_laws.proofs.Told.{line_law, log_law, trace_law}
use Rattle.core_state.specs.States.{CoreTable, IsState, events_of, machine_of}
use Rattle.run_report.specs.Reports.{FitsCore, decoder_in, machine_before, steps_of}

-- a list, cut at one of its elements
pub cut_at : {X : Type 0} (xs : List X) (at : ℕ) (x : X) → slice_get xs at ≡ Some x →
    xs ≡ take at xs ++ x ∷ drop (at + 1) xs
cut_at [] at x e = absurd (none-some x e)
cut_at (y ∷ xs) zero x e = ap (λ z. z ∷ xs) (same_Some y x e)
cut_at (y ∷ xs) (suc at) x e =
    ap (λ zs. y ∷ zs) (cut_at xs at x e)
    ∙ ap (λ n. y ∷ take at xs ++ x ∷ drop n (y ∷ xs)) (sym (next at))
  where
    next : (n : ℕ) → suc n + 1 ≡ suc (n + 1)
    next n = omega arith

never : (a b : Bool) → (a && false) ≡ (b && false)
never true true = refl
never true false = refl
never false true = refl
never false false = refl

-- a window that is done is committed
done_kept : {X : Type 0} (f : ℕ → X) (phase : Phase) →
    is_done phase ≡ is_some (option_map f (done phase))
done_kept f Waiting = refl
done_kept f (Running k) = refl
done_kept f (Held k) = refl
done_kept f (Done k) = refl

pub kept_is : (c : CoreTable) (w : ℕ) →
    is_done ((machine_of c).phase w) ≡ is_some ((decoder_in c).kept w)
kept_is c w = done_kept (λ k. owned_part c.task w (result_of (machine_of c) k))
    ((machine_of c).phase w)

module _ (c : CoreTable) (h : IsState c) where
  laws : PlanLaws c.task.graph c.task.tags c.task.plan
  laws = laws_of c.task h.setting

  -- what an entry of the journal speaks of stands yet
  pub entry_stands : (at : ℕ) (e : Entry) → slice_get c.journal at ≡ Some e →
      StandsYet c.task c.kept (machine_of c) e
  entry_stands at e is =
      subst (StandsYet c.task c.kept (machine_of c)) (get_or_from_slice_get c.journal at e e is)
      (standing_law c.task c.retries c.kept c.journal laws h.history at e
      (slice_get_within c.journal at e is))

  pub stands_in : (items : List Entry) → items ≡ c.journal → (at : ℕ) (d : Entry) →
      at < length items → StandsYet c.task c.kept (machine_of c) (slice_index_or items at d)
  stands_in items same at d within =
      subst (λ es. StandsYet c.task c.kept (machine_of c) (slice_index_or es at d)) (sym same)
      (standing_law c.task c.retries c.kept c.journal laws h.history at d
      (subst (λ es. at < length es) same within))

  -- ---- a claim

  module _ (k w : ℕ) (stands : StandsYet c.task c.kept (machine_of c) (entry.Claimed k w)) where
    -- its window is one of the plan's
    pub window_in : w < window_count c.task.plan
    window_in =
        subst (λ x. x < window_count c.task.plan) stands.1
        (covered_law c.task c.retries (events_of c) k laws h.history stands.0).in_range

    -- its links are those of the window's dependencies
    pub sources_are : (claim : ClaimBits) (deps : List ℕ) →
        claim.window ≡ ((machine_of c).claim k).window →
        links_in c.task.plan claim ≡ links_of c.kept k →
        deps ≡ (window_at c.task.plan w).deps →
        sources_of (links_with deps claim.origins claim.bits) ≡ deps
    sources_are claim deps window links are =
        ap (λ ds. sources_of (links_with ds claim.origins claim.bits))
        (are ∙ ap (λ x. (window_at c.task.plan x).deps) (sym (window ∙ stands.1)))
        ∙ ap sources_of links ∙ stands.2 ∙ sym are

    -- they are lower
    pub deps_few : (deps : List ℕ) → deps ≡ (window_at c.task.plan w).deps →
        length deps ≤ most_windows
    deps_few deps are =
        let rising = subst IsStrictlyIncreasing (sym (laws.deps_listed w))
        (IsStrictlyIncreasing-filter (is_in (window_at c.task.plan w).deps)
        (range_with_len 0 (window_count c.task.plan))
        (increasing_range 0 (window_count c.task.plan))) in
        let low = increasing_length w (window_at c.task.plan w).deps rising
        (all_within (λ x. x < w) (window_at c.task.plan w).deps (laws.deps_lower w)) in
        let long = ap length are in
        let few = windows_few c.task h.setting in
        let within = window_in in
        omega (arith, low, long, few, within)

  -- the line of an entry is that of its event
  pub event_printed : (labels : List (List ℕ)) (at : ℕ) (e : Entry) →
      slice_get c.journal at ≡ Some e → (event : Event) →
      slice_get (events_of c) at ≡ Some event →
      entry_line c.task labels c.kept e
      ≡ event_line c.task labels (machine_before c at) event
  event_printed labels at e is event happened =
      sym (line_law c.task c.retries labels c.kept (take at c.journal) e (drop (at + 1) c.journal)
      laws
      (subst (λ es. IsHistory c.task c.retries (history_of c.task c.kept es)) cut h.history)
      (subst (AreTold c.task c.kept) cut h.told))
      ∙ ap (λ m. event_line c.task labels m (event_of c.task c.kept e))
      (ap (happen_all c.task begun) (sym (take-map (event_of c.task c.kept) at c.journal)))
      ∙ ap (event_line c.task labels (machine_before c at)) same
    where
      cut : c.journal ≡ take at c.journal ++ e ∷ drop (at + 1) c.journal
      cut = cut_at c.journal at e is

      same : event_of c.task c.kept e ≡ event
      same = same_Some (event_of c.task c.kept e) event
          (sym (slice_get-map (event_of c.task c.kept) c.journal at
          ∙ ap (option_map (event_of c.task c.kept)) is) ∙ happened)

  pub trace_lines : (labels : List (List ℕ)) →
      flat_map (entry_line c.task labels c.kept) c.journal
      ≡ event_lines c.task labels begun (events_of c)
  trace_lines labels =
      sym (trace_law c.task c.retries labels c.kept c.journal laws h.history h.told)

  pub log_lines : (labels : List (List ℕ)) →
      flat_map (step_line labels) (flat_map (entry_steps c.task c.kept) c.journal)
      ≡ flat_map (step_line labels) (steps_of c)
  log_lines labels =
      ap (flat_map (step_line labels))
      (sym (log_law c.task c.retries c.kept c.journal laws h.history))

  -- what shows leads to what is committed and released
  pub decoder_is : after_all start (steps_of c) ≡ decoder_in c
  decoder_is = shown_law c.task c.retries (events_of c) laws h.history

  -- the values that have arrived are the syndrome's
  module _ (s : Syndrome) (fits : FitsCore c s) where
    pub raw_is : (l : ℕ) → l < length c.task.raw_slots →
        c.task.last_slot < (machine_of c).arrived → slice_index_or c.kept.raws l false ≡ s.raw l
    raw_is l within all =
        let in_slots = h.setting.fit.raws_in l 0 within in
        let here : slice_index c.task.raw_slots l < (machine_of c).arrived = omega (
          arith,
          in_slots,
          all,
        ) in
        h.agrees.raw l within here ∙ sym (fits.raw l within here)

    pub defect_is : (v : ℕ) → v < c.task.graph.vertices →
        (slice_index_or c.kept.values v false
        && nat_lt (slot_of c.task.tags v) (machine_of c).arrived)
        ≡ (s.value v && nat_lt (slot_of c.task.tags v) (machine_of c).arrived)
    defect_is v within = by_test (nat_lt (slot_of c.task.tags v) (machine_of c).arrived) refl
      where
        by_test : (b : Bool) → nat_lt (slot_of c.task.tags v) (machine_of c).arrived ≡ b →
            (slice_index_or c.kept.values v false && b) ≡ (s.value v && b)
        by_test true e =
            let here = ltb-true (slot_of c.task.tags v) (machine_of c).arrived e in
            ap (λ x. x && true) (h.agrees.value v within here ∙ sym (fits.value v within here))
        by_test false e = never (slice_index_or c.kept.values v false) (s.value v)
