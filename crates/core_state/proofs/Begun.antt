-- The tables before anything has happened.
use Rattle.std.proofs.Common.{◌≡◌, ℕ, zero, suc, ◌+◌, ◌≤◌, ◌<◌, Bool, false, List, [], ◌∷◌, ◌++◌, ⊎_elim, zero-add, refl, sym, ap, ◌∙◌, subst, length, map, replicate, get_or, arith, Option, Some, None}
use Rattle.std.specs.List.{range_with_len}
use Rattle.std.proofs.lemmas.List.{length-map, length-replicate, map-append}
use Rattle.std.proofs.lemmas.List.FromFn.{get_or-map-range_with_len, length-map-range_with_len, map-range_with_len_more}
use Rattle.std.proofs.lemmas.Option.{none-some}
use Rattle.std.proofs.lemmas.Bool.{cases_lt, lt-ltb}
use Rattle.std.proofs.lemmas.List.Kept.{AllPairs-from_increasing, IsStrictlyIncreasing-filter}
use Rattle.std.specs.List.Sorted.{IsStrictlyIncreasing}
use Rattle.graph_model.specs.Graph.{is_in}
use Rattle.graph_model.proofs.Incidence.{increasing_range}
use Rattle.graph_model.proofs.Members.{all_within}
use Rattle.window_model.specs.Gates.{most_windows, plan_fault, TooManyWindows}
use Rattle.poison_cascade.specs.Books.{AreLower, AreWindows, opened}
use Rattle.window_phases.proofs.Tables.{all_wait_law}
use Rattle.graph_model.specs.Problems.{Decoding}
use Rattle.window_model.specs.Decoder.{Task}
use Rattle.window_model.specs.Windows.{WindowPlan, all_below, window_at, window_count}
use Rattle.window_setting.specs.Settings.{IsSetting}
use Rattle.window_setting.proofs.Lawful.{laws_of}
use Rattle.cascade_laws.specs.Store.{IsStoreOf}
use Rattle.cascade_laws.proofs.Storing.{no_tickets_law}
use Rattle.window_phases.specs.Phases.{PhaseTable, IsTableOf}
use Rattle.release_laws.specs.Tables.{ReleaseTable, IsReleaseTableOf}
use Rattle.core_journal.specs.declared.event.Event.{Event as Entry}
use Rattle.core_journal.specs.declared.event.Event.TheVariants as entry
use Rattle.core_journal.specs.Entries.{Entries}
use Rattle.window_model.specs.SpeculationLaws.{most_events}
use Rattle.core_store.specs.Tickets.{TicketTable, no_claims, set_of}
use Rattle.core_state.specs.States.{AreParts, most_tickets}

no_sets : (room : ℕ) → map set_of (replicate room None) ≡ replicate room None
no_sets zero = refl
no_sets (suc room) = ap (λ xs. None ∷ xs) (no_sets room)

no_answer : (room k : ℕ) (d : Decoding) → get_or (replicate room None) k None ≡ Some d → ⊥
no_answer zero k d e = none-some d e
no_answer (suc room) zero d e = none-some d e
no_answer (suc room) (suc k) d e = no_answer room k d e

no_entry : (before after : List Entry) (e : Entry) → [] ≡ before ++ e ∷ after → ⊥
no_entry [] after e is = cc
no_entry (b ∷ before) after e is = cc

module _ (task : Task) (setting : IsSetting task) (retries : ℕ) (bounded : retries ≤ 8)
    (phases : PhaseTable) (table : IsTableOf task retries [] phases)
    (releases : ReleaseTable) (release : IsReleaseTableOf task [] releases)
    (each_flip : length releases.frame ≡ length task.raw_slots) where
  pub begun : AreParts (record {
    task = task;
    retries = retries;
    arrived = 0;
    values = replicate task.graph.vertices false;
    raws = replicate (length task.raw_slots) false;
    tickets = no_claims (most_tickets task retries);
    phases = phases;
    releases = releases;
    journal = record { entries = []; room = most_events task retries };
  })
  begun = record {
    setting = setting;
    bounded = bounded;
    history = tt;
    phases = table;
    tickets = subst (λ rs. IsStoreOf task [] (record {
      windows = [];
      links = [];
      results = rs;
      closed = replicate (most_tickets task retries) false;
    })) (sym
        (no_sets (most_tickets task retries))) (no_tickets_law task (most_tickets task retries));
    releases = release;
    arrived = refl;
    there = λ k d l. absurd (omega (arith, l));
    told = record {
      told = λ before after k current e. absurd (no_entry before after (entry.Stale k current) e);
    };
    each_value = length-replicate {A = Bool} task.graph.vertices false;
    each_raw = length-replicate {A = Bool} (length task.raw_slots) false;
    each_flip = each_flip;
    each_answer = length-replicate {A = Option Decoding} (most_tickets task retries) None;
    each_closed = length-replicate {A = Bool} (most_tickets task retries) false
        ∙ sym (length-replicate {A = Option Decoding} (most_tickets task retries) None);
    answered = record { part = λ k d e. absurd (no_answer (most_tickets task retries) k d e) };
    each_bits = λ k d l. absurd (omega (arith, l));
    room = refl;
  }

  -- by what the parts are made of
  pub begun_with : (t : Task) → t ≡ task → (values raws : List Bool) →
      values ≡ replicate task.graph.vertices false →
      raws ≡ replicate (length task.raw_slots) false → (tickets : TicketTable) →
      tickets ≡ no_claims (most_tickets task retries) → (journal : Entries) →
      journal ≡ record { entries = []; room = most_events task retries } →
      AreParts (record {
        task = t;
        retries = retries;
        arrived = 0;
        values = values;
        raws = raws;
        tickets = tickets;
        phases = phases;
        releases = releases;
        journal = journal;
      })
  begun_with t is values raws values_are raws_are tickets tickets_are journal journal_is =
      rw (is, values_are, raws_are, tickets_are, journal_is) begun

-- ---- dependencies

few_windows : (plan : WindowPlan) → plan_fault plan ≡ None → window_count plan ≤ most_windows
few_windows plan within =
    ⊎_elim (λ many. let k = rw (lt-ltb most_windows (window_count plan) many) at within in
    absurd (none-some (TooManyWindows (window_count plan)) (sym k))) (λ few. few)
    (cases_lt most_windows (window_count plan))

pub windows_few : (task : Task) → IsSetting task → window_count task.plan ≤ most_windows
windows_few task setting = subst (λ plan. window_count plan ≤ most_windows) (sym setting.plan_is)
    (few_windows setting.placed.plan setting.fit.is_plan.is_placed.within)

abbrev pub deps_at : Task → ℕ → List ℕ
deps_at task w = (window_at task.plan w).deps

-- one list more
pub lists_more : {V : Type 0} (items : V → List ℕ) (f : ℕ → List ℕ) (lists new : List V) (v : V)
    (n : ℕ) → map items lists ≡ map f (range_with_len 0 n) → items v ≡ f n → new ≡ lists ++ v ∷ [] →
    map items new ≡ map f (range_with_len 0 (n + 1))
lists_more items f lists new v n before is more =
    ap (map items) more ∙ map-append items lists (v ∷ []) ∙ ap (λ xs. xs ++ items v ∷ []) before
    ∙ ap (λ x. map f (range_with_len 0 n) ++ x ∷ []) is
    ∙ sym (map-range_with_len_more f 0 n n (zero-add n))

-- the dependencies rise, and are lower
pub are_windows : (task : Task) → IsSetting task → (retries : ℕ) → retries ≤ 8 →
    (lists : List (List ℕ)) →
    lists ≡ map (deps_at task) (range_with_len 0 (window_count task.plan)) →
    AreWindows lists retries
are_windows task setting retries bounded lists e = record {
  few = let w = windows_few task setting in omega (arith, w, many);
  bounded = bounded;
  lower = λ w l. subst (AreLower w) (sym (at_window w (omega (arith, l, many)))) (at_deps w);
}
  where
    many : length lists ≡ window_count task.plan
    many = ap length e ∙ length-map-range_with_len (deps_at task) 0 (window_count task.plan)

    at_window : (w : ℕ) → w < window_count task.plan → get_or lists w [] ≡ deps_at task w
    at_window w l = ap (λ ls. get_or ls w []) e
        ∙ get_or-map-range_with_len (deps_at task) 0 (window_count task.plan) w w [] l (zero-add w)

    listed : (w : ℕ) → deps_at task w ≡ all_below (window_count task.plan) (is_in (deps_at task w))
    listed w = (laws_of task setting).deps_listed w

    at_deps : (w : ℕ) → AreLower w (deps_at task w)
    at_deps w = record {
      rising =
          AllPairs-from_increasing (deps_at task w) (subst IsStrictlyIncreasing (sym (listed w))
          (IsStrictlyIncreasing-filter (is_in (deps_at task w))
          (range_with_len 0 (window_count task.plan))
          (increasing_range 0 (window_count task.plan))));
      lower = all_within (λ x. x < w) (deps_at task w) ((laws_of task setting).deps_lower w);
    }

-- all windows wait
pub waiting_is : {V : Type 0} (task : Task) (retries : ℕ) (items : V → List ℕ) (xs ys : List V) →
    xs ≡ ys → map items ys ≡ map (deps_at task) (range_with_len 0 (window_count task.plan)) →
    (phases : PhaseTable) →
    phases ≡ record {
      book = opened (map items xs) retries;
      done = replicate (length xs) false;
    } →
    IsTableOf task retries [] phases
waiting_is task retries items xs ys same e phases is =
    let lists : map items xs ≡ map (deps_at task) (range_with_len 0 (window_count task.plan)) =
    ap (map items) same ∙ e in
    subst (IsTableOf task retries []) (sym (is ∙ ap (λ n. let table : PhaseTable = record {
      book = opened (map items xs) retries;
      done = replicate n false;
    } in table) (sym (length-map xs items)))) (all_wait_law task retries (map items xs) lists)
