-- What claims, results and stale tickets leave of the tables.
use Rattle.std.proofs.Common.{◌≡◌, ℕ, zero, suc, ◌<◌, ◌≤◌, ⊎_elim, Bool, true, List, [], ◌∷◌, ◌++◌, refl, sym, ap, ◌∙◌, subst, length, get_or, drop, map, set, arith, Option, Some, None, option_map, slice_index, false}
use Rattle.std.proofs.lemmas.Bool.{cases_eq, cases_lt}
use Rattle.std.proofs.lemmas.List.{get_or-set_same, get_or-set_other, length-map, length-set, map-append, map-set}
use Rattle.std.proofs.lemmas.List.Elements.{All-append, All-cons, All-nil}
use Rattle.std.proofs.lemmas.Option.{none-some, same_Some}
use Rattle.std.proofs.Math.ListN.{get_or-append}
use Rattle.graph_model.specs.Problems.{Decoding}
use Rattle.window_model.specs.Parts.{part_of}
use Rattle.window_model.specs.declared.Origin.{Origin}
use Rattle.window_model.specs.Speculation.{Link, Event, Phase, Waiting, Running, Held, Done, Claimed, Returned, Stale, Machine, MayClaim, MayReturn, MayBeStale}
use Rattle.window_model.specs.Windows.{window_at, window_count}
use Rattle.window_model.proofs.Tickets.{covered_law}
use Rattle.cascade_laws.specs.Mirror.{MayTake}
use Rattle.cascade_laws.specs.Store.{TicketStore, IsStoreOf, with_claim, with_result, result_at}
use Rattle.cascade_laws.proofs.Storing.{stored_claim_law, stored_result_law, stored_stale_law}
use Rattle.cascade_laws.proofs.Laws.{claimed_law, returned_law}
use Rattle.poison_cascade.specs.Books.{Live, TicketBook, entry_at, taken, stood}
use Rattle.poison_cascade.specs.Running.{running_of as runs_in}
use Rattle.window_phases.proofs.Tables.{claimed_table_law, held_table_law, left_table_law}
use Rattle.core_journal.specs.declared.event.Event.{Event as Entry}
use Rattle.core_journal.specs.declared.event.Event.TheVariants as entry
use Rattle.core_journal.specs.EntryLaws.{IsOneMore}
use Rattle.core_journal.proofs.Events.{claimed_law as claimed_entry, held_law as held_entry}
use Rattle.core_store.specs.Tickets.{ClaimBits, answer_at, links_in, links_with, set_of, store_of, with_answer, with_claim as more_claims, with_closed as more_closed}
use Rattle.core_state.specs.States.{CoreTable, HasHappened, Parts, AreParts, AreAnswered, HasBits, kept_of, history_in, machine_in, running_of}
use Rattle.trace_laws.specs.Told.{running, running_now}
use Rattle.core_state.proofs.Follows.{Goes, IsToldAt, follows, happen_all_more, laws, longer, with_entry}
use Rattle.core_state.proofs.Counted.{tickets_few}
use Rattle.core_state.proofs.Told.{runs_at}
use Rattle.core_state.proofs.Events.{left_release, plain_more}

-- the origins of a claim's links, of which there is one for each dependency
origins_with : (deps : List ℕ) (origins : List Origin) (bits : List (List Bool)) →
    map (λ (link : Link). link.source) (links_with deps origins bits) ≡ deps →
    length origins ≡ length deps →
    map (λ (link : Link). link.origin) (links_with deps origins bits) ≡ origins
origins_with [] [] bits e l = refl
origins_with [] (o ∷ origins) bits e l = absurd (omega (arith, l))
origins_with (x ∷ deps) [] bits e l = absurd (omega (arith, l))
origins_with (x ∷ deps) (o ∷ origins) [] e l =
    absurd (let none : 0 ≡ length (x ∷ deps) = ap length e in omega (arith, none))
origins_with (x ∷ deps) (o ∷ origins) (b ∷ bits) e l =
    ap (λ os. o ∷ os) (origins_with deps origins bits (ap (drop 1) e) (omega (arith, l)))

same_running : (phase : Phase) → running phase ≡ running_of phase
same_running Waiting = refl
same_running (Running k) = refl
same_running (Held k) = refl
same_running (Done k) = refl

module _ (p : Parts) (h : AreParts p) where
  abbrev store : TicketStore
  store = store_of p.task.plan p.tickets

  -- a ticket that was taken has a place
  pub has_place : (k : ℕ) → k < (machine_in p).tickets → k < length p.tickets.answers
  has_place k l = let few = tickets_few p.task p.retries (history_in p) (laws p h) h.history in
      let room = h.each_answer in omega (arith, l, few, room)

  -- a ticket with an answer was taken
  answer_taken : (k : ℕ) (d : Decoding) → answer_at p.tickets k ≡ Some d →
      k < (machine_in p).tickets
  answer_taken k d e =
      ⊎_elim (λ (l : k < (machine_in p).tickets). l)
      (λ (out : (machine_in p).tickets ≤ k).
      absurd (none-some d.set (sym (h.tickets.no_result k out) ∙ result_read)))
      (cases_lt k (machine_in p).tickets)
    where
      result_read : result_at store k ≡ Some d.set
      result_read = by_map p.tickets.answers k ∙ ap set_of e
        where
          by_map : (answers : List (Option Decoding)) (j : ℕ) → get_or (map set_of answers) j None
              ≡ set_of (get_or answers j None)
          by_map [] j = refl
          by_map (a ∷ answers) zero = refl
          by_map (a ∷ answers) (suc j) = by_map answers j

  -- ---- a claim

  module _ (claim : ClaimBits) (k : ℕ) (may : MayClaim p.task p.retries (machine_in p) k
      claim.window (links_in p.task.plan claim)) where
    abbrev links : List Link
    links = links_in p.task.plan claim

    abbrev claimed : Event
    claimed = Claimed k claim.window links

    windows_more : map (λ (c : ClaimBits). c.window) (p.tickets.claims ++ claim ∷ [])
        ≡ store.windows ++ claim.window ∷ []
    windows_more = map-append (λ (c : ClaimBits). c.window) p.tickets.claims (claim ∷ [])

    links_more : map (links_in p.task.plan) (p.tickets.claims ++ claim ∷ []) ≡ store.links
        ++ links ∷ []
    links_more = map-append (links_in p.task.plan) p.tickets.claims (claim ∷ [])

    store_more : store_of p.task.plan (more_claims p.tickets claim)
        ≡ with_claim store claim.window links
    store_more = λ i. record {
      windows = windows_more i;
      links = links_more i;
      results = store.results;
      closed = store.closed;
    }

    stored : (k ≡ length store.links)
        × IsStoreOf p.task (history_in p ++ claimed ∷ []) (with_claim store claim.window links)
    stored = stored_claim_law p.task p.retries (history_in p) store k claim.window links h.tickets
        may

    one : IsOneMore p.task p.arrived (kept_of p) (record (kept_of p)
        { links = map (links_in p.task.plan) (p.tickets.claims ++ claim ∷ []) }) p.journal.entries
        (entry.Claimed k claim.window) claimed
    one =
        subst (λ ls. IsOneMore p.task p.arrived (kept_of p) (record (kept_of p) { links = ls })
        p.journal.entries (entry.Claimed k claim.window) claimed) (sym links_more)
        (subst (λ j. IsOneMore p.task p.arrived
        (kept_of p) (record (kept_of p) { links = store.links ++ links ∷ [] }) p.journal.entries
        (entry.Claimed j claim.window) (Claimed j claim.window links)) (sym stored.0)
        (claimed_entry p.task p.arrived (kept_of p) p.journal.entries claim.window links h.there))

    answered : AreAnswered p.task (more_claims p.tickets claim)
    answered = record {
      part = λ j d e.
          let l = answer_taken j d e in
          h.answered.part j d e
          ∙ ap (part_of p.task.graph p.task.plan)
          (sym (ap (λ ws. slice_index ws j) windows_more ∙ get_or-append store.windows (claim.window
          ∷ []) 0 j (let long = h.tickets.each_window in omega (arith, l, long))));
    }

    abbrev origins : List Origin
    origins = map (λ (link : Link). link.origin) links

    pub origins_are : length claim.origins ≡ length (window_at p.task.plan claim.window).deps →
        origins ≡ claim.origins
    origins_are l = origins_with (window_at p.task.plan claim.window).deps claim.origins claim.bits
        may.sources l

    -- the book takes a ticket for it
    pub may_take : MayTake p.phases.book claim.window origins
    may_take = (claimed_law p.task p.retries (history_in p) p.phases.book k claim.window links
        (laws p h) h.history h.phases.book may).0

    -- there is room for one ticket more
    pub claim_room : length p.tickets.claims < length p.tickets.answers
    claim_room =
        let few = tickets_few p.task p.retries (history_in p ++ claimed ∷ []) (laws p h)
        (longer p h claimed may) in
        let more =
        ap (λ (m : Machine). m.tickets) (happen_all_more p.task (history_in p) claimed) in
        let long = h.tickets.each_window in
        let same = length-map p.tickets.claims (λ (c : ClaimBits). c.window) in
        let room = h.each_answer in
        omega (arith, few, more, long, same, room)

    pub claimed_goes : HasBits p.task claim → Goes p (record p {
      tickets = more_claims p.tickets claim;
      phases = record p.phases { book = taken p.phases.book claim.window origins };
      journal = with_entry p.journal (entry.Claimed k claim.window);
    })
        (entry.Claimed k claim.window) claimed
    claimed_goes full =
        follows p h claimed may p.arrived p.values p.raws (more_claims p.tickets
        claim) (record p.phases { book = taken p.phases.book claim.window origins }) p.releases
        (entry.Claimed k claim.window)
        one (λ k current e. absurd (cc))
        (claimed_table_law p.task p.retries (history_in p) p.phases k claim.window links
        (laws p h) h.history h.phases may)
        (subst (IsStoreOf p.task (history_in p ++ claimed ∷ [])) (sym store_more) stored.1)
        (left_release p h claimed may tt) h.arrived refl refl refl refl h.each_closed answered
        (All-append (HasBits p.task) p.tickets.claims (claim ∷ []) h.each_bits
        (All-cons (HasBits p.task) claim [] full (All-nil (HasBits p.task))))

  -- the next ticket, by the book
  pub claim_goes : (claim : ClaimBits) → MayClaim p.task p.retries (machine_in p)
      (machine_in p).tickets claim.window (links_in p.task.plan claim) → length claim.origins
      ≡ length (window_at p.task.plan claim.window).deps → HasBits p.task claim →
      (k : ℕ) → k ≡ p.phases.book.tickets →
      Goes p (record p {
        tickets = more_claims p.tickets claim;
        phases = record p.phases { book = taken p.phases.book claim.window claim.origins };
        journal = with_entry p.journal (entry.Claimed k claim.window);
      })
      (entry.Claimed k claim.window) (Claimed k claim.window (links_in p.task.plan claim))
  claim_goes claim may each full k number =
      let may_k : MayClaim p.task p.retries (machine_in p) k claim.window
      (links_in p.task.plan claim) =
      subst (λ j. MayClaim p.task p.retries (machine_in p) j claim.window
      (links_in p.task.plan claim)) (sym (number ∙ h.phases.book.numbered)) may in
      subst
      (λ os.
      Goes p (record p {
        tickets = more_claims p.tickets claim;
        phases = record p.phases { book = taken p.phases.book claim.window os };
        journal = with_entry p.journal (entry.Claimed k claim.window);
      })
      (entry.Claimed k claim.window) (Claimed k claim.window (links_in p.task.plan claim)))
      (origins_are claim k may_k each) (claimed_goes claim k may_k full)

  pub claim_taken : (claim : ClaimBits) → MayClaim p.task p.retries (machine_in p)
      (machine_in p).tickets claim.window (links_in p.task.plan claim) → length claim.origins
      ≡ length (window_at p.task.plan claim.window).deps →
      MayTake p.phases.book claim.window claim.origins
  claim_taken claim may each = subst (MayTake p.phases.book claim.window) (origins_are claim
      (machine_in p).tickets may each) (may_take claim (machine_in p).tickets may)

  -- ---- a result

  module _
      (k : ℕ) (d : Decoding) (may : MayReturn p.task (machine_in p) k d.set) (fits : d.problem.part
      ≡ part_of p.task.graph p.task.plan ((machine_in p).claim k).window) where
    abbrev returned : Event
    returned = Returned k d.set

    results_more : map set_of (set p.tickets.answers k (Some d)) ≡ set store.results k (Some d.set)
    results_more = map-set set_of p.tickets.answers k (Some d)

    store_held : store_of p.task.plan (with_answer p.tickets k d) ≡ with_result store k d.set
    store_held = λ i. record {
      windows = store.windows;
      links = store.links;
      results = results_more i;
      closed = set store.closed k true;
    }

    in_results : k < length store.results
    in_results = let l = has_place k may.taken in let same = length-map p.tickets.answers set_of in
        omega (arith, l, same)

    in_closed : k < length store.closed
    in_closed = let l = has_place k may.taken in let same = h.each_closed in omega (arith, l, same)

    held : (result_at store k ≡ None)
        × IsStoreOf p.task (history_in p ++ returned ∷ []) (with_result store k d.set)
    held = stored_result_law p.task p.retries (history_in p) store k d.set (laws p h) h.history
        h.tickets may in_results in_closed

    one_held : IsOneMore p.task p.arrived (kept_of p) (record (kept_of p) {
      results = map set_of
          (set p.tickets.answers k (Some d));
    }) p.journal.entries (entry.Held k) returned
    one_held =
        subst (λ rs. IsOneMore p.task p.arrived (kept_of p) (record (kept_of p) { results = rs })
        p.journal.entries (entry.Held k) returned) (sym results_more)
        (held_entry p.task p.arrived (kept_of p) p.journal.entries k d.set h.there in_results
        held.0)

    answered_held : AreAnswered p.task (with_answer p.tickets k d)
    answered_held =
        record { part = λ j e same. ⊎_elim (at_ticket j e same) (others j e same) (cases_eq j k) }
      where
        window_is : slice_index store.windows k ≡ ((machine_in p).claim k).window
        window_is = h.tickets.window k may.taken

        at_ticket : (j : ℕ) (e : Decoding) → answer_at (with_answer p.tickets k d) j ≡ Some e →
            j ≡ k → e.problem.part ≡ part_of p.task.graph p.task.plan (slice_index store.windows j)
        at_ticket j e same here =
            let read : answer_at (with_answer p.tickets k d) k ≡ Some d =
            get_or-set_same p.tickets.answers k (Some d) None (has_place k may.taken) in
            let is : e ≡ d =
            same_Some e d (sym same ∙ ap (answer_at (with_answer p.tickets k d)) here ∙ read) in
            ap (λ (x : Decoding). x.problem.part) is ∙ fits ∙ ap (part_of p.task.graph p.task.plan)
            (sym window_is ∙ ap (λ i. slice_index store.windows i) (sym here))

        others : (j : ℕ) (e : Decoding) →
            answer_at (with_answer p.tickets k d) j ≡ Some e → (j ≡ k → ⊥) →
            e.problem.part ≡ part_of p.task.graph p.task.plan (slice_index store.windows j)
        others j e same ne = h.answered.part j e
            (sym (get_or-set_other p.tickets.answers k j (Some d) None ne) ∙ same)

    pub held_goes : Goes p (record p {
      tickets = with_answer p.tickets k d;
      phases = record p.phases { book = stood p.phases.book ((machine_in p).claim k).window };
      journal = with_entry p.journal (entry.Held k);
    }) (entry.Held k) returned
    held_goes =
        follows p h returned may p.arrived p.values p.raws (with_answer p.tickets
        k d) (record p.phases { book = stood p.phases.book ((machine_in p).claim k).window })
        p.releases (entry.Held k)
        one_held (λ k current e. absurd (cc))
        (held_table_law p.task p.retries (history_in p) p.phases k d.set (laws p h)
        h.history h.phases may)
        (subst (IsStoreOf p.task (history_in p ++ returned ∷ [])) (sym store_held) held.1)
        (left_release p h returned may tt) h.arrived refl refl refl
        (length-set p.tickets.answers k (Some d))
        (length-set p.tickets.closed k true ∙ h.each_closed
        ∙ sym (length-set p.tickets.answers k (Some d))) answered_held h.each_bits

    -- its window runs
    pub holds : (((machine_in p).claim k).window < length p.phases.book.windows)
        × (option_map (λ (live : Live). live.stands)
        (entry_at p.phases.book ((machine_in p).claim k).window).live ≡ Some false)
    holds = let r = returned_law p.task p.retries (history_in p) p.phases.book k d.set (laws p h)
        h.history h.phases.book may in (r.0, r.1)

  -- the window of a ticket
  pub window_of : (k w : ℕ) → k < (machine_in p).tickets → w ≡ slice_index store.windows k →
      w ≡ ((machine_in p).claim k).window
  window_of k w l e = e ∙ h.tickets.window k l

  pub taken_claims : (k : ℕ) → k < (machine_in p).tickets → k < length p.tickets.claims
  taken_claims k l = let long = h.tickets.each_window in let same =
      length-map p.tickets.claims (λ (c : ClaimBits). c.window) in omega (arith, l, long, same)

  -- it is one of the plan's
  pub in_plan : (k : ℕ) → k < (machine_in p).tickets →
      ((machine_in p).claim k).window < window_count p.task.plan
  in_plan k l = (covered_law p.task p.retries (history_in p) k (laws p h) h.history l).in_range

  -- ---- a stale ticket

  -- the ticket that its window runs
  pub runs_found : (k w : ℕ) (book : TicketBook) (current : Option ℕ) → k < (machine_in p).tickets →
      w ≡ slice_index store.windows k → book ≡ p.phases.book →
      current ≡ runs_in (entry_at book w).live →
      current ≡ running_of ((machine_in p).phase ((machine_in p).claim k).window)
  runs_found k w book current l is same e =
      e ∙ ap (λ (b : TicketBook). runs_in (entry_at b w).live) same
      ∙ ap (λ x. runs_in (entry_at p.phases.book x).live) (window_of k w l is)
      ∙ runs_at p h ((machine_in p).claim k).window (in_plan k l)

  module _ (k : ℕ) (current : Option ℕ) (may : MayBeStale (machine_in p) k)
      (is_current : current ≡ running_of ((machine_in p).phase ((machine_in p).claim k).window))
    where
      abbrev stale : Event
      stale = Stale k

      pub stale_goes : Goes p (record p {
        tickets = more_closed p.tickets k;
        journal = with_entry p.journal (entry.Stale k current);
      }) (entry.Stale k current) stale
      stale_goes =
          follows p h stale may p.arrived p.values p.raws (more_closed p.tickets k) p.phases
          p.releases (entry.Stale k current)
          (plain_more p h (entry.Stale k current) tt) told
          (left_table_law p.task p.retries (history_in p)
          p.phases stale h.phases may tt)
          (stored_stale_law p.task p.retries (history_in p) store k h.tickets may (let l =
          has_place k may.taken in let same = h.each_closed in omega (arith, l, same)))
          (left_release p h stale may tt) h.arrived refl refl refl refl
          (length-set p.tickets.closed k true ∙ h.each_closed) (record { part = h.answered.part })
          h.each_bits
        where
          told : IsToldAt (machine_in p) (entry.Stale k current)
          told j other e =
              let number : j ≡ k = cc in
              let same : other ≡ current = cc in
              ap (running_now (machine_in p)) number
              ∙ same_running ((machine_in p).phase ((machine_in p).claim k).window)
              ∙ sym is_current ∙ sym same

-- a claim, to what is seen
pub from_claim : (seen old new : CoreTable) (entry_ : Entry) (k : ℕ) (claim : ClaimBits) →
    seen ≡ old →
    HasHappened seen entry_ (Claimed k claim.window (links_in seen.task.plan claim)) new →
    HasHappened old entry_ (Claimed k claim.window (links_in old.task.plan claim)) new
from_claim seen old new entry_ k claim e happened =
    subst (λ (t : CoreTable). HasHappened t entry_
    (Claimed k claim.window (links_in t.task.plan claim)) new) e happened
