-- What each event does to the store of tickets.
use Rattle.std.proofs.Common.{◌≡◌, ℕ, zero, suc, ◌+◌, ◌<◌, ◌==◌, ⊎_elim, Bool, true, false, cond, List, [], ◌∷◌, ◌++◌, refl, sym, ap, ◌∙◌, subst, map, length, get_or, set, replicate, arith, Option, Some, None, is_some, slice_index}
use Rattle.std.proofs.lemmas.Bool.{cases_eq, false≢true}
use Rattle.std.proofs.lemmas.List.{get_or-set_same, get_or-set_other, length-append}
use Rattle.std.proofs.Math.ListN.{get_or-append}
use Rattle.std.proofs.Math.Seq.{get_or-append_seam}
use Rattle.graph_model.specs.Parity.{◌⊕◌, parity}
use Rattle.graph_model.specs.Problems.{Problem}
use Rattle.window_model.specs.Decoder.{Task}
use Rattle.window_model.specs.Parts.{part_of}
use Rattle.window_model.specs.Windows.{window_at, places}
use Rattle.window_model.specs.Speculation.{Link, Claim, Machine, Event, Arrived, Claimed, Returned, Stale, Verified, Poisoned, Dropped, Committed, Released, sources_of, bit_at, defect_of, with_ticket, close_with, start, happens, Compares}
use Rattle.window_model.specs.declared.Origin.TheVariants.{Ticket}
use Rattle.window_model.specs.TicketLaws.{IsSound}
use Rattle.window_model.proofs.Updates.{set_same, set_other, set_part, renamed_sources}
use Rattle.window_model.proofs.Soundness.{sound_law, verified, verified_is, verified_links}
use Rattle.window_model.proofs.Histories.{happen_all-append}
use Rattle.cascade_laws.specs.MirrorLaws.{reached}
use Rattle.cascade_laws.specs.Store.{TicketStore, Stores, IsStoreOf, bits_of, links_at, result_at, is_closed_at, with_claim, with_result, with_closed, claim_with, NoTicketsLaw, StoredClaimLaw, StoredResultLaw, StoredStaleLaw, StoredRestLaw, StoredProblemLaw}

after_event : (task : Task) (events : List Event) (event : Event) (store : TicketStore) →
    Stores (happens task (reached task events) event) store →
    IsStoreOf task (events ++ event ∷ []) store
after_event task events event store is =
    subst (λ m. Stores m store) (sym (happen_all-append task start events (event ∷ []))) is

-- two machines whose tickets are the same
module _ (m n : Machine) (store : TicketStore) (is : Stores m store) (tickets : n.tickets
    ≡ m.tickets) where
  pub same_store : ((k : ℕ) → (n.claim k).window ≡ (m.claim k).window) →
      ((k : ℕ) → sources_of (n.claim k).links ≡ sources_of (m.claim k).links) →
      ((k : ℕ) → bits_of (n.claim k).links ≡ bits_of (m.claim k).links) →
      ((k : ℕ) → (n.claim k).result ≡ (m.claim k).result) →
      ((k : ℕ) → (n.claim k).closed ≡ (m.claim k).closed) → Stores n store
  same_store windows sources bits results closes = record {
    each_window = is.each_window ∙ sym tickets;
    each_links = is.each_links ∙ sym tickets;
    window = λ k l. is.window k (omega (arith, l, tickets)) ∙ sym (windows k);
    sources = λ k l. is.sources k (omega (arith, l, tickets)) ∙ sym (sources k);
    bits = λ k l. is.bits k (omega (arith, l, tickets)) ∙ sym (bits k);
    result = λ k l. is.result k (omega (arith, l, tickets)) ∙ sym (results k);
    closed = λ k l. is.closed k (omega (arith, l, tickets)) ∙ sym (closes k);
    no_result = λ k l. is.no_result k (omega (arith, l, tickets));
    not_closed = λ k l. is.not_closed k (omega (arith, l, tickets));
  }

all_same : {X : Type 0} (room : ℕ) (x : X) (k : ℕ) → get_or (replicate room x) k x ≡ x
all_same zero x k = refl
all_same (suc room) x zero = refl
all_same (suc room) x (suc k) = all_same room x k

pub no_tickets_law : NoTicketsLaw
no_tickets_law task room = record {
  each_window = refl;
  each_links = refl;
  window = λ k l. absurd (omega (arith, l));
  sources = λ k l. absurd (omega (arith, l));
  bits = λ k l. absurd (omega (arith, l));
  result = λ k l. absurd (omega (arith, l));
  closed = λ k l. absurd (omega (arith, l));
  no_result = λ k l. all_same room None k;
  not_closed = λ k l. all_same room false k;
}

-- ---- a claim

pub stored_claim_law : StoredClaimLaw
stored_claim_law task retries events store k w links is may = (
  may.number ∙ sym is.each_links,
  after_event task events (Claimed k w links) (with_claim store w links) after,
)
  where
    m : Machine
    m = reached task events

    n : Machine
    n = happens task m (Claimed k w links)

    new : Claim
    new = record { window = w; links = links; result = None; closed = false }

    at_k : (j : ℕ) → j ≡ k → n.claim j ≡ new
    at_k j e = ap n.claim e ∙ set_same m.claim k new

    old_at : (j : ℕ) → (j ≡ k → ⊥) → n.claim j ≡ m.claim j
    old_at j ne = set_other m.claim k new j ne

    window_here : (j : ℕ) → j ≡ k → slice_index (store.windows ++ w ∷ []) j ≡ w
    window_here j e = ap (λ i. slice_index (store.windows ++ w ∷ []) i) (e ∙ may.number
        ∙ sym is.each_window) ∙ get_or-append_seam store.windows w [] 0

    links_here : (j : ℕ) → j ≡ k → links_at (with_claim store w links) j ≡ links
    links_here j e = ap (λ i. get_or (store.links ++ links ∷ []) i []) (e ∙ may.number
        ∙ sym is.each_links) ∙ get_or-append_seam store.links links [] []

    lower : (j : ℕ) → j < m.tickets + 1 → (j ≡ k → ⊥) → j < m.tickets
    lower j l ne = let number = may.number in omega (arith, l, ne, number)

    links_there : (j : ℕ) → j < m.tickets → links_at (with_claim store w links) j ≡ links_at store j
    links_there j l = get_or-append store.links (links ∷ []) [] j (let long = is.each_links in
        omega (arith, l, long))

    after : Stores n (with_claim store w links)
    after = record {
      each_window = length-append store.windows (w ∷ []) ∙ ap (λ c. c + 1) is.each_window;
      each_links = length-append store.links (links ∷ []) ∙ ap (λ c. c + 1) is.each_links;
      window = λ j l. ⊎_elim (λ e. window_here j e ∙ ap (λ (c : Claim). c.window) (sym (at_k j e)))
          (λ ne. get_or-append store.windows (w ∷ []) 0 j (let low = lower j l ne in
          let long = is.each_window in omega (arith, low, long)) ∙ is.window j (lower j l ne)
          ∙ ap (λ (c : Claim). c.window) (sym (old_at j ne))) (cases_eq j k);
      sources = λ j l. ⊎_elim (λ e. ap sources_of (links_here j e)
          ∙ ap (λ (c : Claim). sources_of c.links) (sym (at_k j e)))
          (λ ne. ap sources_of (links_there j (lower j l ne)) ∙ is.sources j (lower j l ne)
          ∙ ap (λ (c : Claim). sources_of c.links) (sym (old_at j ne))) (cases_eq j k);
      bits = λ j l. ⊎_elim (λ e. ap bits_of (links_here j e)
          ∙ ap (λ (c : Claim). bits_of c.links) (sym (at_k j e)))
          (λ ne. ap bits_of (links_there j (lower j l ne)) ∙ is.bits j (lower j l ne)
          ∙ ap (λ (c : Claim). bits_of c.links) (sym (old_at j ne))) (cases_eq j k);
      result = λ j l. ⊎_elim (λ e. is.no_result j (let number = may.number in
          omega (arith, e, number)) ∙ ap (λ (c : Claim). c.result) (sym (at_k j e)))
          (λ ne. is.result j (lower j l ne) ∙ ap (λ (c : Claim). c.result) (sym (old_at j ne)))
          (cases_eq j k);
      closed = λ j l. ⊎_elim (λ e. is.not_closed j (let number = may.number in
          omega (arith, e, number)) ∙ ap (λ (c : Claim). c.closed) (sym (at_k j e)))
          (λ ne. is.closed j (lower j l ne) ∙ ap (λ (c : Claim). c.closed) (sym (old_at j ne)))
          (cases_eq j k);
      no_result = λ j l. is.no_result j (omega (arith, l));
      not_closed = λ j l. is.not_closed j (omega (arith, l));
    }

-- ---- a ticket is closed

-- with this result, of a machine or of the store
module _ (m n : Machine) (store later : TicketStore) (k : ℕ) (result : Option (List ℕ))
    (is : Stores m store) (taken : k < m.tickets) (claims : (j : ℕ) →
    n.claim j ≡ close_with m k result j) (tickets : n.tickets ≡ m.tickets) where
  at_closed : (j : ℕ) → j ≡ k → n.claim j ≡ record (m.claim k) { result = result; closed = true }
  at_closed j e = claims j ∙ ap (close_with m k result) e
      ∙ set_same m.claim k (record (m.claim k) { result = result; closed = true })

  at_other : (j : ℕ) → (j ≡ k → ⊥) → n.claim j ≡ m.claim j
  at_other j ne = claims j
      ∙ set_other m.claim k (record (m.claim k) { result = result; closed = true }) j ne

  pub closed_store : later.windows ≡ store.windows → later.links ≡ store.links → result_at later k
      ≡ result → ((j : ℕ) → (j ≡ k → ⊥) → result_at later j ≡ result_at store j) →
      is_closed_at later k ≡ true →
      ((j : ℕ) → (j ≡ k → ⊥) → is_closed_at later j ≡ is_closed_at store j) → Stores n later
  closed_store windows links here others closes stays = record {
    each_window = ap length windows ∙ is.each_window ∙ sym tickets;
    each_links = ap length links ∙ is.each_links ∙ sym tickets;
    window = λ j l. ap (λ ws. slice_index ws j) windows ∙ is.window j (low j l)
        ∙ sym (part (λ c. c.window) refl j);
    sources = λ j l. ap (λ ls. sources_of (get_or ls j [])) links ∙ is.sources j (low j l)
        ∙ sym (part (λ c. sources_of c.links) refl j);
    bits = λ j l. ap (λ ls. bits_of (get_or ls j [])) links ∙ is.bits j (low j l)
        ∙ sym (part (λ c. bits_of c.links) refl j);
    result = λ j l. ⊎_elim (λ e. ap (result_at later) e ∙ here ∙ ap (λ (c : Claim).
        c.result) (sym (at_closed j e))) (λ ne. others j ne ∙ is.result j (low j l)
        ∙ ap (λ (c : Claim). c.result) (sym (at_other j ne))) (cases_eq j k);
    closed = λ j l. ⊎_elim (λ e. ap (is_closed_at later) e ∙ closes ∙ ap (λ (c : Claim).
        c.closed) (sym (at_closed j e))) (λ ne. stays j ne ∙ is.closed j (low j l)
        ∙ ap (λ (c : Claim). c.closed) (sym (at_other j ne))) (cases_eq j k);
    no_result = λ j l. others j (λ e. omega (arith, e, l, tickets, taken))
        ∙ is.no_result j (omega (arith, l, tickets));
    not_closed = λ j l. stays j (λ e. omega (arith, e, l, tickets, taken))
        ∙ is.not_closed j (omega (arith, l, tickets));
  }
    where
      low : (j : ℕ) → j < n.tickets → j < m.tickets
      low j l = omega (arith, l, tickets)

      part : {Y : Type 0} (f : Claim → Y) →
          f (record (m.claim k) { result = result; closed = true }) ≡ f (m.claim k) → (j : ℕ) →
          f (n.claim j) ≡ f (m.claim j)
      part f same j = ⊎_elim (λ e. ap f (at_closed j e) ∙ same ∙ ap (λ i. f (m.claim i)) (sym e))
          (λ ne. ap f (at_other j ne)) (cases_eq j k)

pub stored_result_law : StoredResultLaw
stored_result_law task retries events store k set_ laws h is may one two = (
  is.result k may.taken ∙ none,
  after_event task events (Returned k set_) (with_result store k set_)
      (closed_store m (happens task m (Returned k set_))
      store (with_result store k set_) k (Some set_) is may.taken (λ j. refl) refl refl refl
      (get_or-set_same store.results k (Some set_) None one)
      (λ j ne. get_or-set_other store.results k j (Some set_) None ne) (get_or-set_same store.closed
      k true false two) (λ j ne. get_or-set_other store.closed k j true false ne)),
)
  where
    m : Machine
    m = reached task events

    none : (m.claim k).result ≡ None
    none = is_none (m.claim k).result ((sound_law task retries events laws h).fresh
        (m.claim k).window k may.running)
      where
        is_none : (o : Option (List ℕ)) → is_some o ≡ false → o ≡ None
        is_none None e = refl
        is_none (Some x) e = absurd (false≢true (sym e))

pub stored_stale_law : StoredStaleLaw
stored_stale_law task retries events store k is may one =
    after_event task events (Stale k) (with_closed store k)
    (closed_store m (happens task m (Stale k)) store (with_closed store k) k (m.claim k).result
    is may.taken (λ j. refl) refl refl refl (is.result k may.taken) (λ j ne. refl)
    (get_or-set_same store.closed k true false one)
    (λ j ne. get_or-set_other store.closed k j true false ne))
  where
    m : Machine
    m = reached task events

-- ---- the other events

renamed_bits : (x k : ℕ) (links : List Link) → bits_of (with_ticket x k links) ≡ bits_of links
renamed_bits x k [] = refl
renamed_bits x k (link ∷ links) = by_test (link.source == x) (renamed_bits x k links)
  where
    by_test : (b : Bool) → bits_of (with_ticket x k links) ≡ bits_of links →
        bits_of (cond b (record { source = link.source; origin = Ticket k; bits = link.bits }
        ∷ links) (link ∷ with_ticket x k links)) ≡ link.bits ∷ bits_of links
    by_test true h = refl
    by_test false h = ap (λ rest. link.bits ∷ rest) h

stored_verified : (task : Task) (m : Machine) (x w : ℕ) (bits : List Bool)
    (may : Compares task m x w bits bits) (s : IsSound task m) (store : TicketStore) →
    Stores m store → Stores (verified task m x w bits may s) store
unfolding verified
stored_verified task m x w bits may s store is =
    same_store m n store is refl (λ k. set_part (λ (c : Claim). c.window) m.claim may.own _ refl k)
    (λ k. links sources_of (renamed_sources x may.other (m.claim may.own).links) k)
    (λ k. links bits_of (renamed_bits x may.other (m.claim may.own).links) k) (λ k.
    set_part (λ (c : Claim). c.result) m.claim may.own _ refl k) (λ k.
    set_part (λ (c : Claim). c.closed) m.claim may.own _ refl k)
  where
    n : Machine
    n = verified task m x w bits may s

    links : {Y : Type 0} (f : List Link → Y) → f (with_ticket x may.other (m.claim may.own).links)
        ≡ f (m.claim may.own).links → (k : ℕ) → f (n.claim k).links ≡ f (m.claim k).links
    links f same k = ⊎_elim (λ here. ap f here.1 ∙ same ∙ ap (λ i. f (m.claim i).links)
        (sym here.0)) (λ old. ap f old) (verified_links task m x w bits may s k)

pub stored_rest_law : StoredRestLaw
stored_rest_law task retries events store (Arrived t values raws) laws h is may left =
    after_event task events (Arrived t values raws) store (same_store (reached task events) _ store
    is refl (λ k. refl) (λ k. refl) (λ k. refl) (λ k. refl) (λ k. refl))
stored_rest_law task retries events store (Claimed k w links) laws h is may left = absurd left
stored_rest_law task retries events store (Returned k set) laws h is may left = absurd left
stored_rest_law task retries events store (Stale k) laws h is may left = absurd left
stored_rest_law task retries events store (Verified x w) laws h is may left =
    after_event task events (Verified x w) store
    (subst (λ m. Stores m store) (sym (verified_is task (reached task events) x w may.0 may.1
    (sound_law task retries events laws h))) (stored_verified task (reached task events) x w
    may.0 may.1 (sound_law task retries events laws h) store is))
stored_rest_law task retries events store (Poisoned x w) laws h is may left =
    after_event task events (Poisoned x w) store (same_store (reached task events) _ store is refl
    (λ k. refl) (λ k. refl) (λ k. refl) (λ k. refl) (λ k. refl))
stored_rest_law task retries events store (Dropped w) laws h is may left =
    after_event task events (Dropped w) store (same_store (reached task events) _ store is refl
    (λ k. refl) (λ k. refl) (λ k. refl) (λ k. refl) (λ k. refl))
stored_rest_law task retries events store (Committed k w) laws h is may left =
    after_event task events (Committed k w) store (same_store (reached task events) _ store is refl
    (λ k. refl) (λ k. refl) (λ k. refl) (λ k. refl) (λ k. refl))
stored_rest_law task retries events store (Released op bit) laws h is may left =
    after_event task events (Released op bit) store (same_store (reached task events) _ store is
    refl (λ k. refl) (λ k. refl) (λ k. refl) (λ k. refl) (λ k. refl))

-- ---- problems

same_parity : (f : ℕ → List Bool → Bool) (xs ys : List Link) → sources_of xs ≡ sources_of ys →
    bits_of xs ≡ bits_of ys → parity (λ (l : Link). f l.source l.bits) xs
    ≡ parity (λ (l : Link). f l.source l.bits) ys
same_parity f [] [] one two = refl
same_parity f [] (y ∷ ys) one two = absurd (cc)
same_parity f (x ∷ xs) [] one two = absurd (cc)
same_parity f (x ∷ xs) (y ∷ ys) one two =
    let source : x.source ≡ y.source = cc in
    let sources : sources_of xs ≡ sources_of ys = cc in
    let bits : x.bits ≡ y.bits = cc in
    let rest : bits_of xs ≡ bits_of ys = cc in
    ap (λ s. f s x.bits ⊕ parity (λ (l : Link). f l.source l.bits) xs) source
    ∙ ap (λ b. f y.source b ⊕ parity (λ (l : Link). f l.source l.bits) xs) bits
    ∙ ap (λ p. f y.source y.bits ⊕ p) (same_parity f xs ys sources rest)

same_map : {X : Type 0} (f g : ℕ → X) (xs : List ℕ) → ((x : ℕ) → f x ≡ g x) → map f xs ≡ map g xs
same_map f g [] same = refl
same_map f g (x ∷ xs) same = ap (λ y. y ∷ map f xs) (same x)
    ∙ ap (λ ys. g x ∷ ys) (same_map f g xs same)

abbrev problem_over : Task → (ℕ → Bool) → ℕ → List Link → Problem
problem_over task value w links = record {
  part = part_of task.graph task.plan w;
  defects = map (defect_of task value (claim_with w links)) (window_at task.plan w).detectors;
}

pub stored_problem_law : StoredProblemLaw
stored_problem_law task events store k is taken =
    ap (λ bits. record { part = part_of task.graph task.plan (m.claim k).window; defects = bits })
    (same_map (defect_of task m.value (m.claim k)) (defect_of task m.value (claim_with
    (m.claim k).window (links_at store k))) (window_at task.plan (m.claim k).window).detectors
    (λ v. ap (λ b. m.value v ⊕ b) (same_parity (λ source bits.
    bit_at (places task.graph task.plan source (m.claim k).window) bits v) (m.claim k).links
    (links_at store k) (sym (is.sources k taken)) (sym (is.bits k taken)))))
    ∙ ap (λ w. problem_over task m.value w (links_at store k)) (sym (is.window k taken))
  where
    m : Machine
    m = reached task events
