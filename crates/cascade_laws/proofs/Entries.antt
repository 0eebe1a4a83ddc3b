-- Entries of a book that follow the windows of a machine, one by one.
use Rattle.std.proofs.Common.{◌≡◌, ℕ, ◌+◌, ◌<◌, ◌==◌, ⊎_elim, Bool, true, false, cond, List, [], ◌∷◌, ◌++◌, refl, sym, ap, ◌∙◌, subst, map, length, get_or, arith, Some, None, Any, count_by}
use Rattle.std.proofs.lemmas.Bool.{cases_eq}
use Rattle.std.proofs.lemmas.List.{get_or-set_same, get_or-set_other, get_or_default, get_or-map, length-set, length-map}
use Rattle.std.proofs.lemmas.List.Sums.{sum_by-append}
use Rattle.window_model.specs.Decoder.{Task}
use Rattle.window_model.specs.Windows.{window_at, window_count}
use Rattle.window_model.specs.declared.Origin.TheVariants.{Guess, Ticket}
use Rattle.window_model.specs.Speculation.{Link, Claim, Phase, Waiting, Running, Held, Done, Machine, Event, standing, pending, held_by, with_ticket, start, happens, happen_all}
use Rattle.window_model.specs.SpeculationLaws.{is_claim_of}
use Rattle.window_model.proofs.Histories.{happen_all-append}
use Rattle.poison_cascade.specs.declared.support.Support.{Support}
use Rattle.poison_cascade.specs.Books.{WindowEntry, TicketBook, entry_at, standing_of, supports_in, supports_of, with_entry, with_ticket as with_support}
use Rattle.cascade_laws.specs.Mirror.{Mirrors, IsBookOf, live_of, support_of}

abbrev pub tally : Bool → ℕ
tally b = cond b 1 0

-- ---- one entry is written

pub entry_here : (book : TicketBook) (w : ℕ) (e : WindowEntry) → w < length book.windows →
    entry_at (with_entry book w e) w ≡ e
entry_here book w e within = get_or-set_same book.windows w e _ within

pub entry_other : (book : TicketBook) (w : ℕ) (e : WindowEntry) (y : ℕ) → (y ≡ w → ⊥) →
    entry_at (with_entry book w e) y ≡ entry_at book y
entry_other book w e y ne = get_or-set_other book.windows w y e _ ne

-- ---- live tickets

-- two machines agree on a live ticket where its links are the same
pub live_same : (c d : ℕ → Claim) (p : Phase) →
    ((k : ℕ) → held_by p ≡ Some k → (d k).links ≡ (c k).links) → live_of d p ≡ live_of c p
live_same c d Waiting same = refl
live_same c d (Running k) same = ap (λ links.
    Some (record { ticket = k; stands = false; supports = map support_of links })) (same k refl)
live_same c d (Held k) same = ap (λ links.
    Some (record { ticket = k; stands = true; supports = map support_of links })) (same k refl)
live_same c d (Done k) same = ap (λ links.
    Some (record { ticket = k; stands = true; supports = map support_of links })) (same k refl)

pub standing_live : (c : ℕ → Claim) (p : Phase) → standing_of (live_of c p) ≡ standing p
standing_live c Waiting = refl
standing_live c (Running k) = refl
standing_live c (Held k) = refl
standing_live c (Done k) = refl

pub supports_pending : (c : ℕ → Claim) (p : Phase) (k : ℕ) → pending p ≡ Some k →
    supports_in (live_of c p) ≡ map support_of (c k).links
supports_pending c Waiting k e = cc
supports_pending c (Running j) k e = let same : j ≡ k = cc in
    ap (λ i. map support_of (c i).links) same
supports_pending c (Held j) k e = let same : j ≡ k = cc in ap (λ i. map support_of (c i).links) same
supports_pending c (Done j) k e = cc

pub no_live : (c : ℕ → Claim) (p : Phase) → ((k : ℕ) → held_by p ≡ Some k → ⊥) → live_of c p ≡ None
no_live c Waiting none = refl
no_live c (Running k) none = absurd (none k refl)
no_live c (Held k) none = absurd (none k refl)
no_live c (Done k) none = absurd (none k refl)

-- ---- what links rest on

pub supports_links : (links : List Link) → supports_of (map (λ (link : Link). link.source) links)
    (map (λ (link : Link). link.origin) links) ≡ map support_of links
supports_links [] = refl
supports_links (link ∷ links) = ap (λ rest. support_of link ∷ rest) (supports_links links)

pub named_links : (x k : ℕ) (links : List Link) → map support_of (with_ticket x k links)
    ≡ with_support x k (map support_of links)
named_links x k [] = refl
named_links x k (link ∷ links) = by_test (link.source == x) (named_links x k links)
  where
    by_test : (b : Bool) → map support_of (with_ticket x k links)
        ≡ with_support x k (map support_of links) →
        map support_of (cond b (record { source = link.source; origin = Ticket k; bits = link.bits }
        ∷ links) (link ∷ with_ticket x k links))
        ≡ cond b (record { source = link.source; origin = Ticket k } ∷ map support_of links)
        (support_of link ∷ with_support x k (map support_of links))
    by_test true rest = refl
    by_test false rest = ap (λ ys. support_of link ∷ ys) rest

abbrev no_link : Link
no_link = record { source = 0; origin = Guess; bits = [] }

pub any_link : (P : Support → Type 0) (links : List Link) → Any P (map support_of links) →
    Any (λ link. P (support_of link)) links
any_link P links a =
    let within : a.0 < length links = let long = length-map links support_of in let small = a.2 in
    omega (arith, long, small) in
    let link : Link = get_or links a.0 no_link in
    let same : a.1 ≡ support_of link = sym a.3
    ∙ get_or-map support_of links a.0 no_link a.1 within in
    (a.0, link, within, get_or_default links a.0 link no_link within, subst P same a.4)

pub any_support : (P : Support → Type 0) (links : List Link) →
    Any (λ link. P (support_of link)) links → Any P (map support_of links)
any_support P links a =
    let within : a.0 < length (map support_of links) = let long = length-map links support_of in
    let small = a.2 in omega (arith, long, small) in (
      a.0,
      support_of a.1,
      within,
      get_or-map support_of links a.0 a.1 (support_of a.1) a.2
          ∙ ap support_of a.3,
      a.4,
    )

-- ---- how often a window was claimed

pub claims_more : (w : ℕ) (events : List Event) (event : Event) → count_by (is_claim_of w) (events
    ++ event ∷ []) ≡ count_by (is_claim_of w) events + tally (is_claim_of w event)
claims_more w events event =
    let all = sum_by-append (λ (e : Event). cond (is_claim_of w e) 1 0) events (event ∷ []) in
    omega (arith, all)

-- ---- a book after one more event

pub follows : (task : Task) (retries : ℕ) (events : List Event) (event : Event)
    (book : TicketBook) →
    Mirrors task retries (happens task (happen_all task start events) event) (λ w.
    count_by (is_claim_of w) events + tally (is_claim_of w event)) book →
    IsBookOf task retries (events ++ event ∷ []) book
follows task retries events event book is =
    subst (λ m. Mirrors task retries m (λ w. count_by (is_claim_of w) (events ++ event ∷ [])) book)
    (sym (happen_all-append task start events (event ∷ [])))
    (record {
      each_window = is.each_window;
      retries_are = is.retries_are;
      numbered = is.numbered;
      deps = is.deps;
      live = is.live;
      claimed = λ w l. is.claimed w l ∙ sym (claims_more w events event);
    })

module _ (task : Task) (retries : ℕ) (m n : Machine) (claims later : ℕ →
    ℕ) (book : TicketBook) (is : Mirrors task retries m claims book) where
  -- the book is as before
  pub same_book : n.tickets ≡ m.tickets →
      ((y : ℕ) → live_of n.claim (n.phase y) ≡ live_of m.claim (m.phase y)) →
      ((y : ℕ) → later y ≡ claims y) → Mirrors task retries n later book
  same_book tickets live count = record {
    each_window = is.each_window;
    retries_are = is.retries_are;
    numbered = is.numbered ∙ sym tickets;
    deps = is.deps;
    live = λ y l. is.live y l ∙ sym (live y);
    claimed = λ y l. is.claimed y l ∙ sym (count y);
  }

  -- the entry of one window is written, and the others are as before
  pub written : (w : ℕ) (e : WindowEntry) (tickets : ℕ) → w < window_count task.plan →
      e.deps ≡ (entry_at book w).deps → e.live ≡ live_of n.claim (n.phase w) → e.taken ≡ later w →
      ((y : ℕ) → (y ≡ w → ⊥) → live_of n.claim (n.phase y) ≡ live_of m.claim (m.phase y)) →
      ((y : ℕ) → (y ≡ w → ⊥) → later y ≡ claims y) → tickets ≡ n.tickets →
      Mirrors task retries n later (record (with_entry book w e) { tickets = tickets })
  written w e tickets in_ deps live taken others counts number = record {
    each_window = length-set book.windows w e ∙ is.each_window;
    retries_are = is.retries_are;
    numbered = number;
    deps = λ y l.
        ⊎_elim (λ here. ap (λ z. (entry_at new z).deps) here ∙ ap (λ (x : WindowEntry). x.deps) at_w
        ∙ deps ∙ is.deps w in_ ∙ ap (λ z. (window_at task.plan z).deps) (sym here)) (λ ne.
        ap (λ (x : WindowEntry). x.deps) (entry_other book w e y ne) ∙ is.deps y l) (cases_eq y w);
    live = λ y l. ⊎_elim (λ here. ap (λ z. (entry_at new z).live) here
        ∙ ap (λ (x : WindowEntry). x.live) at_w ∙ live ∙ ap (λ z. live_of n.claim (n.phase z))
        (sym here)) (λ ne. ap (λ (x : WindowEntry). x.live) (entry_other book w e y ne)
        ∙ is.live y l ∙ sym (others y ne)) (cases_eq y w);
    claimed = λ y l. ⊎_elim (λ here. ap (λ z. (entry_at new z).taken) here
        ∙ ap (λ (x : WindowEntry). x.taken) at_w ∙ taken
        ∙ ap later (sym here)) (λ ne. ap (λ (x : WindowEntry). x.taken) (entry_other book w e y ne)
        ∙ is.claimed y l ∙ sym (counts y ne)) (cases_eq y w);
  }
    where
      new : TicketBook
      new = with_entry book w e

      at_w : entry_at new w ≡ e
      at_w = entry_here book w e (let same = is.each_window in omega (arith, in_, same))
