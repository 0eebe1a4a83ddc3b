-- What was found is the first turn.
use Rattle.std.proofs.Common.{◌≡◌, ℕ, ◌<◌, ◌≤◌, ◌&&◌, ◌⊎◌, ⊎_elim, Bool, true, false, not, List, [], ◌∷◌, refl, sym, ap, ◌∙◌, map, arith, Some, None, All, eq-eqb, eqb-true}
use Rattle.std.specs.List.{list_all}
use Rattle.std.proofs.lemmas.Bool.{and_parts, and_from, cases_lt, false≢true}
use Rattle.std.proofs.lemmas.List.Elements.{All-head, All-tail, All-cons, All-nil}
use Rattle.std.proofs.Math.ListN.{get_or-eq_default}
use Rattle.window_model.specs.Decoder.{Task}
use Rattle.window_model.specs.Laws.{PlanLaws}
use Rattle.window_model.specs.Windows.{window_count}
use Rattle.window_model.specs.declared.Origin.{Origin}
use Rattle.window_model.specs.declared.Origin.TheVariants.{Guess, Ticket}
use Rattle.window_model.specs.Speculation.{Link, Phase, Waiting, Running, Held, Done, Machine, Event, Verified, Poisoned, Dropped, Committed, standing, pending, held_by, IsHistory}
use Rattle.window_model.specs.TurnLaws.{CanCompare, CanCommit}
use Rattle.window_model.proofs.FirstTurns.{first_turn_law}
use Rattle.poison_cascade.specs.declared.support.Support.{Support}
use Rattle.poison_cascade.specs.Books.{TicketBook, standing as stands_at, supports_at}
use Rattle.poison_cascade.specs.Tests.{is_this, is_some_ticket}
use Rattle.cascade_laws.specs.Mirror.{IsBookOf, support_of}
use Rattle.cascade_laws.specs.MirrorLaws.{reached}
use Rattle.cascade_laws.specs.Turns.{is_done, flag, AreDone, is_based_on, is_based, can_commit, FirstDropLaw, FirstComparisonLaw, CommitLaw, FirstCommitLaw}
use Rattle.cascade_laws.proofs.Events.{standing_is}
use Rattle.cascade_laws.proofs.Scans.{supports_pending_at}
use Rattle.cascade_laws.proofs.Laws.{sound, inside, claims_of, orphan_law, compared_law}

pub first_drop_law : FirstDropLaw
first_drop_law task retries events book None laws h is least =
    λ w o. least w ((orphan_law task retries events book w laws h is).1 o)
first_drop_law task retries events book (Some w) laws h is least = (
  (orphan_law task retries events book w laws h is).0 least.0,
  first_turn_law task retries (reached task events) (Dropped w) (λ y l o.
      least.1 y l ((orphan_law task retries events book y laws h is).1 o)),
)

pub first_comparison_law : FirstComparisonLaw
first_comparison_law task retries events book None laws h is none least =
    λ x w c. least w x ((compared_law task retries events book w x laws h is).1 c)
first_comparison_law task retries events book (Some pair) laws h is none least = (
  (compared_law task retries events book pair.0 pair.1 laws h is).0 least.0,
  first_turn_law task retries (reached task events) (Verified pair.1 pair.0) (none, before),
  first_turn_law task retries (reached task events) (Poisoned pair.1 pair.0) (none, before),
)
  where
    before : (z y : ℕ) → (y < pair.0) ⊎ ((y ≡ pair.0) × (z < pair.1)) →
        CanCompare task (reached task events) z y → ⊥
    before z y lesser c =
        least.1 y z lesser ((compared_law task retries events book y z laws h is).1 c)

-- ---- commits

pub all_from : {X : Type 0} (p : X → Bool) (P : X → Type 0) → ((x : X) → p x ≡ true → P x) →
    (xs : List X) → list_all p xs ≡ true → All P xs
all_from p P f [] h = All-nil P
all_from p P f (x ∷ xs) h = let both = and_parts (p x) (list_all p xs) h in
    All-cons P x xs (f x both.0) (all_from p P f xs both.1)

pub all_to : {X : Type 0} (p : X → Bool) (P : X → Type 0) → ((x : X) → P x → p x ≡ true) →
    (xs : List X) → All P xs → list_all p xs ≡ true
all_to p P f [] h = refl
all_to p P f (x ∷ xs) h =
    and_from (p x) (list_all p xs) (f x (All-head P x xs h)) (all_to p P f xs (All-tail P x xs h))

all_links : (p : Support → Bool) (links : List Link) → list_all p (map support_of links)
    ≡ list_all (λ link. p (support_of link)) links
all_links p [] = refl
all_links p (link ∷ links) = ap (λ b. p (support_of link) && b) (all_links p links)

module _ (task : Task) (retries : ℕ) (events : List Event) (book : TicketBook) (done : List Bool)
    (laws : PlanLaws task.graph task.tags task.plan) (h : IsHistory task retries events)
    (is : IsBookOf task retries events book) (flags : AreDone task (reached task events) done) where
  abbrev m : Machine
  m = reached task events

  stands : (x : ℕ) → stands_at book x ≡ standing (m.phase x)
  stands x = standing_is task retries m (claims_of events) book (sound task retries events laws h)
      (inside task retries events laws h) is x

  -- the flag of any number
  pub flag_is : (w : ℕ) → flag done w ≡ is_done (m.phase w)
  flag_is w = ⊎_elim (λ in'. flags.flags w in') outside (cases_lt w (window_count task.plan))
    where
      outside : window_count task.plan ≤ w → flag done w ≡ is_done (m.phase w)
      outside out = get_or-eq_default done false (let long = flags.each_window in
          omega (arith, long, out)) ∙ sym (by_phase (m.phase w) refl)
        where
          by_phase : (p : Phase) → m.phase w ≡ p → is_done p ≡ false
          by_phase Waiting e = refl
          by_phase (Running k) e = refl
          by_phase (Held k) e = refl
          by_phase (Done k) e = absurd (let l = inside task retries events laws h w k
              (ap held_by e) in omega (arith, l, out))

  supports_held : (w k : ℕ) → m.phase w ≡ Held k → supports_at book w
      ≡ map support_of (m.claim k).links
  supports_held w k e = supports_pending_at task retries laws m (claims_of events) book
      (sound task retries events laws h) (inside task retries events laws h) is w k (ap pending e)

  based_from : (link : Link) → is_based book done (support_of link) ≡ true →
      (j : ℕ) × (link.origin ≡ Ticket j) × (m.phase link.source ≡ Done j)
  based_from link t = by_origin link.origin refl
    where
      by_origin : (o : Origin) → link.origin ≡ o → (j : ℕ) × (link.origin ≡ Ticket j)
          × (m.phase link.source ≡ Done j)
      by_origin Guess e = absurd (false≢true (sym
          (ap (λ x. is_based_on x (stands_at book link.source) (flag done link.source)) e) ∙ t))
      by_origin (Ticket j) e =
          let test : flag done link.source && is_this (stands_at book link.source) j ≡ true =
          sym (ap (λ x. is_based_on x (stands_at book link.source) (flag done link.source)) e)
          ∙ t in
          let both = and_parts (flag done link.source) (is_this (stands_at book link.source) j)
          test in (
            j,
            e,
            by_phase (m.phase link.source) refl (sym (flag_is link.source)
                ∙ both.0) (sym (ap (λ o. is_this o j) (stands link.source)) ∙ both.1),
          )
        where
          by_phase : (p : Phase) → m.phase link.source ≡ p → is_done p ≡ true →
              is_this (standing p) j ≡ true → p ≡ Done j
          by_phase Waiting is_ d s = absurd (false≢true d)
          by_phase (Running i) is_ d s = absurd (false≢true d)
          by_phase (Held i) is_ d s = absurd (false≢true d)
          by_phase (Done i) is_ d s = ap Done (eqb-true i j s)

  based_to : (link : Link) → (j : ℕ) × (link.origin ≡ Ticket j) × (m.phase link.source ≡ Done j) →
      is_based book done (support_of link) ≡ true
  based_to link b =
      ap (λ o. is_based_on o (stands_at book link.source) (flag done link.source)) b.1
      ∙ and_from (flag done link.source) (is_this (stands_at book link.source) b.0)
      (flag_is link.source ∙ ap is_done b.2) (ap (λ o. is_this o b.0) (stands link.source
      ∙ ap standing b.2) ∙ eq-eqb b.0 b.0 refl)

  commit_from : (w : ℕ) → can_commit book done w ≡ true → CanCommit task m w
  commit_from w t = by_phase (m.phase w) refl
    where
      two : (not (flag done w) && is_some_ticket (stands_at book w) ≡ true)
          × (list_all (is_based book done) (supports_at book w) ≡ true)
      two = and_parts (not (flag done w) && is_some_ticket (stands_at book w))
          (list_all (is_based book done) (supports_at book w)) t

      one : (not (flag done w) ≡ true) × (is_some_ticket (stands_at book w) ≡ true)
      one = and_parts (not (flag done w)) (is_some_ticket (stands_at book w)) two.0

      has : (p : Phase) → m.phase w ≡ p → is_some_ticket (standing p) ≡ true
      has p e = sym (ap is_some_ticket (stands w ∙ ap standing e)) ∙ one.1

      open_ : (p : Phase) → m.phase w ≡ p → not (is_done p) ≡ true
      open_ p e = sym (ap not (flag_is w ∙ ap is_done e)) ∙ one.0

      by_phase : (p : Phase) → m.phase w ≡ p → CanCommit task m w
      by_phase Waiting e = absurd (false≢true (has Waiting e))
      by_phase (Running k) e = absurd (false≢true (has (Running k) e))
      by_phase (Done k) e = absurd (false≢true (open_ (Done k) e))
      by_phase (Held k) e = (
        k,
        record {
          in_range = inside task retries events laws h w k (ap held_by e);
          held = e;
          based = all_from (λ link. is_based book done (support_of link)) (λ (link : Link). (j : ℕ)
              × (link.origin ≡ Ticket j) × (m.phase link.source ≡ Done j)) based_from
              (m.claim k).links
              (sym (all_links (is_based book done) (m.claim k).links)
              ∙ ap (list_all (is_based book done)) (sym (supports_held w k e)) ∙ two.1);
        },
      )

  commit_to : (w : ℕ) → CanCommit task m w → can_commit book done w ≡ true
  commit_to w c =
      and_from (not (flag done w) && is_some_ticket (stands_at book w))
      (list_all (is_based book done) (supports_at book w))
      (and_from (not (flag done w)) (is_some_ticket (stands_at book w)) (ap not (flag_is w
      ∙ ap is_done c.1.held)) (ap is_some_ticket (stands w ∙ ap standing c.1.held)))
      (ap (list_all (is_based book done)) (supports_held w c.0 c.1.held)
      ∙ all_links (is_based book done) (m.claim c.0).links
      ∙ all_to (λ link. is_based book done (support_of link)) (λ (link : Link). (j : ℕ)
      × (link.origin ≡ Ticket j) × (m.phase link.source ≡ Done j)) based_to (m.claim c.0).links
      c.1.based)

pub commit_law : CommitLaw
commit_law task retries events book done w laws h is flags = (
  commit_from task retries events book
      done laws h is flags w,
  commit_to task retries events book done laws h is flags w,
)

pub first_commit_law : FirstCommitLaw
first_commit_law task retries events book done None laws h is flags drops comparisons least =
    λ w c. least w (commit_to task retries events book done laws h is flags w c)
first_commit_law task retries events book done (Some w) laws h is flags drops comparisons least =
    let c = commit_from task retries events book done laws h is flags w least.0 in (
      c.0,
      stands task retries events book done laws h is flags w ∙ ap standing c.1.held,
      c.1,
      first_turn_law task retries (reached task events) (Committed c.0 w) (
        drops,
        comparisons,
        λ y l other.
            least.1 y l (commit_to task retries events book done laws h is flags y other),
      ),
    )
