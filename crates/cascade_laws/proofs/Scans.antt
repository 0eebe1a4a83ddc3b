-- What the book finds next, in the words of the machine.
use Rattle.std.proofs.Common.{◌≡◌, ℕ, zero, suc, ◌<◌, ◌==◌, Bool, true, false, cond, List, [], ◌∷◌, refl, sym, ap, ◌∙◌, subst, map, length, get_or, find, arith, Some, All, Any, eq-eqb}
use Rattle.std.proofs.lemmas.Bool.{ne_eqb, both_ways}
use Rattle.std.proofs.lemmas.Option.{none-some, same_Some}
use Rattle.graph_model.specs.Graph.{is_in}
use Rattle.graph_model.proofs.Members.{is_in_first, is_in_rest}
use Rattle.window_model.specs.Decoder.{Task}
use Rattle.window_model.specs.Laws.{PlanLaws}
use Rattle.window_model.specs.Windows.{window_at, window_count}
use Rattle.window_model.specs.declared.Origin.TheVariants.{Guess, Ticket}
use Rattle.window_model.specs.Speculation.{Link, Phase, Waiting, Running, Held, Done, Machine, standing, pending, held_by, sources_of, result_of, flips_at, IsOrphan as RestsOnGone}
use Rattle.window_model.specs.TicketLaws.{IsSound}
use Rattle.window_model.specs.TurnLaws.{CanCompare}
use Rattle.window_model.proofs.Soundness.{pending_held}
use Rattle.window_model.proofs.Claims.{IsBased, guess_named, same_number}
use Rattle.window_model.proofs.Quiet.{IsApart, filter_apart}
use Rattle.poison_cascade.specs.declared.support.Support.{Support}
use Rattle.poison_cascade.specs.Books.{TicketBook, standing as stands_at, supports_in, supports_at, IsOrphan, IsUnverified}
use Rattle.cascade_laws.specs.Mirror.{Mirrors, live_of, support_of}
use Rattle.cascade_laws.proofs.Entries.{supports_pending, any_link, any_support}
use Rattle.cascade_laws.proofs.Events.{live_is, standing_is}

-- ---- links are found by their sources

source_in : (links : List Link) (i : ℕ) (d : Link) → i < length links →
    is_in (sources_of links) (get_or links i d).source ≡ true
source_in [] i d l = absurd (omega (arith, l))
source_in (link ∷ links) zero d l = is_in_first link.source (sources_of links)
source_in (link ∷ links) (suc i) d l = is_in_rest link.source (get_or links i d).source
    (sources_of links) (source_in links i d (omega (arith, l)))

-- where no source stands twice, the link of a source is the one that is found
found_at : (links : List Link) (i : ℕ) (d : Link) → IsApart (sources_of links) → i < length links →
    find (λ (l : Link). l.source == (get_or links i d).source) links ≡ Some (get_or links i d)
found_at [] i d apart l = absurd (omega (arith, l))
found_at (link ∷ links) zero d apart l = ap (λ b. cond b (Some link)
    (find (λ (x : Link). x.source == link.source) links)) (eq-eqb link.source link.source refl)
found_at (link ∷ links) (suc i) d apart l =
    let later : Link = get_or links i d in
    let within : i < length links = omega (arith, l) in
    let other : link.source == later.source ≡ false = ne_eqb link.source later.source (λ e.
    both_ways (is_in (sources_of links) link.source) apart.0
    (subst (λ x. is_in (sources_of links) x ≡ true) (sym e) (source_in links i d within))) in
    ap (λ b. cond b (Some link) (find (λ (x : Link). x.source == later.source) links)) other
    ∙ found_at links i d apart.1 within

found_link : (x : ℕ) (links : List Link) → IsApart (sources_of links) →
    (a : Any (λ (l : Link). (l.source ≡ x) × (l.origin ≡ Guess)) links) →
    find (λ (l : Link). l.source == x) links
    ≡ Some (record { source = x; origin = Guess; bits = a.1.bits })
found_link x links apart a =
    let at : get_or links a.0 a.1 ≡ a.1 = a.3 in
    subst (λ y. find (λ (l : Link). l.source == y) links ≡ Some a.1) a.4.0
    (subst (λ (link : Link). find (λ (l : Link). l.source == link.source) links ≡ Some link) at
    (found_at links a.0 a.1 apart a.2))
    ∙ ap (λ y. Some (record { source = y; origin = a.1.origin; bits = a.1.bits })) a.4.0
    ∙ ap (λ o. Some (record { source = x; origin = o; bits = a.1.bits })) a.4.1

-- what is found is there
there : (p : Link → Bool) (links : List Link) (found : Link) → find p links ≡ Some found →
    Any (λ (l : Link). l ≡ found) links
there p [] found e = absurd (none-some found e)
there p (link ∷ links) found e = by_test (p link) e (there p links found)
  where
    by_test : (b : Bool) → cond b (Some link) (find p links) ≡ Some found →
        (find p links ≡ Some found → Any (λ (l : Link). l ≡ found) links) →
        Any (λ (l : Link). l ≡ found) (link ∷ links)
    by_test true h rest = (0, link, omega arith, refl, same_Some link found h)
    by_test false h rest = let a = rest h in (
      suc a.0,
      a.1,
      (let l = a.2 in omega (arith, l)),
      a.3,
      a.4,
    )

any_weaker : {X : Type 0} (P Q : X → Type 0) → ((x : X) → P x → Q x) → (xs : List X) → Any P xs →
    Any Q xs
any_weaker P Q f xs a = (a.0, a.1, a.2, a.3, f a.1 a.4)

module _ (task : Task) (retries : ℕ) (laws : PlanLaws task.graph task.tags task.plan) (m : Machine)
    (claims : ℕ → ℕ) (book : TicketBook) (s : IsSound task m) (inside : (w k : ℕ) → held_by (m.phase
    w) ≡ Some k → w < window_count task.plan) (is : Mirrors task retries m claims book) where
  pub supports_pending_at : (w k : ℕ) → pending (m.phase w) ≡ Some k → supports_at book w
      ≡ map support_of (m.claim k).links
  supports_pending_at w k e = ap supports_in (live_is task retries m claims book s inside is w)
      ∙ supports_pending m.claim (m.phase w) k e

  -- a window with supports has a ticket that may be given up, or is done
  by_phase : {P : Type 0} (w : ℕ) → ((k : ℕ) → pending (m.phase w) ≡ Some k → P) →
      ((k : ℕ) → m.phase w ≡ Done k → P) → (supports_at book w ≡ [] → P) → P
  by_phase {P} w pend done none = cases (m.phase w) refl
    where
      cases : (p : Phase) → m.phase w ≡ p → P
      cases Waiting e = none (ap supports_in (live_is task retries m claims book s inside is w)
          ∙ ap (λ p. supports_in (live_of m.claim p)) e)
      cases (Running k) e = pend k (ap pending e)
      cases (Held k) e = pend k (ap pending e)
      cases (Done k) e = done k e

  none_in : (P : Support → Type 0) (xs : List Support) → xs ≡ [] → Any P xs → ⊥
  none_in P xs e a = let b = subst (Any P) e a in omega (arith, b.2)

  supports_done : (w k : ℕ) → m.phase w ≡ Done k → supports_at book w
      ≡ map support_of (m.claim k).links
  supports_done w k e = ap supports_in (live_is task retries m claims book s inside is w)
      ∙ ap (λ p. supports_in (live_of m.claim p)) e

  stands_is : (x : ℕ) → stands_at book x ≡ standing (m.phase x)
  stands_is x = standing_is task retries m claims book s inside is x

  module _ (based : (w k : ℕ) → m.phase w ≡ Done k → All (IsBased m) (m.claim k).links) where
    abbrev IsGone : Support → Type 0
    IsGone x = (k : ℕ) × (x.origin ≡ Ticket k) × (stands_at book x.source ≡ Some k → ⊥)

    abbrev IsGuessAbout : ℕ → Support → Type 0
    IsGuessAbout x a = (a.source ≡ x) × (a.origin ≡ Guess)

    -- ---- orphans

    pub orphan_to : (w : ℕ) → IsOrphan book w → RestsOnGone m w
    orphan_to w o =
        by_phase w pend done_ (λ none. absurd (none_in IsGone (supports_at book w) none o))
      where
        pend : (k : ℕ) → pending (m.phase w) ≡ Some k → RestsOnGone m w
        pend k e = record {
          own = k;
          is_pending = e;
          gone = any_weaker (λ link. IsGone (support_of link)) (λ (link : Link). (j : ℕ)
              × (link.origin ≡ Ticket j) × (standing (m.phase link.source) ≡ Some j → ⊥)) (λ link g.
              (g.0, g.1, λ t. g.2 (stands_is link.source ∙ t)))
              (m.claim k).links (any_link IsGone (m.claim k).links
              (subst (Any IsGone) (supports_pending_at w k e) o));
        }

        done_ : (k : ℕ) → m.phase w ≡ Done k → RestsOnGone m w
        done_ k e =
            let a = any_link IsGone (m.claim k).links (subst (Any IsGone) (supports_done w k e)
            o) in
            let b = subst (IsBased m) a.3 (based w k e a.0 a.1 a.2) in
            absurd (a.4.2 (stands_is a.1.source ∙ ap standing b.2
            ∙ ap Some (same_number b.0 a.4.0 (sym b.1 ∙ a.4.1))))

    pub orphan_from : (w : ℕ) → RestsOnGone m w → IsOrphan book w
    orphan_from w o =
        subst (Any IsGone) (sym (supports_pending_at w o.own o.is_pending))
        (any_support IsGone (m.claim o.own).links
        (any_weaker (λ (link : Link). (j : ℕ) × (link.origin ≡ Ticket j)
        × (standing (m.phase link.source) ≡ Some j → ⊥)) (λ link. IsGone (support_of link))
        (λ link g. (g.0, g.1, λ t. g.2 (sym (stands_is link.source) ∙ t)))
        (m.claim o.own).links o.gone))

    -- ---- comparisons

    pub compare_to : (w x : ℕ) → IsUnverified book w x → CanCompare task m x w
    compare_to w x u = by_phase w pend done_ (λ none.
        absurd (none_in (IsGuessAbout x) (supports_at book w) none u.guessed))
      where
        pend : (k : ℕ) → pending (m.phase w) ≡ Some k → CanCompare task m x w
        pend k e =
            let taken = (s.current w k (pending_held (m.phase w) k e)).0 in
            let links = (m.claim k).links in
            let deps = (window_at task.plan (m.claim k).window).deps in
            let apart : IsApart (sources_of links) =
            subst IsApart (sym (s.sources k taken ∙ laws.deps_listed (m.claim k).window))
            (filter_apart (is_in deps) 0 (window_count task.plan)) in
            let a = any_link (IsGuessAbout x) links
            (subst (Any (IsGuessAbout x)) (supports_pending_at w k e) u.guessed) in (
              a.1.bits,
              flips_at task x w (result_of m u.other),
              record {
                own = k;
                is_pending = e;
                guessed = found_link x links apart a;
                other = u.other;
                is_standing = sym (stands_is x) ∙ u.stands;
                result = refl;
              },
            )

        done_ : (k : ℕ) → m.phase w ≡ Done k → CanCompare task m x w
        done_ k e =
            let a = any_link (IsGuessAbout x) (m.claim k).links
            (subst (Any (IsGuessAbout x)) (supports_done w k e) u.guessed) in
            let b = subst (IsBased m) a.3 (based w k e a.0 a.1 a.2) in
            absurd (guess_named b.0 (sym a.4.1 ∙ b.1))

    pub compare_from : (w x : ℕ) → CanCompare task m x w → IsUnverified book w x
    compare_from w x c = record {
      guessed = guessed;
      other = c.2.other;
      stands = stands_is x
          ∙ c.2.is_standing;
    }
      where
        guessed : Any (IsGuessAbout x) (supports_at book w)
        guessed =
            subst (Any (IsGuessAbout x)) (sym (supports_pending_at w c.2.own c.2.is_pending))
            (any_support (IsGuessAbout x) (m.claim c.2.own).links
            (any_weaker (λ (l : Link). l ≡ record { source = x; origin = Guess; bits = c.0 })
            (λ link. IsGuessAbout x (support_of link)) (λ l e. (
              ap (λ (y : Link). y.source) e,
              ap (λ (y : Link). y.origin) e,
            )) (m.claim c.2.own).links
            (there (λ (l : Link). l.source == x) (m.claim c.2.own).links (record {
              source = x;
              origin = Guess;
              bits = c.0;
            }) c.2.guessed)))
