-- What each event does to the book of a machine.
use Rattle.std.proofs.Common.{◌≡◌, ℕ, ◌+◌, ◌<◌, ◌≤◌, ◌==◌, ⊎_elim, Bool, true, false, List, [], refl, sym, ap, ◌∙◌, subst, map, length, arith, Option, Some, None, IsSome, is_some, All, MatchOption, option_map, eq-eqb}
use Rattle.std.proofs.lemmas.Bool.{cases_lt, ne_eqb}
use Rattle.std.proofs.lemmas.List.{length-map}
use Rattle.std.proofs.lemmas.List.Elements.{All-map, All-weaker}
use Rattle.std.proofs.lemmas.Option.{none-some, same_Some}
use Rattle.std.proofs.Math.ListN.{get_or-eq_default}
use Rattle.window_model.specs.Decoder.{Task}
use Rattle.window_model.specs.Windows.{window_count, places}
use Rattle.window_model.specs.declared.Origin.{Origin}
use Rattle.window_model.specs.declared.Origin.TheVariants.{Guess, Ticket}
use Rattle.window_model.specs.Speculation.{Link, Claim, Phase, Waiting, Running, Held, Done, Machine, Claimed, Returned, standing, pending, held_by, result_of, flips_at, with_ticket, give_up, happens, IsNewLink, MayClaim, MayReturn, Compares}
use Rattle.window_model.specs.TicketLaws.{IsSound}
use Rattle.window_model.proofs.Updates.{set_same, set_other, set_part}
use Rattle.window_model.proofs.Soundness.{pending_held, verified, verified_links}
use Rattle.window_model.proofs.Claims.{guess_named, same_number}
use Rattle.poison_cascade.specs.declared.support.Support.{Support}
use Rattle.poison_cascade.specs.Books.{Live, WindowEntry, TicketBook, entry_at, standing as stands_at, standing_of, supports_of, marked, confirmed_by, taken, stood, confirmed, vanished, with_ticket as with_support}
use Rattle.cascade_laws.specs.Mirror.{Mirrors, MayTake, live_of, live_with, support_of}
use Rattle.cascade_laws.proofs.Entries.{tally, live_same, standing_live, no_live, supports_links, named_links, written}

module _ (task : Task) (retries : ℕ) (m : Machine) (claims : ℕ →
    ℕ) (book : TicketBook) (s : IsSound task m) (inside : (w k : ℕ) → held_by (m.phase w) ≡ Some k →
    w < window_count task.plan) (is : Mirrors task retries m claims book) where
  -- ---- reading the book

  -- windows that the plan has not wait
  pub live_is : (w : ℕ) → (entry_at book w).live ≡ live_of m.claim (m.phase w)
  live_is w =
      ⊎_elim (λ in'. is.live w in') (λ out. outside out) (cases_lt w (window_count task.plan))
    where
      outside : window_count task.plan ≤ w → (entry_at book w).live ≡ live_of m.claim (m.phase w)
      outside out =
          ap (λ (e : WindowEntry). e.live) (get_or-eq_default book.windows (record {
            deps = [];
            live = None;
            taken = 0;
          }) (let same = is.each_window in omega (arith, out, same)))
          ∙ sym (no_live m.claim (m.phase w) (λ k e. let l = inside w k e in omega (arith, out, l)))

  pub standing_is : (w : ℕ) → stands_at book w ≡ standing (m.phase w)
  standing_is w = ap standing_of (live_is w) ∙ standing_live m.claim (m.phase w)

  -- ---- a claim

  module _ (k w : ℕ) (links : List Link) (may : MayClaim task retries m k w links) where
    abbrev origins : List Origin
    origins = map (λ (link : Link). link.origin) links

    supports_are : supports_of (entry_at book w).deps origins ≡ map support_of links
    supports_are = ap (λ deps. supports_of deps origins) (is.deps w may.in_range ∙ sym may.sources)
        ∙ supports_links links

    -- a link that names a ticket names the standing one
    named : (link : Link) → IsNewLink task m w link → (j : ℕ) → link.origin ≡ Ticket j →
        stands_at book link.source ≡ Some j
    named link new j e = standing_is link.source ∙ by_standing (standing (m.phase link.source)) new
      where
        by_standing : (o : Option ℕ) →
            MatchOption o ((link.origin ≡ Guess) × (length link.bits ≡ length
            (places task.graph task.plan link.source w))) (λ i. (link.origin ≡ Ticket i)
            × (link.bits ≡ flips_at task link.source w (result_of m i))) → o ≡ Some j
        by_standing None n = absurd (guess_named j (sym n.0 ∙ e))
        by_standing (Some i) n = ap Some (same_number i j (sym n.0 ∙ e))

    pub may_take : claims w < retries + 1 → MayTake book w origins
    may_take few = record {
      in_range = let same = is.each_window in let l = may.in_range in omega (arith, same, l);
      none_live = is.live w may.in_range ∙ ap (live_of m.claim) may.waiting;
      allowed = let a = is.claimed w may.in_range in let r = is.retries_are in
          omega (arith, few, a, r);
      each_one = length-map links (λ (link : Link). link.origin)
          ∙ sym (length-map links (λ (link : Link). link.source))
          ∙ ap length (may.sources ∙ sym (is.deps w may.in_range));
      stand = subst (All (λ (x : Support). (j : ℕ) → x.origin ≡ Ticket j → stands_at book x.source
          ≡ Some j)) (sym supports_are)
          (All-map (λ (x : Support). (j : ℕ) → x.origin ≡ Ticket j → stands_at book x.source
          ≡ Some j) support_of links (All-weaker (IsNewLink task m w) (λ link. (j : ℕ) →
          link.origin ≡ Ticket j → stands_at book link.source ≡ Some j) named links may.new));
    }

    pub after_claim : Mirrors task retries (happens task m (Claimed k w links)) (λ y. claims y
        + tally (w == y)) (taken book w origins)
    after_claim =
        written task retries m n claims (λ y. claims y + tally (w == y)) book is w
        (record (entry_at book w) {
          live = Some (record {
            ticket = book.tickets;
            stands = false;
            supports = supports_of (entry_at book w).deps origins;
          });
          taken = (entry_at book w).taken + 1;
        })
        (book.tickets + 1) may.in_range refl live (ap (λ c. c + 1) (is.claimed w may.in_range)
        ∙ ap (λ b. claims w + tally b) (sym (eq-eqb w w refl)))
        others (λ y ne. ap (λ b. claims y + tally b) (ne_eqb w y (λ e. ne (sym e)))
        ∙ (omega arith)) (ap (λ t. t + 1) is.numbered)
      where
        n : Machine
        n = happens task m (Claimed k w links)

        number : book.tickets ≡ k
        number = is.numbered ∙ sym may.number

        own : (n.claim k).links ≡ links
        own = ap (λ (c : Claim). c.links) (set_same m.claim k (record {
          window = w;
          links = links;
          result = None;
          closed = false;
        }))

        live : Some (record {
          ticket = book.tickets;
          stands = false;
          supports = supports_of (entry_at book w).deps origins;
        }) ≡ live_of n.claim (n.phase w)
        live =
            ap (λ t. Some (record {
              ticket = t;
              stands = false;
              supports = supports_of (entry_at book w).deps origins;
            })) number
            ∙ ap (λ ss. Some (record { ticket = k; stands = false; supports = ss })) (supports_are
            ∙ ap (map support_of) (sym own))
            ∙ sym (ap (live_of n.claim) (set_same m.phase w (Running k)))

        others : (y : ℕ) → (y ≡ w → ⊥) → live_of n.claim (n.phase y) ≡ live_of m.claim (m.phase y)
        others y ne =
            ap (live_of n.claim) (set_other m.phase w (Running k) y ne)
            ∙ live_same m.claim n.claim (m.phase y)
            (λ j e. ap (λ (c : Claim). c.links) (set_other m.claim k _ j (λ same. let c =
            s.current y j e in let number_ = may.number in omega (arith, same, number_, c.0))))

  -- ---- a result

  module _ (k : ℕ) (set : List ℕ) (may : MayReturn task m k set) where
    abbrev window : ℕ
    window = (m.claim k).window

    pub return_within : window < window_count task.plan
    return_within = inside window k (ap held_by may.running)

    live_running : (entry_at book window).live ≡ Some (live_with m.claim k false)
    live_running = live_is window ∙ ap (live_of m.claim) may.running

    pub runs_still : option_map (λ (live : Live). live.stands) (entry_at book window).live
        ≡ Some false
    runs_still = ap (option_map (λ (live : Live). live.stands)) live_running

    pub after_return : Mirrors task retries (happens task m (Returned k set)) (λ y. claims y + 0)
        (stood book window)
    after_return =
        written task retries m n claims (λ y. claims y + 0) book is window
        (marked (entry_at book window)) book.tickets return_within refl live
        (is.claimed window return_within ∙ (omega arith)) others (λ y ne. omega arith) is.numbered
      where
        n : Machine
        n = happens task m (Returned k set)

        links_stay : (j : ℕ) → (n.claim j).links ≡ (m.claim j).links
        links_stay j = set_part (λ (c : Claim). c.links) m.claim k _ refl j

        live : (marked (entry_at book window)).live ≡ live_of n.claim (n.phase window)
        live =
            ap (option_map (λ (l : Live). record l { stands = true })) live_running
            ∙ ap (λ links. Some (record {
              ticket = k;
              stands = true;
              supports = map support_of links;
            })) (sym (links_stay k))
            ∙ sym (ap (live_of n.claim) (set_same m.phase window (Held k)))

        others : (y : ℕ) → (y ≡ window → ⊥) → live_of n.claim (n.phase y)
            ≡ live_of m.claim (m.phase y)
        others y ne = ap (live_of n.claim) (set_other m.phase window (Held k) y ne)
            ∙ live_same m.claim n.claim (m.phase y) (λ j e. links_stay j)

  -- ---- a window is given up

  module _ (w k : ℕ) (was : pending (m.phase w) ≡ Some k) where
    pub pending_within : w < window_count task.plan
    pending_within = inside w k (pending_held (m.phase w) k was)

    pub is_live : IsSome (entry_at book w).live
    is_live = ap is_some (live_is w) ∙ has_live (m.phase w) was
      where
        has_live : (p : Phase) → pending p ≡ Some k → is_some (live_of m.claim p) ≡ true
        has_live Waiting e = absurd (none-some k e)
        has_live (Running j) e = refl
        has_live (Held j) e = refl
        has_live (Done j) e = absurd (none-some k e)

    pub after_give_up : Mirrors task retries (give_up m w) (λ y. claims y + 0) (vanished book w)
    after_give_up =
        written task retries m (give_up m w) claims (λ y. claims y + 0) book is
        w (record (entry_at book w) { live = None }) book.tickets pending_within refl
        (sym (ap (live_of m.claim) (set_same m.phase w Waiting))) (is.claimed w pending_within
        ∙ (omega arith)) (λ y ne. ap (live_of m.claim) (set_other m.phase w Waiting y ne))
        (λ y ne. omega arith) is.numbered

  -- ---- a guess is verified

  module _ (x w : ℕ) (bits : List Bool) (may : Compares task m x w bits bits) where
    pub after_verify : Mirrors task retries (verified task m x w bits may s) (λ y. claims y + 0)
        (confirmed book x w)
    unfolding verified
    after_verify =
        written task retries m n claims (λ y. claims y + 0) book is w
        (confirmed_by (stands_at book x) x (entry_at book w)) book.tickets within
        (ap (λ o. (confirmed_by o x (entry_at book w)).deps) there)
        live (ap (λ o. (confirmed_by o x (entry_at book w)).taken) there ∙ is.claimed w within
        ∙ (omega arith)) others (λ y ne. omega arith) is.numbered
      where
        n : Machine
        n = verified task m x w bits may s

        within : w < window_count task.plan
        within = pending_within w may.own may.is_pending

        there : stands_at book x ≡ Some may.other
        there = standing_is x ∙ may.is_standing

        own_links : (n.claim may.own).links ≡ with_ticket x may.other (m.claim may.own).links
        own_links = ap (λ (c : Claim). c.links) (set_same m.claim may.own (record (m.claim may.own)
            { links = with_ticket x may.other (m.claim may.own).links }))

        at_own : (i : ℕ) (b : Bool) → i ≡ may.own → Some (record {
          ticket = i;
          stands = b;
          supports = with_support x may.other (map support_of (m.claim i).links);
        })
            ≡ Some (live_with n.claim i b)
        at_own i b same =
            ap (λ ss. Some (record { ticket = i; stands = b; supports = ss }))
            (sym (named_links x may.other (m.claim i).links)
            ∙ ap (map support_of) (subst (λ j. with_ticket x may.other (m.claim j).links
            ≡ (n.claim j).links) (sym same) (sym own_links)))

        renamed : (p : Phase) → pending p ≡ Some may.own → option_map (λ (l : Live).
            record l { supports = with_support x may.other l.supports }) (live_of m.claim p)
            ≡ live_of n.claim p
        renamed Waiting e = absurd (none-some may.own e)
        renamed (Done j) e = absurd (none-some may.own e)
        renamed (Running j) e = at_own j false (same_Some j may.own e)
        renamed (Held j) e = at_own j true (same_Some j may.own e)

        live : (confirmed_by (stands_at book x) x (entry_at book w)).live
            ≡ live_of n.claim (n.phase w)
        live =
            ap (λ o. (confirmed_by o x (entry_at book w)).live) there ∙ ap (option_map
            (λ (l : Live). record l { supports = with_support x may.other l.supports }))
            (live_is w) ∙ renamed (m.phase w) may.is_pending

        others : (y : ℕ) → (y ≡ w → ⊥) → live_of n.claim (n.phase y) ≡ live_of m.claim (m.phase y)
        others y ne = live_same m.claim n.claim (m.phase y) (λ j e.
            ⊎_elim
            (λ here. absurd (ne (sym (s.current y j e).1 ∙ ap (λ i. (m.claim i).window) here.0
            ∙ (s.current w may.own (pending_held (m.phase w) may.own may.is_pending)).1)))
            (λ old. old)
            (verified_links task m x w bits may s j))
