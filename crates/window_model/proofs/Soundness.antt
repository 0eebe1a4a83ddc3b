-- Every history of the speculative decoder keeps its machine sound: its claims rest on what they
-- name, its results are least, and no window is held by a claim that was given up.
use Rattle.std.proofs.Common.{◌≡◌, ℕ, ◌<◌, ◌≤◌, ◌⊎◌, ⊎_elim, inl, inr, Bool, false, cond, List, [], ◌∷◌, refl, sym, ap, ◌∙◌, subst, arith, Option, Some, None, IsSome, IsNone, is_some, unwrap_or, All, length, MatchOption, slice_index, slice_index_or}
use Rattle.std.proofs.lemmas.Bool.{cases_eq, ne_eqb, both_ways}
use Rattle.std.proofs.lemmas.List.Elements.{All-weaker}
use Rattle.std.proofs.lemmas.Option.{same_Some, none-some}
use Rattle.graph_model.specs.Parity.{◌⊕◌, parity}
use Rattle.graph_model.specs.Graph.{ends_at, weight_at}
use Rattle.graph_model.proofs.Corrections.{least_same}
use Rattle.window_model.specs.Windows.{window_at, places}
use Rattle.window_model.specs.Decoder.{Task, set_at}
use Rattle.window_model.specs.Laws.{PlanLaws}
use Rattle.window_model.specs.declared.Origin.TheVariants.{Guess, Ticket}
use Rattle.window_model.specs.Speculation.{Link, Claim, Phase, Waiting, Running, Held, Done, Machine, Event, Arrived, Claimed, Returned, Stale, Verified, Poisoned, Dropped, Committed, Released, standing, pending, done, held_by, sources_of, result_of, flips_at, bit_at, IsLeastResult, start, with_slot, place_in, detector_slots, with_ticket, confirm, give_up, happens, happen_all, IsNewLink, MayClaim, MayReturn, Compares, MayCommitTicket, IsEnabled, IsHistoryFrom}
use Rattle.window_model.specs.TicketLaws.{IsBacked, IsSound, SoundLaw}
use Rattle.window_model.proofs.Updates.{set_same, set_other, set_cases, set_part, renamed_sources, renamed_parity, renamed_all}

abbrev pub IsLeastOver : Task → (ℕ → Bool) → ℕ → List Link → List ℕ → Type 0
IsLeastOver task value w links set = IsLeastResult task value (record {
  window = w;
  links = links;
  result = None;
  closed = false;
}) set

-- ---- phases

standing_held : (p : Phase) (k : ℕ) → standing p ≡ Some k → held_by p ≡ Some k
standing_held Waiting k e = absurd (none-some k e)
standing_held (Running j) k e = absurd (none-some k e)
standing_held (Held j) k e = e
standing_held (Done j) k e = e

pub pending_held : (p : Phase) (k : ℕ) → pending p ≡ Some k → held_by p ≡ Some k
pending_held Waiting k e = absurd (none-some k e)
pending_held (Running j) k e = e
pending_held (Held j) k e = e
pending_held (Done j) k e = absurd (none-some k e)

pub done_held : (p : Phase) (k : ℕ) → done p ≡ Some k → held_by p ≡ Some k
done_held Waiting k e = absurd (none-some k e)
done_held (Running j) k e = absurd (none-some k e)
done_held (Held j) k e = absurd (none-some k e)
done_held (Done j) k e = e

pub done_standing : (p : Phase) (k : ℕ) → done p ≡ Some k → standing p ≡ Some k
done_standing Waiting k e = absurd (none-some k e)
done_standing (Running j) k e = absurd (none-some k e)
done_standing (Held j) k e = absurd (none-some k e)
done_standing (Done j) k e = e

pub pending_not_done : (p : Phase) (k : ℕ) → pending p ≡ Some k → done p ≡ None
pending_not_done Waiting k e = refl
pending_not_done (Running j) k e = refl
pending_not_done (Held j) k e = refl
pending_not_done (Done j) k e = absurd (none-some k e)

-- ---- what stays of the claims

pub record KeepsClaims (m n : Machine) : Type 0 where
  pub more : m.tickets ≤ n.tickets
  pub window : (k : ℕ) → k < m.tickets → (n.claim k).window ≡ (m.claim k).window
  pub links : (k : ℕ) → k < m.tickets → (n.claim k).links ≡ (m.claim k).links
  pub result : (k : ℕ) → k < m.tickets → IsSome (m.claim k).result → (n.claim k).result
      ≡ (m.claim k).result

results_stay : (task : Task) (m n : Machine) → m.tickets ≤ n.tickets → ((k : ℕ) → k < m.tickets →
    IsSome (m.claim k).result → (n.claim k).result ≡ (m.claim k).result) →
    (w : ℕ) (link : Link) → IsBacked task m w link → IsBacked task n w link
results_stay task m n more result w link h j e =
    let old = h j e in
    let same = result j old.0 old.1 in (
      omega (arith, old.0, more),
      subst IsSome (sym same) old.1,
      old.2
          ∙ ap (λ r. flips_at task link.source w (unwrap_or r [])) (sym same),
    )

module _ (task : Task) (m n : Machine) (keeps : KeepsClaims m n) where
  link_stays : (w : ℕ) (link : Link) → IsBacked task m w link → IsBacked task n w link
  link_stays = results_stay task m n keeps.more keeps.result

  backed_stays : (k : ℕ) → k < m.tickets → All (IsBacked task m (m.claim k).window)
      (m.claim k).links → All (IsBacked task n (n.claim k).window) (n.claim k).links
  backed_stays k taken h =
      subst (λ w. All (IsBacked task n w) (n.claim k).links) (sym (keeps.window k taken))
      (subst (λ links. All (IsBacked task n (m.claim k).window) links) (sym (keeps.links k taken))
      (All-weaker _ _ (link_stays (m.claim k).window) (m.claim k).links h))

  sources_stay : (k : ℕ) →
      k < m.tickets → sources_of (m.claim k).links ≡ (window_at task.plan (m.claim k).window).deps →
      sources_of (n.claim k).links ≡ (window_at task.plan (n.claim k).window).deps
  sources_stay k taken h = ap sources_of (keeps.links k taken) ∙ h
      ∙ ap (λ w. (window_at task.plan w).deps) (sym (keeps.window k taken))

  least_stays : (value : ℕ → Bool) (k : ℕ) → k < m.tickets → IsSome (m.claim k).result
      × IsLeastOver task value (m.claim k).window (m.claim k).links (result_of m k) →
      IsSome (n.claim k).result × IsLeastOver task value (n.claim k).window (n.claim k).links
      (result_of n k)
  least_stays value k taken h =
      let same = keeps.result k taken h.0 in (
        subst IsSome (sym same) h.0,
        subst (λ w. IsLeastOver task value w (n.claim k).links (result_of n k))
            (sym (keeps.window k taken))
            (subst (λ links. IsLeastOver task value (m.claim k).window links (result_of n k))
            (sym (keeps.links k taken))
            (subst (λ r. IsLeastOver task value (m.claim k).window (m.claim k).links
            (unwrap_or r [])) (sym same) h.1)),
      )

-- the same claims altogether
same_claims : (m n : Machine) → n.tickets ≡ m.tickets → ((k : ℕ) → n.claim k ≡ m.claim k) →
    KeepsClaims m n
same_claims m n count same = record {
  more = omega (arith, count);
  window = λ k taken. ap (λ (c : Claim). c.window) (same k);
  links = λ k taken. ap (λ (c : Claim). c.links) (same k);
  result = λ k taken has. ap (λ (c : Claim). c.result) (same k);
}

-- ---- an arrival

pub values_stay : (slots : List ℕ) (t : ℕ) (new : List Bool) (old : ℕ → Bool) (n : ℕ) →
    slice_index slots n < t → with_slot slots t new old n ≡ old n
values_stay slots t new old n low = ap (λ b. cond b (slice_index_or new (place_in slots t n) false)
    (old n)) (ne_eqb (slice_index slots n) t (λ e. omega (arith, e, low)))

least_later : (task : Task) → PlanLaws task.graph task.tags task.plan →
    (value : ℕ → Bool) (t : ℕ) (new : List Bool) (w : ℕ) (links : List Link) (set : List ℕ) →
    (window_at task.plan w).last < t →
    IsLeastOver task value w links set →
    IsLeastOver task (with_slot (detector_slots task) t new value) w links set
least_later task laws value t new w links set low =
    least_same (ends_at task.graph) (weight_at task.graph) (window_at task.plan w).detectors
    (window_at task.plan w).edges _ _
    (λ v mem. ap (λ b. b ⊕ parity (λ (link : Link).
    bit_at (places task.graph task.plan link.source w) link.bits v) links)
    (sym (values_stay (detector_slots task) t new value v (let k = laws.last_covers w v mem in
    omega (arith, k, low)))))
    set

sound_arrived : (task : Task) → PlanLaws task.graph task.tags task.plan →
    (m : Machine) (t : ℕ) (values raws : List Bool) → t ≡ m.arrived → IsSound task m →
    IsSound task (happens task m (Arrived t values raws))
sound_arrived task laws m t values raws next s = record {
  current = λ w k e. let c = s.current w k e in (c.0, c.1, omega (arith, c.2));
  sources = s.sources;
  backed = s.backed;
  fresh = s.fresh;
  least = λ w k e.
      let c = s.current w k (standing_held (m.phase w) k e) in
      let l = s.least w k e in
      let low : (window_at task.plan (m.claim k).window).last < t =
      subst (λ x. (window_at task.plan x).last < t) (sym c.1) (omega (arith, c.2, next)) in (
        l.0,
        least_later task laws m.value t values (m.claim k).window (m.claim k).links
            (result_of m k) low l.1,
      );
}

-- ---- a claim

named_one : (i j : ℕ) → Ticket i ≡ Ticket j → i ≡ j
named_one i j e = cc

module _ (task : Task) (retries : ℕ) (m : Machine) (k w : ℕ) (links : List Link)
    (may : MayClaim task retries m k w links) (s : IsSound task m) where
  new_claim : Claim
  new_claim = record { window = w; links = links; result = None; closed = false }

  claimed_keeps : KeepsClaims m (happens task m (Claimed k w links))
  claimed_keeps =
      record {
        more = omega arith;
        window = λ j taken. ap (λ (c : Claim). c.window) (same j taken);
        links = λ j taken. ap (λ (c : Claim). c.links) (same j taken);
        result = λ j taken has. ap (λ (c : Claim). c.result) (same j taken);
      }
    where
      same : (j : ℕ) → j < m.tickets → (happens task m (Claimed k w links)).claim j ≡ m.claim j
      same j taken = set_other m.claim k _ j (λ e. let n = may.number in omega (arith, e, n, taken))

  new_link : (link : Link) → IsNewLink task m w link → IsBacked task m w link
  new_link link h = by_standing (standing (m.phase link.source)) refl h
    where
      by_standing : (o : Option ℕ) → standing (m.phase link.source) ≡ o →
          MatchOption o ((link.origin ≡ Guess)
          × (length link.bits ≡ length (places task.graph task.plan link.source w)))
          (λ i. (link.origin ≡ Ticket i)
          × (link.bits ≡ flips_at task link.source w (result_of m i))) →
          IsBacked task m w link
      by_standing None e new j named = let g = new.0 in absurd (cc)
      by_standing (Some i) e new j named =
          let same : i ≡ j = named_one i j (sym new.0 ∙ named) in
          subst (λ n. (n < m.tickets) × IsSome (m.claim n).result
          × (link.bits ≡ flips_at task link.source w (result_of m n))) same (
            (s.current link.source i (standing_held (m.phase link.source) i e)).0,
            (s.least link.source i e).0,
            new.1,
          )

  sound_claimed : IsSound task (happens task m (Claimed k w links))
  sound_claimed = record {
    current = current;
    sources = sources;
    backed = backed;
    fresh = fresh;
    least = least;
  }
    where
      n : Machine
      n = happens task m (Claimed k w links)

      at_new : (j : ℕ) → j ≡ k → n.claim j ≡ record {
        window = w;
        links = links;
        result = None;
        closed = false;
      }
      at_new j e = ap n.claim e ∙ set_same m.claim k _

      current : (x j : ℕ) → held_by (n.phase x) ≡ Some j → (j < n.tickets)
          × ((n.claim j).window ≡ x) × ((window_at task.plan x).last < n.arrived)
      current x j e =
          ⊎_elim
          (λ here. let same = same_Some k j here.1 in let num = may.number in (
            omega (arith, same, num),
            ap (λ (c : Claim). c.window) (at_new j (sym same))
                ∙ sym here.0,
            subst (λ y. (window_at task.plan y).last < m.arrived) (sym here.0)
                may.arrived,
          ))
          (λ old. let c = s.current x j old.1 in (
            omega (arith, c.0),
            claimed_keeps.window j c.0
                ∙ c.1,
            c.2,
          ))
          (set_cases (λ p. held_by p ≡ Some j) m.phase w (Running k) x e)

      sources : (j : ℕ) → j < n.tickets → sources_of (n.claim j).links
          ≡ (window_at task.plan (n.claim j).window).deps
      sources j taken =
          ⊎_elim
          (λ e. ap (λ (c : Claim). sources_of c.links) (at_new j e) ∙ may.sources
          ∙ sym (ap (λ (c : Claim). (window_at task.plan c.window).deps) (at_new j e)))
          (λ ne. let old : j < m.tickets = (let num = may.number in omega (
            arith,
            num,
            ne,
            taken,
          )) in sources_stay task m n claimed_keeps j old (s.sources j old))
          (cases_eq j k)

      backed : (j : ℕ) → j < n.tickets → All (IsBacked task n (n.claim j).window) (n.claim j).links
      backed j taken =
          ⊎_elim
          (λ e. subst (λ (c : Claim). All (IsBacked task n c.window) c.links) (sym (at_new j e))
          (All-weaker (IsNewLink task m w) (IsBacked task n w) (λ link h.
          link_stays task m n claimed_keeps w link (new_link link h)) links may.new))
          (λ ne. let old : j < m.tickets = (let num = may.number in omega (
            arith,
            num,
            ne,
            taken,
          )) in backed_stays task m n claimed_keeps j old (s.backed j old))
          (cases_eq j k)

      fresh : (x j : ℕ) → n.phase x ≡ Running j → IsNone (n.claim j).result
      fresh x j e =
          ⊎_elim
          (λ here. let same : k ≡ j = running_one k j here.1 in
          ap (λ (c : Claim). is_some c.result) (at_new j (sym same)))
          (λ old. let c = s.current x j (ap held_by old.1) in ap is_some (claimed_results j c.0)
          ∙ s.fresh x j old.1)
          (set_cases (λ p. p ≡ Running j) m.phase w (Running k) x e)
        where
          running_one : (a b : ℕ) → Running a ≡ Running b → a ≡ b
          running_one a b h = cc

          claimed_results : (i : ℕ) → i < m.tickets → (n.claim i).result ≡ (m.claim i).result
          claimed_results i taken = ap (λ (c : Claim). c.result)
              (set_other m.claim k _ i (λ h. let num = may.number in omega (arith, h, num, taken)))

      least : (x j : ℕ) → standing (n.phase x) ≡ Some j → IsSome (n.claim j).result
          × IsLeastOver task n.value (n.claim j).window (n.claim j).links (result_of n j)
      least x j e =
          ⊎_elim
          (λ here. absurd (none-some j here.1))
          (λ old. let c = s.current x j (standing_held (m.phase x) j old.1) in
          least_stays task m n claimed_keeps m.value j c.0 (s.least x j old.1))
          (set_cases (λ p. standing p ≡ Some j) m.phase w (Running k) x e)

-- ---- a result

running_one : (a b : ℕ) → Running a ≡ Running b → a ≡ b
running_one a b h = cc

module _ (task : Task) (m : Machine) (k : ℕ) (set : List ℕ) (may : MayReturn task m k set)
    (s : IsSound task m) where
  returned_other : (j : ℕ) → IsSome (m.claim j).result → j ≡ k → ⊥
  returned_other j has e = both_ways (is_some (m.claim k).result)
      (s.fresh (m.claim k).window k may.running) (subst (λ i. IsSome (m.claim i).result) e has)

  pub returned_keeps : KeepsClaims m (happens task m (Returned k set))
  returned_keeps = record {
    more = omega arith;
    window = λ j taken. set_part (λ (c : Claim). c.window) m.claim k _ refl j;
    links = λ j taken. set_part (λ (c : Claim). c.links) m.claim k _ refl j;
    result = λ j taken has.
        ap (λ (c : Claim). c.result) (set_other m.claim k _ j (returned_other j has));
  }

  sound_returned : IsSound task (happens task m (Returned k set))
  sound_returned = record {
    current = current;
    sources = λ j taken. sources_stay task m n returned_keeps j taken (s.sources j taken);
    backed = λ j taken. backed_stays task m n returned_keeps j taken (s.backed j taken);
    fresh = fresh;
    least = least;
  }
    where
      n : Machine
      n = happens task m (Returned k set)

      current : (x j : ℕ) → held_by (n.phase x) ≡ Some j → (j < n.tickets)
          × ((n.claim j).window ≡ x) × ((window_at task.plan x).last < n.arrived)
      current x j e =
          ⊎_elim
          (λ here.
          let c = s.current (m.claim k).window k (ap held_by may.running) in
          subst (λ i. (i < m.tickets) × ((n.claim i).window ≡ x)
          × ((window_at task.plan x).last < m.arrived)) (same_Some k j here.1) (
            c.0,
            returned_keeps.window k c.0 ∙ sym here.0,
            subst (λ y. (window_at task.plan y).last < m.arrived) (sym here.0) c.2,
          ))
          (λ old. let c = s.current x j old.1 in (c.0, returned_keeps.window j c.0 ∙ c.1, c.2))
          (set_cases (λ p. held_by p ≡ Some j) m.phase (m.claim k).window (Held k) x e)

      fresh : (x j : ℕ) → n.phase x ≡ Running j → IsNone (n.claim j).result
      fresh x j e =
          ⊎_elim
          (λ here. absurd (held_running here.1))
          (λ old.
          let c = s.current x j (ap held_by old.1) in
          ap (λ (d : Claim). is_some d.result) (set_other m.claim k _ j (λ same. old.0 (sym c.1
          ∙ ap (λ i. (m.claim i).window) same))) ∙ s.fresh x j old.1)
          (set_cases (λ p. p ≡ Running j) m.phase (m.claim k).window (Held k) x e)
        where
          held_running : Held k ≡ Running j → ⊥
          held_running h = cc

      least : (x j : ℕ) → standing (n.phase x) ≡ Some j → IsSome (n.claim j).result
          × IsLeastOver task n.value (n.claim j).window (n.claim j).links (result_of n j)
      least x j e =
          ⊎_elim
          (λ here.
          subst (λ i. IsSome (n.claim i).result × IsLeastOver task m.value (n.claim i).window
          (n.claim i).links (result_of n i)) (same_Some k j here.1)
          (subst (λ (c : Claim). IsSome c.result × IsLeastOver task m.value c.window c.links
          (unwrap_or c.result [])) (sym (set_same m.claim k _)) (refl, may.least)))
          (λ old. let c = s.current x j (standing_held (m.phase x) j old.1) in
          least_stays task m n returned_keeps m.value j c.0 (s.least x j old.1))
          (set_cases (λ p. standing p ≡ Some j) m.phase (m.claim k).window (Held k) x e)

-- ---- a stale result

module _ (task : Task) (m : Machine) (k : ℕ) (s : IsSound task m) where
  stale_keeps : KeepsClaims m (happens task m (Stale k))
  stale_keeps = record {
    more = omega arith;
    window = λ j taken. set_part (λ (c : Claim). c.window) m.claim k _ refl j;
    links = λ j taken. set_part (λ (c : Claim). c.links) m.claim k _ refl j;
    result = λ j taken has. set_part (λ (c : Claim). c.result) m.claim k _ refl j;
  }

  sound_stale : IsSound task (happens task m (Stale k))
  sound_stale = record {
    current = λ x j e. let c = s.current x j e in (c.0, stale_keeps.window j c.0 ∙ c.1, c.2);
    sources = λ j taken. sources_stay task m _ stale_keeps j taken (s.sources j taken);
    backed = λ j taken. backed_stays task m _ stale_keeps j taken (s.backed j taken);
    fresh = λ x j e. ap is_some (set_part (λ (c : Claim). c.result) m.claim k _ refl j)
        ∙ s.fresh x j e;
    least = λ x j e. let c = s.current x j (standing_held (m.phase x) j e) in
        least_stays task m _ stale_keeps m.value j c.0 (s.least x j e);
  }

-- ---- a verified guess

module _ (task : Task) (m : Machine) (x w : ℕ) (bits : List Bool)
    (may : Compares task m x w bits bits) (s : IsSound task m) where
  unfoldable pub verified : Machine
  verified = record m {
    claim = set_at m.claim may.own (record (m.claim may.own)
        { links = with_ticket x may.other (m.claim may.own).links });
  }

  verified_window : (j : ℕ) → (verified.claim j).window ≡ (m.claim j).window
  unfolding verified
  verified_window j = set_part (λ (c : Claim). c.window) m.claim may.own _ refl j

  pub verified_result : (j : ℕ) → (verified.claim j).result ≡ (m.claim j).result
  unfolding verified
  verified_result j = set_part (λ (c : Claim). c.result) m.claim may.own _ refl j

  pub verified_links : (j : ℕ) →
      ((j ≡ may.own) × ((verified.claim j).links ≡ with_ticket x may.other (m.claim may.own).links))
      ⊎ ((verified.claim j).links ≡ (m.claim j).links)
  unfolding verified
  verified_links j =
      ⊎_elim (λ e. inl (
        e,
        ap (λ i. (verified.claim i).links) e
            ∙ ap (λ (c : Claim). c.links) (set_same m.claim may.own _),
      ))
      (λ ne. inr (ap (λ (c : Claim). c.links) (set_other m.claim may.own _ j ne)))
      (cases_eq j may.own)

  sound_verified : IsSound task verified
  unfolding verified
  sound_verified = record {
    current = λ y j e. let c = s.current y j e in (c.0, verified_window j ∙ c.1, c.2);
    sources = sources;
    backed = backed;
    fresh = λ y j e. ap is_some (verified_result j) ∙ s.fresh y j e;
    least = least;
  }
    where
      sources : (j : ℕ) → j < m.tickets → sources_of (verified.claim j).links
          ≡ (window_at task.plan (verified.claim j).window).deps
      sources j taken =
          ⊎_elim
          (λ here. ap sources_of here.1 ∙ renamed_sources x may.other (m.claim may.own).links
          ∙ ap (λ i. sources_of (m.claim i).links) (sym here.0))
          (λ old. ap sources_of old)
          (verified_links j)
          ∙ s.sources j taken ∙ ap (λ y. (window_at task.plan y).deps) (sym (verified_window j))

      stays : (y : ℕ) (link : Link) → IsBacked task m y link → IsBacked task verified y link
      stays = results_stay task m verified (omega arith) (λ j taken has. verified_result j)

      named : IsBacked task m (m.claim may.own).window (record {
        source = x;
        origin = Ticket may.other;
        bits = bits;
      })
      named j e =
          let c = s.current w may.own (pending_held (m.phase w) may.own may.is_pending) in
          subst (λ i. (i < m.tickets) × IsSome (m.claim i).result × (bits ≡ flips_at task x
          (m.claim may.own).window (result_of m i))) (named_one may.other j e) (
            (s.current x may.other (standing_held (m.phase x) may.other may.is_standing)).0,
            (s.least x may.other may.is_standing).0,
            may.result ∙ ap (λ y. flips_at task x y (result_of m may.other)) (sym c.1),
          )

      backed : (j : ℕ) → j < m.tickets →
          All (IsBacked task verified (verified.claim j).window) (verified.claim j).links
      backed j taken =
          ⊎_elim
          (λ here.
          subst (λ links. All (IsBacked task verified (verified.claim j).window) links) (sym here.1)
          (subst (λ y. All (IsBacked task verified y) (with_ticket x may.other (m.claim
          may.own).links)) (ap (λ i. (m.claim i).window) (sym here.0) ∙ sym (verified_window j))
          (renamed_all (IsBacked task verified (m.claim may.own).window) x may.other _
          (m.claim may.own).links may.guessed (stays (m.claim may.own).window _ named)
          (All-weaker (IsBacked task m (m.claim may.own).window) (IsBacked task verified
          (m.claim may.own).window) (stays (m.claim may.own).window) (m.claim may.own).links
          (s.backed may.own (subst (λ i. i < m.tickets) here.0 taken))))))
          (λ old.
          subst (λ links. All (IsBacked task verified (verified.claim j).window) links) (sym old)
          (subst (λ y. All (IsBacked task verified y) (m.claim j).links) (sym (verified_window j))
          (All-weaker (IsBacked task m (m.claim j).window) (IsBacked task verified
          (m.claim j).window) (stays (m.claim j).window) (m.claim j).links (s.backed j taken))))
          (verified_links j)

      renamed_least : (value : ℕ → Bool) (y : ℕ) (links : List Link) (set : List ℕ) → IsLeastOver
          task value y links set → IsLeastOver task value y (with_ticket x may.other links) set
      renamed_least value y links set =
          least_same (ends_at task.graph) (weight_at task.graph) (window_at task.plan y).detectors
          (window_at task.plan y).edges _ _
          (λ v mem. ap (λ b. value v ⊕ b) (sym (renamed_parity (λ source bits'.
          bit_at (places task.graph task.plan source y) bits' v) x may.other links))) set

      least : (y j : ℕ) → standing (m.phase y) ≡ Some j → IsSome (verified.claim j).result
          × IsLeastOver task m.value (verified.claim j).window (verified.claim j).links
          (result_of verified j)
      least y j e =
          let old = s.least y j e in (
            subst IsSome (sym (verified_result j)) old.0,
            subst (λ z. IsLeastOver task m.value z (verified.claim j).links (result_of verified j))
                (sym (verified_window j))
                (subst (λ r. IsLeastOver task m.value (m.claim j).window (verified.claim j).links
                (unwrap_or r [])) (sym (verified_result j))
                (⊎_elim
                (λ here. subst (λ links. IsLeastOver task m.value (m.claim j).window links
                (result_of m j)) (ap (λ i. with_ticket x may.other (m.claim i).links) here.0
                ∙ sym here.1)
                (renamed_least m.value (m.claim j).window (m.claim j).links (result_of m j) old.1))
                (λ same. subst (λ links. IsLeastOver task m.value (m.claim j).window links
                (result_of m j)) (sym same) old.1)
                (verified_links j))),
          )

  pub verified_is : happens task m (Verified x w) ≡ verified
  unfolding verified
  verified_is = ap (λ o. confirm m x o (standing (m.phase x))) may.is_pending
      ∙ ap (λ o. confirm m x (Some may.own) o) may.is_standing

-- ---- a window given up

sound_given_up : (task : Task) (m : Machine) (w : ℕ) → IsSound task m → IsSound task (give_up m w)
sound_given_up task m w s = record {
  current = λ x j e. ⊎_elim (λ here. absurd (none-some j here.1)) (λ old. s.current x j old.1)
      (set_cases (λ p. held_by p ≡ Some j) m.phase w Waiting x e);
  sources = s.sources;
  backed = s.backed;
  fresh = λ x j e. ⊎_elim (λ here. absurd (waiting_running j here.1)) (λ old. s.fresh x j old.1)
      (set_cases (λ p. p ≡ Running j) m.phase w Waiting x e);
  least = λ x j e. ⊎_elim (λ here. absurd (none-some j here.1)) (λ old. s.least x j old.1)
      (set_cases (λ p. standing p ≡ Some j) m.phase w Waiting x e);
}
  where
    waiting_running : (j : ℕ) → Waiting ≡ Running j → ⊥
    waiting_running j h = cc

-- ---- a commit

sound_committed : (task : Task) (m : Machine) (k w : ℕ) → MayCommitTicket task m k w →
    IsSound task m → IsSound task (happens task m (Committed k w))
sound_committed task m k w may s = record {
  current = λ x j e. ⊎_elim
      (λ here.
      let c = s.current w k (ap held_by may.held) in
      subst (λ i. (i < m.tickets) × ((m.claim i).window ≡ x)
      × ((window_at task.plan x).last < m.arrived)) (same_Some k j here.1) (
        c.0,
        c.1 ∙ sym here.0,
        subst (λ y. (window_at task.plan y).last < m.arrived) (sym here.0)
            c.2,
      ))
      (λ old. s.current x j old.1) (set_cases (λ p. held_by p ≡ Some j) m.phase w (Done k) x e);
  sources = s.sources;
  backed = s.backed;
  fresh = λ x j e. ⊎_elim (λ here. absurd (done_running j here.1)) (λ old. s.fresh x j old.1)
      (set_cases (λ p. p ≡ Running j) m.phase w (Done k) x e);
  least = λ x j e. ⊎_elim
      (λ here. subst (λ i. IsSome (m.claim i).result
      × IsLeastOver task m.value (m.claim i).window (m.claim i).links (result_of m i))
      (same_Some k j here.1) (s.least w k (ap standing may.held)))
      (λ old. s.least x j old.1) (set_cases (λ p. standing p ≡ Some j) m.phase w (Done k) x e);
}
  where
    done_running : (j : ℕ) → Done k ≡ Running j → ⊥
    done_running j h = cc

-- ---- whole histories

pub sound_step : (task : Task) (retries : ℕ) → PlanLaws task.graph task.tags task.plan →
    (m : Machine) (event : Event) → IsSound task m → IsEnabled task retries m event →
    IsSound task (happens task m event)
sound_step task retries laws m (Arrived t values raws) s may =
    sound_arrived task laws m t values raws may.0.next s
sound_step task retries laws m (Claimed k w links) s may =
    sound_claimed task retries m k w links may s
sound_step task retries laws m (Returned k set) s may = sound_returned task m k set may s
sound_step task retries laws m (Stale k) s may = sound_stale task m k s
sound_step task retries laws m (Verified x w) s may = subst (IsSound task)
    (sym (verified_is task m x w may.0 may.1 s)) (sound_verified task m x w may.0 may.1 s)
sound_step task retries laws m (Poisoned x w) s may = sound_given_up task m w s
sound_step task retries laws m (Dropped w) s may = sound_given_up task m w s
sound_step task retries laws m (Committed k w) s may = sound_committed task m k w may s
sound_step task retries laws m (Released op bit) s may = record {
  current = s.current;
  sources = s.sources;
  backed = s.backed;
  fresh = s.fresh;
  least = s.least;
}

pub start_sound : (task : Task) → IsSound task start
start_sound task = record {
  current = λ w k e. absurd (none-some k e);
  sources = λ k taken. absurd (omega arith);
  backed = λ k taken. absurd (omega arith);
  fresh = λ w k e. absurd (waiting_running k e);
  least = λ w k e. absurd (none-some k e);
}
  where
    waiting_running : (k : ℕ) → Waiting ≡ Running k → ⊥
    waiting_running k e = cc

pub sound_all : (task : Task) (retries : ℕ) → PlanLaws task.graph task.tags task.plan →
    (m : Machine) (events : List Event) → IsSound task m → IsHistoryFrom task retries m events →
    IsSound task (happen_all task m events)
sound_all task retries laws m [] s h = s
sound_all task retries laws m (event ∷ events) s h = sound_all task retries laws
    (happens task m event) events (sound_step task retries laws m event s h.0) h.1

pub sound_law : SoundLaw
sound_law task retries events laws h = sound_all task retries laws start events (start_sound task) h
