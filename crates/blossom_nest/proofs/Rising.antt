-- The way up from a vertex to its outermost set.
use Rattle.std.proofs.Common.{◌≡◌, ◌≢◌, ℕ, ◌<◌, ◌≤◌, List, [], ◌∷◌, ◌++◌, length, refl, sym, ◌∙◌, subst, arith, ap}
use Rattle.std.specs.List.{AllByRecursion}
use Rattle.link_lists.specs.Lists.{IsApart, Lacks}
use Rattle.link_lists.proofs.Chained.{count_le}
use Rattle.blossom_nest.specs.Nests.{Rises}
use Rattle.blossom_nest.specs.Kept.{Climbs, Leads, at}

module _ (up : ℕ → ℕ) (none : ℕ) where
  pub rises_more : (a : ℕ) (ps : List ℕ) (t p : ℕ) → Rises up none a ps t → up t ≡ p → p ≢ none →
      Rises up none a (ps ++ p ∷ []) p
  rises_more a [] t p r e d = (ap up r ∙ e, d, refl)
  rises_more a (q ∷ qs) t p r e d = (r.0, r.1, rises_more q qs t p r.2 e d)

  -- ways to a set without a parent are of one length
  one_length : (a : ℕ) (ps qs : List ℕ) (t : ℕ) → up t ≡ none → Rises up none a ps t →
      Rises up none a qs t → length ps ≡ length qs
  one_length a [] [] t e r s = refl
  one_length a [] (q ∷ qs) t e r s = absurd (s.1 (sym s.0 ∙ ap up r ∙ e))
  one_length a (p ∷ ps) [] t e r s = absurd (r.1 (sym r.0 ∙ ap up s ∙ e))
  one_length a (p ∷ ps) (q ∷ qs) t e r s =
      let same : q ≡ p = sym s.0 ∙ r.0 in
      let rest = one_length p ps qs t e r.2 (subst (λ z. Rises up none z qs t) same s.2) in
      omega (arith, rest)

  lacks : (a k t : ℕ) → ((qs : List ℕ) → Rises up none a qs t → length qs ≡ k) →
      (b : ℕ) (ps : List ℕ) → Rises up none b ps t → length ps ≤ k → Lacks a ps
  lacks a k t h b [] r l = tt
  lacks a k t h b (p ∷ ps) r l = (
    λ e. let is = h ps (subst (λ z. Rises up none z ps t) e r.2) in
        absurd (omega (arith, is, l)),
    lacks a k t h p ps r.2 (omega (arith, l)),
  )

  -- no set comes twice
  pub apart : (a : ℕ) (ps : List ℕ) (t : ℕ) → up t ≡ none → Rises up none a ps t → IsApart (a ∷ ps)
  apart a [] t e r = (tt, tt)
  apart a (p ∷ ps) t e r = (
    lacks a (length (p ∷ ps)) t (λ qs s. one_length a qs (p ∷ ps) t e s r) a
        (p ∷ ps) r (omega arith),
    apart p ps t e r.2,
  )

  -- a set without a parent is met only at the end
  pub avoids : (set a : ℕ) (ps : List ℕ) (t : ℕ) → up set ≡ none → t ≢ set → Rises up none a ps t →
      AllByRecursion (λ p. p ≢ set) ps
  avoids set a [] t e d r = tt
  avoids set a (p ∷ []) t e d r = (λ k. d (sym r.2 ∙ k), tt)
  avoids set a (p ∷ q ∷ qs) t e d r =
      (λ k. r.2.1 (sym r.2.0 ∙ ap up k ∙ e), avoids set p (q ∷ qs) t e d r.2)

  -- the same way by other parents
  pub kept_way : (up' : ℕ → ℕ) (n a : ℕ) (ps : List ℕ) (t : ℕ) → a < n → ((c : ℕ) → c < n →
      up c ≢ none → (up c < n) × (up' c ≡ up c)) → Rises up none a ps t → Rises up' none a ps t
  kept_way up' n a [] t low h r = r
  kept_way up' n a (p ∷ ps) t low h r =
      let k = h a low (λ e. r.1 (sym r.0 ∙ e)) in
      (k.1 ∙ r.0, r.1, kept_way up' n p ps t (subst (λ z. z < n) r.0 k.0) h r.2)

  pub kept_past : (up' : ℕ → ℕ) (n set a : ℕ) (ps : List ℕ) (t : ℕ) → a < n → AllByRecursion (λ p. p
      ≢ set) ps → ((c : ℕ) → c < n → up c ≢ none → up c ≢ set → (up c < n) × (up' c ≡ up c)) →
      Rises up none a ps t → Rises up' none a ps t
  kept_past up' n set a [] t low ds h r = r
  kept_past up' n set a (p ∷ ps) t low ds h r =
      let k = h a low (λ e. r.1 (sym r.0 ∙ e)) (λ e. ds.0 (sym r.0 ∙ e)) in
      (k.1 ∙ r.0, r.1, kept_past up' n set p ps t (subst (λ z. z < n) r.0 k.0) ds.1 h r.2)

  pub all_low : (n a : ℕ) (ps : List ℕ) (t : ℕ) → a < n → ((c : ℕ) → c < n → up c ≢ none →
      up c < n) → Rises up none a ps t → AllByRecursion (λ c. c < n) (a ∷ ps)
  all_low n a [] t low h r = (low, tt)
  all_low n a (p ∷ ps) t low h r =
      (low, all_low n p ps t (subst (λ z. z < n) r.0 (h a low (λ e. r.1 (sym r.0 ∙ e)))) h r.2)

climbs : (parent : List ℕ) (none a : ℕ) (ps : List ℕ) (t : ℕ) →
    AllByRecursion (λ c. c < length parent) (a ∷ ps) → Rises (at parent) none a ps t →
    Climbs parent a ps t
climbs parent none a [] t low r = r
climbs parent none a (p ∷ ps) t low r = (low.0, r.0, climbs parent none p ps t low.1 r.2)

-- and it is no longer than there are names
pub leads : (parent : List ℕ) (none a : ℕ) (ps : List ℕ) (t : ℕ) → a < length parent →
    a ≢ t → at parent t ≡ none → ((c : ℕ) → c < length parent → at parent c ≢ none →
    at parent c < length parent) → Rises (at parent) none a ps t
    → Leads parent a t
leads parent none a ps t low d e h r =
    let lows = all_low (at parent) none (length parent) a ps t low h r in
    let few = count_le (length parent) (a ∷ ps) (apart (at parent) none a ps t e r) lows in
    record {
      way = ps;
      climbs = climbs parent none a ps t lows r;
      short = omega (arith, few);
      apart = d;
    }

-- a way by sets other than `set` stays one where only its children lose their parent
pub risen : (parent : List ℕ) (up' : ℕ → ℕ) (none set a : ℕ) (ps : List ℕ) (t : ℕ) →
    t < none → length parent ≡ none → AllByRecursion (λ p. p ≢ set) ps →
    ((c : ℕ) → c < none → at parent c ≢ set → up' c ≡ at parent c) → Climbs parent a ps t
    → Rises up' none a ps t
risen parent up' none set a [] t low len ds h c = c
risen parent up' none set a (p ∷ ps) t low len ds h c = (
  h a (omega (arith, c.0, len)) (λ e. ds.0 (sym c.1 ∙ e)) ∙ c.1,
  λ e. absurd (omega (
    arith,
    e,
    low_of p ps c.2,
  )),
  risen parent up' none set p ps t low len ds.1 h c.2,
)
  where
    low_of : (b : ℕ) (qs : List ℕ) → Climbs parent b qs t → b < none
    low_of b [] k = omega (arith, k, low)
    low_of b (q ∷ qs) k = omega (arith, k.0, len)
