-- A nest of which a set has come apart.
use Rattle.std.proofs.Common.{◌≡◌, ℕ, ◌≤◌, ◌<◌, ◌-◌, Bool, true, false, List, [], ◌∷◌, get_or, length, set as set_at, refl, ap, ◌∙◌, arith, subst, ⊎_elim, ◌⊎◌, inl, inr}
use Rattle.std.specs.Prelude.{nat_lt}
use Rattle.std.proofs.lemmas.Bool.Decides.{nat_tests}
use Rattle.std.proofs.lemmas.Bool.{cases_eq, false≢true, false_from_ne_true}
use Rattle.std.proofs.lemmas.List.{get_or-set_same, get_or-set_other}
use Rattle.std.proofs.Math.ListN.{get_or-eq_default}
use Rattle.graph_model.specs.Graph.{is_in}
use Rattle.matching_model.specs.Matchings.{AreApart}
use Rattle.link_lists.specs.Lists.{IsApart}
use Rattle.shown_openings.specs.Opening.{ComesApart, IsTop, LiesIn, itself, deeper}
use Rattle.blossom_nest.specs.Nests.{IsExpanded, IsName, IsNest, IsOutermost, Nested, Rises, children_of, no_set, outermost, parent_of}
use Rattle.blossom_nest.proofs.Lists.{lacks_in}
use Rattle.blossom_forest.specs.Trees.{Forested}
use Rattle.forest_laws.specs.Keeping.{kept}
use Rattle.forest_laws.specs.Opening.{NestOpenedLaw, WritesInside, written_as}

-- a set with a child has a name
pub has_name : (s : Nested) (set c : ℕ) → IsNest s → s.vertices ≤ set →
    is_in (children_of s set) c ≡ true → IsName s set
has_name s set c nest from m = record {
  from = from;
  below = ⊎_elim (λ past. absurd (false≢true (subst (λ xs. is_in xs c ≡ true)
      (get_or-eq_default s.children [] {n = set - s.vertices}
      (let len : length s.children ≤ set - s.vertices =
      omega (arith, past, from, nest.children_len) in len)) m))) (λ low. low)
      (parted (nat_lt set (no_set s)) refl);
}
  where
    parted : (b : Bool) → nat_lt set (no_set s) ≡ b → (no_set s ≤ set) ⊎ (set < no_set s)
    parted true e = inr (grind (arith, nat_tests, e))
    parted false e = inl (grind (arith, nat_tests, e))

are_apart : (xs : List ℕ) → IsApart xs → AreApart xs
are_apart [] h = tt
are_apart (x ∷ xs) h =
    (false_from_ne_true (is_in xs x) (λ m. lacks_in x xs h.0 m), are_apart xs h.1)

module _ (s s' : Nested) (t t' : Forested) (set : ℕ) (nest : IsNest s) (nest' : IsNest s')
    (name : IsName s set) (outer : IsOutermost s set) (e : IsExpanded s set s') where
  -- an outermost set is no child
  no_child : (p c : ℕ) → IsName s p → is_in (children_of s p) c ≡ true →
      parent_of s c ≡ no_set s → ⊥
  no_child p c is m alone =
      let l = nest.listed p c is m in
      let below = is.below in
      let same = l.1 in
      omega (arith, same, alone, below)

  top_law : IsTop (kept s t) set
  top_law = record {
    alone = λ p c from m same. no_child p c (has_name s p c nest from m) m
        (ap (parent_of s) same ∙ outer.alone);
    inside = λ v low. false_from_ne_true (is_in (children_of s set) (outermost s v))
        (λ m. no_child set (outermost s v) name m (nest.tops v low).alone);
    apart = are_apart (children_of s set) (nest.apart set name);
  }

  -- the children of a name after it
  reads : (p : ℕ) → children_of s' p
      ≡ get_or (set_at s.children (set - s.vertices) []) (p - s.vertices) []
  reads p = ap (λ n. get_or s'.children (p - n) []) e.vertices
      ∙ ap (λ xs. get_or xs (p - s.vertices) []) e.children

  gone : (p : ℕ) → p ≡ set → children_of s' p ≡ []
  gone p same =
      let place : set - s.vertices < length s.children =
      (let from = name.from in let below = name.below in let len = nest.children_len in
      omega (arith, from, below, len)) in
      reads p ∙ ap (λ q. get_or (set_at s.children (set - s.vertices) []) (q - s.vertices) []) same
      ∙ get_or-set_same s.children (set - s.vertices) [] [] place

  stays : (p : ℕ) → s.vertices ≤ p → (p ≡ set → ⊥) → children_of s' p ≡ children_of s p
  stays p from ne =
      reads p ∙ get_or-set_other s.children (set - s.vertices) (p - s.vertices) [] []
      (λ z. let at = name.from in ne (omega (arith, z, at, from)))

  -- a parent after it is a parent before it
  still_child : (a p : ℕ) → a < no_set s' → parent_of s' a ≡ p → (p ≡ no_set s' → ⊥) →
      (s.vertices ≤ p) × (p < no_set s') × (is_in (children_of s p) a ≡ true)
  still_child a p low up there = (
    from_old,
    below,
    ⊎_elim
        (λ same. absurd (false≢true (subst (λ xs. is_in xs a ≡ true) (gone p same) found)))
        (λ ne. subst (λ xs. is_in xs a ≡ true) (stays p from_old ne) found) (cases_eq p set),
  )
    where
      from : s'.vertices ≤ p
      from = subst (λ q. s'.vertices ≤ q) up (nest'.parents a low).0

      below : p < no_set s'
      below = let high : p ≤ no_set s' = subst (λ q. q ≤ no_set s') up (nest'.parents a low).1 in
          omega (arith, high, there)

      from_old : s.vertices ≤ p
      from_old = let same = e.vertices in omega (arith, from, same)

      found : is_in (children_of s' p) a ≡ true
      found = nest'.found p a (record { from = from; below = below }) low up

  rises_lies : (v a : ℕ) (ps : List ℕ) (u : ℕ) → a < no_set s' →
      LiesIn s.vertices (children_of s) v a → Rises (parent_of s') (no_set s') a ps u →
      LiesIn s.vertices (children_of s) v u
  rises_lies v a [] u low lies r = subst (LiesIn s.vertices (children_of s) v) r lies
  rises_lies v a (p ∷ ps) u low lies r =
      let c = still_child a p low r.0 r.1 in
      rises_lies v p ps u c.1 (deeper a c.0 c.2 lies) r.2

  now_lies : (v : ℕ) → v < s.vertices →
      LiesIn s.vertices (children_of s) v (outermost s' v)
  now_lies v low =
      let same = e.vertices in
      let low' : v < s'.vertices = omega (arith, low, same) in
      let i = nest'.inside v low' in
      rises_lies v v i.0 (outermost s' v) (omega (arith, low')) (itself refl) i.1

  apart_law : WritesInside s set t t' → ComesApart (kept s t) set (written_as s' t')
  apart_law w = record {
    opened = λ v low same. (e.top v low same, now_lies v low);
    children = λ p from ne. stays p from ne;
    tops = λ v low ne. e.others v low ne;
    marks = w.marks;
    labels = w.labels;
    links = w.links;
  }

pub nest_opened_law : NestOpenedLaw
nest_opened_law s s' t t' set nest nest' name outer e w = (
  top_law s s' t t' set nest nest' name outer e,
  apart_law s s' t t' set nest nest' name outer e w,
)
