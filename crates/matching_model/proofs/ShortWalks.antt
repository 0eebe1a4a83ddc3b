-- Walks without repeated vertices: each walk has one between its ends that weighs no more, and so
-- not much.
use Rattle.std.proofs.Common.{◌≡◌, ℕ, suc, ◌+◌, ◌*◌, ◌<◌, ◌≤◌, Bool, true, false, List, [], ◌∷◌, length, refl, sym, arith, subst, ⊎_elim, ◌⊎◌, inl, inr, Contains, eqb, eqb-true}
use Rattle.std.proofs.lemmas.Bool.{false≢true, ne_eqb}
use Rattle.std.specs.List.{AllByRecursion, IsDistinct}
use Rattle.std.proofs.lemmas.Map.Steps.{length-le_from_distinct_below}
use Rattle.graph_model.specs.Graph.{is_in}
use Rattle.graph_model.specs.Problems.{Problem, problem_weight, IsPart}
use Rattle.graph_model.specs.declared.PartEdge.{PartEdge}
use Rattle.graph_model.proofs.Members.{is_in_rest, is_in_cases, any_found}
use Rattle.matching_model.specs.Matchings.{AreApart}
use Rattle.matching_model.specs.Certificates.{IsProblem, Walk, stay, forth, back, free_end, far_end}
use Rattle.matching_model.proofs.Rearranged.{not_in_rest}
use Rattle.matching_model.proofs.Parts.{at_edge}
use Rattle.matching_model.proofs.Solvable.{part_is_problem, weight_low}

none_equal : (x : ℕ) (xs : List ℕ) → is_in xs x ≡ false → AllByRecursion (λ y. eqb x y ≡ false) xs
none_equal x [] out = tt
none_equal x (y ∷ ys) out = let k = not_in_rest y x ys out in
    (ne_eqb x y (λ e. k.0 (sym e)), none_equal x ys k.1)

distinct : (xs : List ℕ) → AreApart xs → IsDistinct eqb xs
unfolding IsDistinct
distinct [] apart = tt
distinct (x ∷ xs) apart = (none_equal x xs apart.0, distinct xs apart.1)

-- different numbers below n are at most n
pub apart_few : (xs : List ℕ) (n : ℕ) → AreApart xs → ((x : ℕ) → is_in xs x ≡ true → x < n) →
    length xs ≤ n
apart_few xs n apart low = length-le_from_distinct_below xs n (distinct xs apart) (λ q m.
    let k = any_found (λ y. eqb q y) xs m in let l = low k.0 k.1 in let e = eqb-true q k.0 k.2 in
    omega (arith, l, e))

module _ (p : Problem) where
  -- an edge leads from one vertex to another
  pub record Leads (u w k : ℕ) : Type 0 where
    pub edge : PartEdge
    pub listed : Contains p.part.edges edge
    pub weight : k ≡ problem_weight p edge.edge
    pub way : ((u ≡ edge.first) × (w ≡ far_end p edge)) ⊎ ((u ≡ far_end p edge) × (w ≡ edge.first))

  pub walk_step : (u w v k n : ℕ) → Leads u w k → Walk p w v n → Walk p u v (k + n)
  walk_step u w v k n step walk = by_way step.way
    where
      by_way : (((u ≡ step.edge.first) × (w ≡ far_end p step.edge))
          ⊎ ((u ≡ far_end p step.edge) × (w ≡ step.edge.first))) → Walk p u v (k + n)
      by_way (inl e) =
          subst (λ x. Walk p x v (k + n)) (sym e.0) (subst (λ x. Walk p step.edge.first v (x + n))
          (sym step.weight)
          (forth step.edge step.listed (subst (λ x. Walk p x v n) e.1 walk)))
      by_way (inr e) =
          subst (λ x. Walk p x v (k + n)) (sym e.0)
          (subst (λ x. Walk p (far_end p step.edge) v (x + n)) (sym step.weight)
          (back step.edge step.listed (subst (λ x. Walk p x v n) e.1 walk)))

  -- a walk by the vertices that it leaves
  data Along : List ℕ → ℕ → ℕ → ℕ → Type 0 where
    here : {u : ℕ} → Along [] u u 0
    on : {xs : List ℕ} {u w v k n : ℕ} → Leads u w k → Along xs w v n → Along (u ∷ xs) u v (k + n)

  walk_along : {xs : List ℕ} {u v n : ℕ} → Along xs u v n → Walk p u v n
  walk_along here = stay
  walk_along (on {u = u} {w = w} {v = v} {k = k} {n = n} step rest) =
      walk_step u w v k n step (walk_along rest)

  record Cut (u v n : ℕ) (xs ys : List ℕ) (m : ℕ) : Type 0 where
    way : Along ys u v m
    apart : AreApart ys
    within : (x : ℕ) → is_in ys x ≡ true → is_in xs x ≡ true
    less : m ≤ n

  abbrev Shorter : ℕ → ℕ → ℕ → List ℕ → Type 0
  Shorter u v n xs = (ys : List ℕ) × (m : ℕ) × Cut u v n xs ys m

  -- the rest of a walk from a vertex on it
  cut : {xs : List ℕ} {w v n : ℕ} (u : ℕ) → Along xs w v n → AreApart xs → is_in xs u ≡ true →
      Shorter u v n xs
  cut u here apart m = absurd (false≢true m)
  cut u (on {xs = xs} {u = x} {w = w} {v = v} {k = k} {n = n} step rest) apart m =
      ⊎_elim whole (λ r. later (cut u rest apart.1 r)) (is_in_cases x u xs m)
    where
      whole : x ≡ u → Shorter u v (k + n) (x ∷ xs)
      whole e = (
        x ∷ xs,
        k + n,
        record {
          way = subst (λ z. Along (x ∷ xs) z v (k + n)) e
              (on step rest);
          apart = apart;
          within = λ y i. i;
          less = omega arith;
        },
      )

      later : Shorter u v n xs → Shorter u v (k + n) (x ∷ xs)
      later c = (
        c.0,
        c.1,
        record {
          way = c.2.way;
          apart = c.2.apart;
          within = λ y i.
              is_in_rest x y xs (c.2.within y i);
          less = let l = c.2.less in omega (arith, l);
        },
      )

  record Simple (u v n : ℕ) (ys : List ℕ) (m : ℕ) : Type 0 where
    way : Along ys u v m
    apart : AreApart ys
    less : m ≤ n

  simple_step : (u w v k n : ℕ) → Leads u w k → ((ys : List ℕ) × (m : ℕ) × Simple w v n ys m) →
      (ys : List ℕ) × (m : ℕ) × Simple u v (k + n) ys m
  simple_step u w v k n step c = by_test (is_in c.0 u) refl
    where
      by_test : (b : Bool) → is_in c.0 u ≡ b → (ys : List ℕ) × (m : ℕ) × Simple u v (k + n) ys m
      by_test true e = let s = cut u c.2.way c.2.apart e in (
        s.0,
        s.1,
        record {
          way = s.2.way;
          apart = s.2.apart;
          less = let a = s.2.less in let b = c.2.less in omega (arith, a, b);
        },
      )
      by_test false e = (
        u ∷ c.0,
        k + c.1,
        record {
          way = on step c.2.way;
          apart = (e, c.2.apart);
          less = let b = c.2.less in omega (arith, b);
        },
      )

  simple : {u v n : ℕ} → Walk p u v n → (ys : List ℕ) × (m : ℕ) × Simple u v n ys m
  simple stay = ([], 0, record { way = here; apart = tt; less = omega arith })
  simple (forth {v = v} {n = n} edge c rest) =
      simple_step edge.first (far_end p edge) v (problem_weight p edge.edge) n (record {
        edge = edge;
        listed = c;
        weight = refl;
        way = inl (refl, refl);
      }) (simple rest)
  simple (back {v = v} {n = n} edge c rest) =
      simple_step (far_end p edge) edge.first v (problem_weight p edge.edge) n (record {
        edge = edge;
        listed = c;
        weight = refl;
        way = inr (refl, refl);
      }) (simple rest)

  module _ (part : IsPart p.part) where
    from_low : (u w k : ℕ) → Leads u w k → u < suc (free_end p)
    from_low u w k step = by_way step.way
      where
        ok : IsProblem p
        ok = part_is_problem p part

        by_way : (((u ≡ step.edge.first) × (w ≡ far_end p step.edge))
            ⊎ ((u ≡ far_end p step.edge) × (w ≡ step.edge.first))) → u < suc (free_end p)
        by_way (inl e) = let f = at_edge p (λ d. d.first < free_end p) ok.first_in step.edge
            step.listed in let s = e.0 in omega (arith, f, s)
        by_way (inr e) = let f = at_edge p (λ d. far_end p d ≤ free_end p) ok.second_in step.edge
            step.listed in let s = e.0 in omega (arith, f, s)

    along_low : {xs : List ℕ} {u v n : ℕ} → Along xs u v n → (x : ℕ) → is_in xs x ≡ true →
        x < suc (free_end p)
    along_low here x m = absurd (false≢true m)
    along_low (on {xs = xs} {u = u} {w = w} {k = k} step rest) x m =
        ⊎_elim (λ e. subst (λ z. z < suc (free_end p)) e (from_low u w k step)) (λ r.
        along_low rest x r) (is_in_cases u x xs m)

    along_weight : {xs : List ℕ} {u v n : ℕ} → Along xs u v n → n ≤ 1000 * length xs
    along_weight here = omega arith
    along_weight (on step rest) =
        let l = along_weight rest in let w = weight_low p part step.edge step.listed in
        let e = step.weight in omega (arith, l, w, e)

    -- as light, and not heavy
    pub short_walk : {u v n : ℕ} → Walk p u v n → (m : ℕ) × Walk p u v m × (m ≤ n)
        × (m ≤ 1000 * suc (free_end p))
    short_walk walk =
        let s = simple walk in
        let few = apart_few s.0 (suc (free_end p)) s.2.apart (along_low s.2.way) in
        let w = along_weight s.2.way in
        (s.1, walk_along s.2.way, s.2.less, omega (arith, few, w))
