-- A set of edges that joins two vertices weighs no less than a least walk between them.
use Rattle.std.proofs.Common.{◌≡◌, ◌≢◌, ℕ, suc, ◌+◌, ◌<◌, ◌≤◌, ◌==◌, ◌&&◌, Bool, true, false, cond, List, [], ◌∷◌, length, map, refl, sym, ap, ◌∙◌, arith, subst, ⊎_elim, ◌⊎◌, inl, inr, All, Contains, sum_by, get_or, eq-eqb, eqb-true}
use Rattle.std.specs.List.{range_with_len}
use Rattle.std.proofs.lemmas.Bool.{cases_eq, cases_order, ne_eqb, false≢true, and_left}
use Rattle.std.proofs.lemmas.List.FromFn.{get_or-map-range_with_len}
use Rattle.std.proofs.lemmas.List.Sums.{sum_by-cons}
use Rattle.graph_model.specs.Graph.{is_in}
use Rattle.graph_model.specs.Parity.{◌⊕◌, parity}
use Rattle.graph_model.specs.Problems.{Problem, meets, problem_weight}
use Rattle.graph_model.proofs.Members.{is_in_first, is_in_rest, is_in_cases, is_in-filter, is_in-range, is_in_range, is_in-Contains, All-at, parity-same_in}
use Rattle.graph_model.proofs.Parities.{parity-xor}
use Rattle.matching_model.specs.Matchings.{Link, ends, AreApart}
use Rattle.matching_model.specs.Certificates.{IsProblem, Walk, stay, IsDistance, free_end, has_defect, is_member, members, member_at}
use Rattle.matching_model.specs.Joins.{IsJoin}
use Rattle.matching_model.proofs.Rearranged.{parity_apart, not_in_rest, apart_range}
use Rattle.matching_model.proofs.Links.{AllJoin, Reduces, reduced}
use Rattle.matching_model.proofs.Parts.{number_of, LinksOf, links_of, walk_on, walk_back}
use Rattle.matching_model.proofs.WeakDuality.{ends_are, even_ends}

eq_turn : (a b : ℕ) → a == b ≡ b == a
eq_turn a b = ⊎_elim (λ e. eq-eqb a b e ∙ sym (eq-eqb b a (sym e))) (λ ne. ne_eqb a b ne
    ∙ sym (ne_eqb b a (λ e. ne (sym e)))) (cases_eq a b)

-- a link that ends at a vertex
link_at : (p : Problem) (ls : List Link) → AllJoin (Walk p) ls → AreApart (ends ls) → (u : ℕ) →
    is_in (ends ls) u ≡ true →
    (y : ℕ) × (n : ℕ) × Walk p u y n × (is_in (ends ls) y ≡ true) × (u ≢ y)
    × (n ≤ sum_by (λ (l : Link). l.cost) ls)
link_at p [] joined apart u m = absurd (false≢true m)
link_at p (l ∷ ls) joined apart u m =
    ⊎_elim (λ e. (
      l.two,
      l.cost,
      subst (λ x. Walk p x l.two l.cost) e joined.0,
      is_in_rest l.one
          l.two (l.two ∷ ends ls) (is_in_first l.two (ends ls)),
      (λ s. differ (e ∙ s)),
      few,
    ))
    (λ r. ⊎_elim (λ e. (
      l.one,
      l.cost,
      subst (λ x. Walk p x l.one l.cost) e (walk_back p joined.0),
      is_in_first l.one (l.two ∷ ends ls),
      (λ s. differ (sym (e ∙ s))),
      few,
    ))
    (λ n. later (link_at p ls joined.1 apart.1.1 u n)) (is_in_cases l.two u (ends ls) r))
    (is_in_cases l.one u (l.two ∷ ends ls) m)
  where
    total : sum_by (λ (k : Link). k.cost) (l ∷ ls) ≡ l.cost + sum_by (λ (k : Link). k.cost) ls
    total = sum_by-cons (λ (k : Link). k.cost) l ls

    few : l.cost ≤ sum_by (λ (k : Link). k.cost) (l ∷ ls)
    few = omega (arith, total)

    differ : l.one ≢ l.two
    differ e = (not_in_rest l.two l.one (ends ls) apart.0).0 (sym e)

    later : ((y : ℕ) × (n : ℕ) × Walk p u y n × (is_in (ends ls) y ≡ true) × (u ≢ y)
        × (n ≤ sum_by (λ (k : Link). k.cost) ls)) →
        (y : ℕ) × (n : ℕ) × Walk p u y n × (is_in (ends (l ∷ ls)) y ≡ true) × (u ≢ y)
        × (n ≤ sum_by (λ (k : Link). k.cost) (l ∷ ls))
    later k = (
      k.0,
      k.1,
      k.2,
      is_in_rest l.one k.0 (l.two ∷ ends ls)
          (is_in_rest l.two k.0 (ends ls) k.3),
      k.4,
      (let c = k.5 in omega (arith, total, c)),
    )

module _ (p : Problem) (u v : ℕ) (low : u ≤ free_end p) (low' : v ≤ free_end p) where
  -- the problem whose defects are the two
  abbrev two : Problem
  two = record p { defects = map (λ x. (x == u) ⊕ (x == v)) (range_with_len 0 (free_end p)) }

  defect_at : (x : ℕ) → x < free_end p → has_defect two x ≡ (x == u) ⊕ (x == v)
  defect_at x l = get_or-map-range_with_len (λ x. (x == u) ⊕ (x == v)) 0 (free_end p) x x false l
      (omega arith)

  all_parity : parity (has_defect two) (range_with_len 0 (free_end p))
      ≡ is_in (range_with_len 0 (free_end p)) u ⊕ is_in (range_with_len 0 (free_end p)) v
  all_parity =
      parity-same_in _ (λ x. (x == u) ⊕ (x == v)) (range_with_len 0 (free_end p)) (λ x m.
      let k = is_in-range 0 (free_end p) x m in defect_at x (omega (arith, k.1)))
      ∙ parity-xor (λ x. x == u) (λ x. x == v) (range_with_len 0 (free_end p))
      ∙ ap (λ b. b ⊕ parity (λ x. x == v) (range_with_len 0 (free_end p)))
      (parity_apart (range_with_len 0 (free_end p)) u (apart_range (free_end p)))
      ∙ ap (λ b. is_in (range_with_len 0 (free_end p)) u ⊕ b)
      (parity_apart (range_with_len 0 (free_end p)) v (apart_range (free_end p)))

  member_is : (x : ℕ) → x ≤ free_end p → is_in (members two) x ≡ (x == u) ⊕ (x == v)
  member_is x l =
      is_in-filter (is_member two) (range_with_len 0 (suc (free_end p))) x
      ∙ ap (λ b. b && is_member two x) (is_in_range 0 (suc (free_end p)) x (omega arith)
      (omega (arith, l)))
      ∙ ⊎_elim at_end (λ ne. ap (λ b. cond b (parity (has_defect two)
      (range_with_len 0 (free_end p))) (has_defect two x)) (ne_eqb x (free_end p) ne)
      ∙ defect_at x (omega (arith, l, ne))) (cases_eq x (free_end p))
    where
      in_below : (w : ℕ) → w ≤ free_end p → w ≢ free_end p → is_in (range_with_len 0 (free_end p)) w
          ≡ true
      in_below w m ne = is_in_range 0 (free_end p) w (omega arith) (omega (arith, m, ne))

      out_end : (w : ℕ) → w ≡ free_end p → is_in (range_with_len 0 (free_end p)) w ≡ false
      out_end w e = not_true (is_in (range_with_len 0 (free_end p)) w) (λ m.
          let k = is_in-range 0 (free_end p) w m in omega (arith, k.1, e))
        where
          not_true : (b : Bool) → (b ≡ true → ⊥) → b ≡ false
          not_true true h = absurd (h refl)
          not_true false h = refl

      is_at : (w : ℕ) → w ≤ free_end p → x ≡ free_end p → is_in (range_with_len 0 (free_end p)) w
          ≡ (x == w) ⊕ true
      is_at w m e = ⊎_elim (λ s. out_end w (sym s ∙ e)
          ∙ ap (λ b. b ⊕ true) (sym (eq-eqb x w s))) (λ ne. in_below w m (λ s. ne (e ∙ sym s))
          ∙ ap (λ b. b ⊕ true) (sym (ne_eqb x w ne))) (cases_eq x w)

      cancel : (a b : Bool) → (a ⊕ true) ⊕ (b ⊕ true) ≡ a ⊕ b
      cancel true true = refl
      cancel true false = refl
      cancel false true = refl
      cancel false false = refl

      at_end : x ≡ free_end p → is_member two x ≡ (x == u) ⊕ (x == v)
      at_end e =
          ap (λ b. cond b (parity (has_defect two) (range_with_len 0 (free_end p)))
          (has_defect two x)) (eq-eqb x (free_end p) e)
          ∙ all_parity ∙ ap (λ b. b ⊕ is_in (range_with_len 0 (free_end p)) v) (is_at u low e)
          ∙ ap (λ b. ((x == u) ⊕ true) ⊕ b) (is_at v low' e) ∙ cancel (x == u) (x == v)

  pub join_weight : IsProblem p → (d : ℕ) → IsDistance p u v d → (set : List ℕ) →
      ((e : ℕ) → is_in set e ≡ true → is_in (map number_of p.part.edges) e ≡ true) →
      ((x : ℕ) → x < free_end p → parity (meets p.part x) set ≡ (u == x) ⊕ (v == x)) →
      d ≤ sum_by (problem_weight p) set
  join_weight ok d dist set within odd =
      ⊎_elim same (λ ne. other ne (links_of p ok set within)) (cases_eq u v)
    where
      same : u ≡ v → d ≤ sum_by (problem_weight p) set
      same e = let z = dist.least 0 (subst (λ w. Walk p u w 0) e stay) in omega (arith, z)

      other : u ≢ v → ((ls : List Link) × LinksOf p set ls) → d ≤ sum_by (problem_weight p) set
      other ne ls = by_outs (reduced (Walk p) (λ u v n w. walk_back p w) (λ u v w m n a b.
          walk_on p a b) ls.0)
        where
          by_outs : ((outs : List Link) × Reduces (Walk p) ls.0 outs × AreApart (ends outs)) →
              d ≤ sum_by (problem_weight p) set
          by_outs outs = by_link (link_at p outs.0 (outs.1.joined ls.1.joined) outs.2 u (are u
              ∙ member_is u low ∙ ap (λ b. b ⊕ (u == v)) (eq-eqb u u refl)
              ∙ ap (λ b. true ⊕ b) (ne_eqb u v ne)))
            where
              reach : (x : ℕ) → is_in (ends outs.0) x ≡ true → x ≤ free_end p
              reach x m = ls.1.within x (outs.1.within x m)

              defects : (x : ℕ) → x < free_end p → is_in (ends outs.0) x ≡ has_defect two x
              defects x l =
                  sym (parity_apart (ends outs.0) x outs.2) ∙ outs.1.odd x ∙ ls.1.odd x l ∙ odd x l
                  ∙ ap (λ b. b ⊕ (v == x)) (eq_turn u x) ∙ ap (λ b. (x == u) ⊕ b) (eq_turn v x)
                  ∙ sym (defect_at x l)

              are : (x : ℕ) → is_in (ends outs.0) x ≡ is_in (members two) x
              are = ends_are two (ends outs.0) outs.2 (even_ends outs.0) reach defects

              by_link : ((y : ℕ) × (n : ℕ) × Walk p u y n × (is_in (ends outs.0) y ≡ true) × (u ≢ y)
                  × (n ≤ sum_by (λ (l : Link). l.cost) outs.0)) → d ≤ sum_by (problem_weight p) set
              by_link k =
                  let one : (k.0 == u) ⊕ (k.0 == v) ≡ true = sym (member_is k.0 (reach k.0 k.3))
                  ∙ sym (are k.0) ∙ k.3 in
                  let end : k.0 ≡ v = eqb-true k.0 v
                  (sym (ap (λ b. b ⊕ (k.0 == v)) (ne_eqb k.0 u (λ e. k.4 (sym e)))) ∙ one) in
                  let near = dist.least k.1 (subst (λ w. Walk p u w k.1) end k.2) in
                  let few = k.5 in
                  let less = outs.1.cost in
                  let total = ls.1.cost in
                  omega (arith, near, few, less, total)

-- the set of a walk weighs just what the walk does
pub join_weighs : (p : Problem) → IsProblem p → (i j d : ℕ) (set : List ℕ) →
    IsJoin p i j d set → member_at p i ≤ free_end p → member_at p j ≤ free_end p →
    IsDistance p (member_at p i) (member_at p j) d → sum_by (problem_weight p) set ≡ d
join_weighs p ok i j d set join low low' dist =
    let more = join_weight p (member_at p i) (member_at p j) low low' ok d dist set (λ e m.
    is_in-Contains (map number_of p.part.edges) e
    (All-at (Contains (map number_of p.part.edges)) set e join.within m)) join.odd in
    let less = join.cost in
    omega (arith, more, less)
