-- At the end of a search the vertices with their mates are a perfect matching.
use Rattle.std.proofs.Common.{◌≡◌, ℕ, ◌<◌, Bool, true, false, cond, List, [], ◌∷◌, map, filter, nat_lt, refl, sym, ap, ◌∙◌, arith, subst, ◌⊎◌, inl, inr, ltb-true}
use Rattle.std.specs.Prelude.{ℤ, pos, ◌+ℤ◌}
use Rattle.std.specs.List.{range_with_len}
use Rattle.std.proofs.lemmas.Int.{ints}
use Rattle.std.proofs.lemmas.Bool.{cases_order, false_from_ne_true, lt-ltb, true≢false}
use Rattle.graph_model.specs.Graph.{is_in}
use Rattle.graph_model.proofs.Members.{is_in_first}
use Rattle.matching_model.specs.Sums.{int_sum_by, counted}
use Rattle.matching_model.specs.Matchings.{AreApart, pair_ends, matching_cost}
use Rattle.matching_model.specs.Numbers.{Covers}
use Rattle.matching_model.specs.Blossoms.{Blossom, members, side_members, side_inner, sides, ring_of, AreSlack, IsFine}
use Rattle.matching_model.specs.Forests.{AreMates as ArePaired, Mate, Measure, of, mate_sum, search_sum, crossing, summed}
use Rattle.matching_model.proofs.IntSums.{int_sum_by-cons, int_sum_by-pos}
use Rattle.matching_model.proofs.Crossed.{apart_append}
use Rattle.matching_model.proofs.Ending.{covers_apart, covers_all, covers_low, end_dual, end_whole}
use Rattle.matching_model.proofs.Exposed.{ends_sum, ends_sum-cons, chain_inner}
use Rattle.matching_model.proofs.Slacks.{members_ring, sides_ring, summed_ring, sums_slack}
use Rattle.matching_model.proofs.Walks.{all_by_member}
use Rattle.matching_ends.specs.Mated.{AreMates, AreMated, sides_of, mated_pairs, MateLaw}
use Rattle.matching_ends.proofs.Leaving.{EachMated, Paired, exposed, pair_up}

-- ---- the pairs of all matched sets
module _ (dist : ℕ → ℕ → ℕ) where
  sides_sum : (m : Measure) (ps : List Mate) → int_sum_by (of m) (sides_of ps)
      ≡ int_sum_by (mate_sum m) ps
  sides_sum m [] = refl
  sides_sum m (p ∷ ps) =
      let a = sides_sum m ps in omega (
        arith,
        ints,
        a,
        int_sum_by-cons (of m) p.one (p.two ∷ sides_of ps),
        int_sum_by-cons (of m) p.two (sides_of ps),
        int_sum_by-cons (mate_sum m) p ps,
      )

  fine_sides : (ps : List Mate) → ArePaired dist ps → IsFine dist false (ring_of (sides_of ps))
  fine_sides [] h = tt
  fine_sides (p ∷ ps) h = (h.0.0.0, h.0.0.1, (h.0.1.0, h.0.1.1, fine_sides ps h.1))

  all_pairs : ((u v : ℕ) → dist u v ≡ dist v u) → (mate : ℕ → ℕ) (ps : List Mate) →
      ArePaired dist ps → AreMated mate ps →
      AreApart (side_members (sides_of ps)) → Paired mate dist (sides_of ps)
  all_pairs turn mate [] h mated apart = record {
    pairs = [];
    covered = λ f. refl;
    tight = refl;
    mated = tt;
  }
  all_pairs turn mate (p ∷ ps) h mated apart =
      let a = apart_append (members p.one.body) (side_members (p.two ∷ sides_of ps)) apart in
      let b = apart_append (members p.two.body) (side_members (sides_of ps)) a.1 in
      pair_up mate dist p.one p.two p.at_one p.at_two mated.0.0
      (exposed mate dist turn p.one.body p.at_one mated.0.1 h.0.0.0 a.0)
      (exposed mate dist turn p.two.body p.at_two mated.0.2 h.0.1.0 b.0)
      h.0.2 (sides_of ps) (all_pairs turn mate ps h.1 mated.1 b.1)

not_less : (a b : ℕ) → b < a → nat_lt a b ≡ false
not_less a b l = false_from_ne_true (nat_lt a b) (λ e. let k = ltb-true a b e in
    omega (arith, k, l))

pub sum_filter : (p : ℕ → Bool) (g : ℕ → ℤ) (vs : List ℕ) →
    int_sum_by g (filter p vs) ≡ int_sum_by (λ v. counted (p v) (g v)) vs
sum_filter p g [] = refl
sum_filter p g (v ∷ vs) = by_test (p v) (sum_filter p g vs)
    ∙ sym (int_sum_by-cons (λ v. counted (p v) (g v)) v vs)
  where
    by_test : (b : Bool) → int_sum_by g (filter p vs) ≡ int_sum_by (λ v. counted (p v) (g v)) vs →
        int_sum_by g (cond b (v ∷ filter p vs) (filter p vs))
        ≡ counted b (g v) +ℤ int_sum_by (λ v. counted (p v) (g v)) vs
    by_test true k = let c = int_sum_by-cons g v (filter p vs) in omega (arith, ints, k, c)
    by_test false k = omega (arith, ints, k)

-- ---- each pair by its lower vertex
module _ (mate : ℕ → ℕ) where
  abbrev is_low : ℕ → Bool
  is_low v = nat_lt v (mate v)

  pair_sum_map : (f : ℕ → ℤ) (vs : List ℕ) → ends_sum f (map (λ v. (v, mate v)) vs)
      ≡ int_sum_by (λ v. f v +ℤ f (mate v)) vs
  pair_sum_map f [] = refl
  pair_sum_map f (v ∷ vs) =
      let k = pair_sum_map f vs in omega (
        arith,
        ints,
        k,
        ends_sum-cons f (v, mate v) (map (λ v. (v, mate v)) vs),
        int_sum_by-cons (λ v. f v +ℤ f (mate v)) v vs,
      )

  cost_map : (dist : ℕ → ℕ → ℕ) (vs : List ℕ) →
      pos (matching_cost dist (map (λ v. (v, mate v)) vs))
      ≡ int_sum_by (λ v. pos (dist v (mate v))) vs
  cost_map dist [] = refl
  cost_map dist (v ∷ vs) =
      let k = cost_map dist vs in
      let a = sym (int_sum_by-pos (λ (q : ℕ × ℕ). dist q.0 q.1)
      ((v, mate v) ∷ map (λ v. (v, mate v)) vs)) in
      let b = int_sum_by-cons (λ (q : ℕ × ℕ). pos (dist q.0 q.1)) (
        v,
        mate v,
      ) (map (λ v. (v, mate v)) vs) in
      let c = int_sum_by-pos (λ (q : ℕ × ℕ). dist q.0 q.1) (map (λ v. (v, mate v)) vs) in
      omega (arith, ints, k, a, b, c, int_sum_by-cons (λ v. pos (dist v (mate v))) v vs)

  -- two mates are counted once, at the lower one
  module _ (g : ℕ → ℕ → ℤ) (same : (u w : ℕ) → g u w ≡ g w u) where
    abbrev at_low : ℕ → ℤ
    at_low v = counted (is_low v) (g v (mate v))

    one_low : (u w : ℕ) → AreMates mate u w → (u ≡ w → ⊥) → at_low u +ℤ at_low w ≡ g u w
    one_low u w mates ne =
        let a : at_low u ≡ counted (nat_lt u w) (g u w) =
        ap (λ z. counted (nat_lt u z) (g u z)) mates.0 in
        let b : at_low w ≡ counted (nat_lt w u) (g w u) =
        ap (λ z. counted (nat_lt w z) (g w z)) mates.1 in
        let c = by_order (cases_order u w) in
        omega (arith, ints, a, b, c)
      where
        by_order : ((u ≡ w) ⊎ ((u < w) ⊎ (w < u))) → counted (nat_lt u w) (g u w) +ℤ counted
            (nat_lt w u) (g w u) ≡ g u w
        by_order (inl e) = absurd (ne e)
        by_order (inr (inl l)) =
            let a : nat_lt u w ≡ true = lt-ltb u w l in
            let b : nat_lt w u ≡ false = not_less w u l in
            let x : counted (nat_lt u w) (g u w) ≡ g u w = ap (λ t. counted t (g u w)) a in
            let y : counted (nat_lt w u) (g w u) ≡ pos 0 = ap (λ t. counted t (g w u)) b in
            omega (arith, ints, x, y)
        by_order (inr (inr l)) =
            let a : nat_lt w u ≡ true = lt-ltb w u l in
            let b : nat_lt u w ≡ false = not_less u w l in
            let x : counted (nat_lt w u) (g w u) ≡ g w u = ap (λ t. counted t (g w u)) a in
            let y : counted (nat_lt u w) (g u w) ≡ pos 0 = ap (λ t. counted t (g u w)) b in
            let z = same u w in
            omega (arith, ints, x, y, z)

    each_once : (pairs : List (ℕ × ℕ)) → EachMated mate pairs → AreApart (pair_ends pairs) →
        ends_sum at_low pairs ≡ int_sum_by (λ (p : ℕ × ℕ). g p.0 p.1) pairs
    each_once [] mated apart = refl
    each_once (p ∷ pairs) mated apart =
        let k = each_once pairs mated.1 apart.1.1 in
        let one = one_low p.0 p.1 mated.0 (λ e. true≢false (sym (is_in_first p.0 (pair_ends pairs))
        ∙ ap (λ z. is_in (z ∷ pair_ends pairs) p.0) e ∙ apart.0)) in
        omega (
          arith,
          ints,
          k,
          one,
          ends_sum-cons at_low p pairs,
          int_sum_by-cons (λ (p : ℕ × ℕ). g p.0 p.1) p pairs,
        )

pub mate_law : MateLaw
mate_law dist turn n mates h mate mated = (
  record {
    apart = covers_apart n (pair_ends found) covered;
    within = all_by_member (λ i. i < n) (pair_ends found) (covers_low n (pair_ends found) covered);
    covers = covers_all n (pair_ends found) covered;
  },
  end_dual n dist turn r fine slack covers,
  (let a = end_whole n dist turn r fine slack covers in
      let b = chain_inner dist r fine ∙ ap side_inner (sides_ring (sides_of mates)) in
      let c = k.tight in
      let d = cost_same in
      omega (arith, ints, a, b, c, d)),
)
  where
    r : Blossom
    r = ring_of (sides_of mates)

    found : List (ℕ × ℕ)
    found = mated_pairs n mate

    fine : IsFine dist false r
    fine = fine_sides dist mates h.mates

    same : (m : Measure) → int_sum_by (of m) (sides_of mates)
        ≡ search_sum m (record { trees = []; mates = mates })
    same m = let e = sides_sum dist m mates in omega (arith, ints, e)

    covers_sides : (f : ℕ → ℤ) → int_sum_by (of (summed f)) (sides_of mates)
        ≡ int_sum_by f (range_with_len 0 n)
    covers_sides f = same (summed f) ∙ h.covers f

    side_covers : Covers n (side_members (sides_of mates))
    side_covers f = summed_ring (sides_of mates) f ∙ covers_sides f

    covers : Covers n (members r)
    covers f = ap (int_sum_by f) (members_ring (sides_of mates)) ∙ side_covers f

    slack : AreSlack dist (sides r)
    slack = subst (AreSlack dist) (sym (sides_ring (sides_of mates)))
        (sums_slack dist n (sides_of mates) covers_sides
        (λ u v ne lu lv. let a = h.slack u v ne lu lv in let e = same (crossing u v) in
        omega (arith, ints, a, e)))

    k : Paired mate dist (sides_of mates)
    k = all_pairs dist turn mate mates h.mates mated
        (covers_apart n (side_members (sides_of mates)) side_covers)

    pairs_cover : Covers n (pair_ends k.pairs)
    pairs_cover f = k.covered f ∙ side_covers f

    apart : AreApart (pair_ends k.pairs)
    apart = covers_apart n (pair_ends k.pairs) pairs_cover

    ends_pairs : (f : ℕ → ℤ) (ps : List (ℕ × ℕ)) →
        int_sum_by (λ (p : ℕ × ℕ). f p.0 +ℤ f p.1) ps ≡ ends_sum f ps
    ends_pairs f [] = refl
    ends_pairs f (p ∷ ps) = let e = ends_pairs f ps in
        omega (
          arith,
          ints,
          e,
          ends_sum-cons f p ps,
          int_sum_by-cons
              (λ (p : ℕ × ℕ). f p.0 +ℤ f p.1) p ps,
        )

    covered : Covers n (pair_ends found)
    covered f =
        pair_sum_map mate f (filter (λ v. nat_lt v (mate v)) (range_with_len 0 n))
        ∙ sum_filter (λ v. nat_lt v (mate v)) (λ v. f v +ℤ f (mate v)) (range_with_len 0 n)
        ∙ sym (pairs_cover (λ v. counted (nat_lt v (mate v)) (f v +ℤ f (mate v))))
        ∙ each_once mate (λ u w. f u +ℤ f w) (λ u w. omega (arith, ints)) k.pairs k.mated apart
        ∙ ends_pairs f k.pairs
        ∙ pairs_cover f

    cost_same : pos (matching_cost dist found) ≡ pos (matching_cost dist k.pairs)
    cost_same =
        cost_map mate dist (filter (λ v. nat_lt v (mate v)) (range_with_len 0 n))
        ∙ sum_filter (λ v. nat_lt v (mate v)) (λ v. pos (dist v (mate v))) (range_with_len 0 n)
        ∙ sym (pairs_cover (λ v. counted (nat_lt v (mate v)) (pos (dist v (mate v)))))
        ∙ each_once mate (λ u w. pos (dist u w)) (λ u w. ap pos (turn u w)) k.pairs k.mated apart
        ∙ int_sum_by-pos (λ (q : ℕ × ℕ). dist q.0 q.1) k.pairs
