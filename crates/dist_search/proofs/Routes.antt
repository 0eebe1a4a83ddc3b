-- What a search has left at each vertex gives least walks from its start, through the free ends
-- where nothing is left.
use Rattle.std.proofs.Common.{◌≡◌, ℕ, suc, ◌+◌, ◌*◌, ◌<◌, ◌≤◌, ◌==◌, true, cond, List, [], ◌∷◌, ◌++◌, map, refl, sym, ap, ◌∙◌, arith, subst, ⊎_elim, ◌⊎◌, inl, inr, Contains, get_or}
use Rattle.std.proofs.lemmas.Bool.{cases_lt, lt-ltb, le-ltb}
use Rattle.std.proofs.lemmas.List.{get_or-map, length-map, append-nil}
use Rattle.std.proofs.lemmas.List.Elements.{Contains-get_or}
use Rattle.std.proofs.lemmas.List.Sums.{sum_by-append}
use Rattle.graph_model.specs.Graph.{is_in}
use Rattle.graph_model.specs.Parity.{◌⊕◌, parity}
use Rattle.graph_model.specs.Problems.{Problem, IsPart, meets, problem_weight}
use Rattle.graph_model.proofs.Members.{Contains-is_in, is_in_cases, is_in_first, is_in_rest}
use Rattle.graph_model.proofs.Parities.{xor-self, xor_middle, parity-append}
use Rattle.graph_model.proofs.PartEdges.{numbers_of}
use Rattle.matching_model.specs.Certificates.{Walk, IsDistance, free_end, member_at}
use Rattle.matching_model.specs.Matchings.{AreApart}
use Rattle.matching_model.specs.Joins.{IsJoin}
use Rattle.matching_model.proofs.Parts.{walk_on, walk_back}
use Rattle.matching_model.proofs.Places.{increasing_apart}
use Rattle.matching_model.proofs.Solvable.{connected}
use Rattle.matching_model.proofs.ShortWalks.{short_walk}
use Rattle.matching_model.proofs.Walks.{set_parity, set_weight, odd_in, all_by_member}
use Rattle.dist_search.specs.declared.star.Hop.{Hop}
use Rattle.dist_search.specs.declared.search.Step.{Step}
use Rattle.dist_search.specs.declared.homes.Route.{Route}
use Rattle.dist_search.specs.Hops.{AreReached, AreRelaxed, Extends, IsClose, Trail, Way, ended, most_distance, nearer}
use Rattle.dist_search.specs.Tables.{IsWay, IsRoute, IsOdd, AreHomes, AreNear, weight_between, route_between}
use Rattle.dist_search.proofs.Least.{trail_way, unreduced, below, walked}
use Rattle.dist_search.proofs.Ways.{way_kept}

module _ (p : Problem) where
  in_both : (xs ys : List ℕ) (e : ℕ) → is_in (xs ++ ys) e ≡ true → (is_in xs e ≡ true)
      ⊎ (is_in ys e ≡ true)
  in_both [] ys e m = inr m
  in_both (x ∷ xs) ys e m = ⊎_elim (λ s.
      inl (subst (λ z. is_in (x ∷ xs) z ≡ true) s (is_in_first x xs))) (λ r. ⊎_elim (λ a.
      inl (is_in_rest x e xs a)) (λ b. inr b) (in_both xs ys e r)) (is_in_cases x e (xs ++ ys) m)

  -- two walks from one vertex, joined
  way_joined : (f u v a b : ℕ) (one two : List ℕ) → IsWay p f u a one → IsWay p f v b two →
      IsWay p u v (a + b) (one ++ two)
  way_joined f u v a b one two first second = record {
    listed = λ e m. ⊎_elim (λ i. first.listed e i) (λ i. second.listed e i) (in_both one two e m);
    odd = λ x l.
        parity-append (meets p.part x) one two ∙ ap (λ c. c ⊕ parity (meets p.part x) two)
        (first.odd x l) ∙ ap (λ c. ((f == x) ⊕ (u == x)) ⊕ c) (second.odd x l)
        ∙ xor_middle (f == x) (u == x) (f == x) (v == x)
        ∙ ap (λ c. c ⊕ ((u == x) ⊕ (v == x))) (xor-self (f == x));
    weight = let s = first.weight in let t = second.weight in
        sum_by-append (problem_weight p) one two ∙ omega (arith, s, t);
  }

  module _ (part : IsPart p.part) where
    -- some walk between two vertices is not heavy
    pub light : (u v : ℕ) → u < suc (free_end p) → v < suc (free_end p) → (n : ℕ) × Walk p u v n
        × (n ≤ most_distance)
    light u v lu lv =
        let walk = connected p part u v (omega (arith, lu)) (omega (arith, lv)) in
        let short = short_walk p part walk.1 in
        let few = part.few_detectors in
        (short.0, short.1, omega (arith, short.3, few))

    -- ---- what a step leaves
    module _ (weights : List ℕ) (star : List Hop) (near : AreNear p weights star) (left : List ℕ)
        (relaxed : AreRelaxed star left) where
      pub close_at : (h : Hop) → Contains near.hops h → get_or left h.from 0 + get_or weights h.to 0
          ≤ get_or left h.to 0 + get_or weights h.from 0 + h.weight
      close_at h c =
          let e : get_or (map (nearer weights) near.hops) c.0 h ≡ nearer weights h =
          get_or-map (nearer weights) near.hops c.0 h h c.1 ∙ ap (nearer weights) c.2 in
          let has = subst (λ hs. Contains hs (nearer weights h)) (sym near.are) (subst (Contains
          (map (nearer weights) near.hops)) e (Contains-get_or (map (nearer weights) near.hops)
          c.0 h (omega (arith, c.1, length-map near.hops (nearer weights))))) in
          let r = relaxed h.from (nearer weights h) has refl in
          let k = subst (IsClose weights) c.2 (near.close c.0 h c.1) in
          let l = k.close in
          omega (arith, r, l)

    -- ---- from another vertex
    module _ (vertices weights home_ends : List ℕ) (home_steps steps : List Step)
        (homes : AreHomes p vertices weights home_ends home_steps) (more : Extends home_steps steps)
        (star : List Hop) (near : AreNear p weights star) (u : ℕ) (u_in : u < suc (free_end p))
        (u_has : Contains vertices u) (left ends : List ℕ)
        (are : AreReached star u (2 * get_or weights u 0) left ends steps)
        (relaxed : AreRelaxed star left) where
      bound_at : {v n : ℕ} → Walk p u v n → get_or weights u 0 + get_or weights v 0
          ≤ get_or left v 0 + n
      bound_at w =
          let k = below p part near.hops near.same (λ x. get_or left x 0) (λ x. get_or weights x 0)
          (close_at weights star near left relaxed) w in
          let s = are.start_left in omega (arith, k, s)

      -- a walk by the search's steps
      direct : (v : ℕ) → 0 < get_or left v 0 →
          (d : ℕ) × (way : List ℕ) × Trail near.hops steps u (get_or ends v 0) v d way
          × (d + get_or left v 0 ≡ get_or weights u 0 + get_or weights v 0)
      direct v some =
          let t = are.way v some in
          let r = unreduced weights near.hops near.close steps u
          (subst (λ hs. Trail hs steps u (get_or ends v 0) v t.0 t.1) near.are t.2) in
          let s = t.3 in let e = r.2 in
          (r.0, t.1, r.1, omega (arith, s, e))

      pub left_low : (v : ℕ) → get_or left v 0 ≤ get_or weights u 0 + get_or weights v 0
      left_low v = ⊎_elim (λ some. let s = (direct v some).3 in omega (arith, s)) (λ none.
          omega (arith, none)) (cases_lt 0 (get_or left v 0))

      record Found (v : ℕ) : Type 0 where
        walk : Walk p u v (weight_between weights left u v)
        route : IsRoute p steps u v (weight_between weights left u v)
            (route_between home_ends left ends u v)

      found : (v : ℕ) → v < suc (free_end p) → Contains vertices v → Found v
      found v low has = ⊎_elim by_steps by_home (cases_lt 0 (get_or left v 0))
        where
          routed : (r : Route) → r ≡ route_between home_ends left ends u v → (d : ℕ) →
              d ≡ weight_between weights left u v → Walk p u v d → IsRoute p steps u v d r → Found v
          routed r r_is d d_is walk route = record {
            walk = subst (Walk p u v) d_is walk;
            route =
                subst (IsRoute p steps u v (weight_between weights left u v)) r_is
                (subst (λ n. IsRoute p steps u v n r) d_is route);
          }

          by_steps : 0 < get_or left v 0 → Found v
          by_steps some =
              let t = direct v some in
              let s = t.3 in
              let w = walked p part near.hops near.same steps u t.2 in
              routed (record { first = get_or ends v 0; second = 0 })
              (sym (ap (λ b. cond b (record { first = get_or ends v 0; second = 0 })
              (record { first = get_or home_ends u 0; second = get_or home_ends v 0 }))
              (lt-ltb 0 (get_or left v 0) some)))
              t.0 (omega (arith, s)) w.walk
              (record {
                one = t.1;
                two = [];
                first = trail_way t.2;
                second = ended refl refl;
                between = subst (IsWay p u v t.0) (sym (append-nil t.1)) w.way;
              })

          by_home : get_or left v 0 ≤ 0 → Found v
          by_home none =
              let a = homes.way u u_has in
              let b = homes.way v has in
              routed (record { first = get_or home_ends u 0; second = get_or home_ends v 0 })
              (sym (ap (λ b. cond b (record { first = get_or ends v 0; second = 0 })
              (record { first = get_or home_ends u 0; second = get_or home_ends v 0 }))
              (le-ltb 0 (get_or left v 0) none)))
              (get_or weights u 0 + get_or weights v 0) (omega (arith, none))
              (walk_on p (walk_back p (homes.distance u u_in).walk) (homes.distance v low).walk)
              (record {
                one = a.0;
                two = b.0;
                first = way_kept home_steps steps more a.1;
                second = way_kept home_steps steps more b.1;
                between =
                    way_joined (free_end p) u v (get_or weights u 0) (get_or weights v 0) a.0 b.0
                    a.2 b.2;
              })

      pub distance_found : (v : ℕ) → v < suc (free_end p) → Contains vertices v →
          IsDistance p u v (weight_between weights left u v)
      distance_found v low has = record {
        walk = (found v low has).walk;
        least = λ n w. let b =
            bound_at w in omega (arith, b);
      }

      pub route_found : (v : ℕ) → v < suc (free_end p) → Contains vertices v →
          IsRoute p steps u v (weight_between weights left u v)
          (route_between home_ends left ends u v)
      route_found v low has = (found v low has).route

      pub found_low : (v : ℕ) → v < suc (free_end p) → Contains vertices v →
          weight_between weights left u v ≤ most_distance
      found_low v low has = let w = light u v u_in low in let k =
          (distance_found v low has).least w.0 w.1 in omega (arith, k, w.2)

    -- ---- the edges that lie on a walk an odd number of times
    pub join_of : (i j d : ℕ) (edges set : List ℕ) →
        IsWay p (member_at p i) (member_at p j) d edges → IsOdd edges set → IsJoin p i j d set
    join_of i j d edges set way so = record {
      within = all_by_member (Contains (numbers_of p.part.edges)) set (λ e m. Contains-is_in
          (numbers_of p.part.edges) e (way.listed e (odd_in edges e (sym (so.odd e) ∙ m))));
      odd = λ x l. set_parity (problem_weight p) (numbers_of p.part.edges) edges set apart set_apart
          way.listed so.odd (meets p.part x) ∙ way.odd x l;
      cost = let less = set_weight (problem_weight p) (numbers_of p.part.edges) edges set apart
          set_apart way.listed so.odd in let total = way.weight in omega (arith, less, total);
    }
      where
        apart : AreApart (numbers_of p.part.edges)
        apart = increasing_apart (numbers_of p.part.edges) part.ascending

        set_apart : AreApart set
        set_apart = increasing_apart set so.ascending

    pub joined : (steps : List Step) (i j d : ℕ) (route : Route) →
        IsRoute p steps (member_at p i) (member_at p j) d route → (set : List ℕ) →
        ((one two : List ℕ) → Way steps route.first one → Way steps route.second two →
        IsOdd (one ++ two) set) → IsJoin p i j d set
    joined steps i j d route r set so =
        join_of i j d (r.one ++ r.two) set r.between (so r.one r.two r.first r.second)
