-- Ways to the free ends, by the weights that a part has.
use Rattle.std.proofs.Common.{◌≡◌, ◌≢◌, ℕ, suc, ◌+◌, ◌-◌, ◌<◌, ◌≤◌, ◌==◌, List, length, map, All, Contains, get_or, set, refl, sym, ap, ◌∙◌, arith, subst, ⊎_elim}
use Rattle.std.proofs.lemmas.Bool.{cases_eq}
use Rattle.std.proofs.lemmas.List.{get_or_default, get_or-map, get_or-set_other, get_or-set_same, length-map}
use Rattle.std.proofs.lemmas.List.Elements.{All-from_get_or, Contains-get_or}
use Rattle.std.proofs.lemmas.Option.{slice_get_read}
use Rattle.graph_model.specs.Problems.{Problem, IsPart, problem_weight}
use Rattle.graph_model.specs.declared.PartEdge.{PartEdge}
use Rattle.graph_model.proofs.Parities.{xor_comm}
use Rattle.graph_model.proofs.PartEdges.{problem_weight_at}
use Rattle.matching_model.specs.Certificates.{IsDistance, Walk, back as back_by, far_end, forth as forth_by, free_end, stay}
use Rattle.matching_model.proofs.Parts.{walk_back}
use Rattle.detector_graph.specs.Steps.{AreHomes as AreWeights, LeadsHome, back, forth, home}
use Rattle.dist_search.specs.declared.star.Hop.{Hop}
use Rattle.dist_search.specs.declared.search.Step.{Step}
use Rattle.dist_search.specs.declared.star.Sense.TheVariants.{Homeward}
use Rattle.dist_search.specs.Hops.{IsStarIn, AreEnds, AreReached, AreRelaxed, AreSame, Extends, Hops, IsClose, IsHomeward, Trail, Way, hops_from, most_distance, nearer, nears_of}
use Rattle.dist_search.specs.Tables.{AreHomes, AreNear, IsWay}
use Rattle.dist_search.proofs.Least.{IsHopOf, below, hop_of, hops_fit, trail_way, unreduced, walked}
use Rattle.dist_search.proofs.Routes.{close_at, light}
use Rattle.dist_search.proofs.Searching.{trail_kept}

module _ (p : Problem) (part : IsPart p.part) (ws : List ℕ)
    (are : AreWeights (free_end p) p.part.edges ws) where
  same : AreSame (hops_from p p.part.edges) (hops_from p p.part.edges)
  same = record { only = λ h c. c; every = λ h c. c }

  weight_is : (edge : PartEdge) → Contains p.part.edges edge → problem_weight p edge.edge
      ≡ edge.weight
  weight_is edge c = problem_weight_at p part.ascending c.0 edge
      (slice_get_read p.part.edges (length p.part.edges) c.0 edge refl c.1 (sym c.2))

  led_walk : {v d : ℕ} → LeadsHome (free_end p) p.part.edges v d → Walk p v (free_end p) d
  led_walk home = stay
  led_walk (forth {n = n} edge c rest) =
      subst (λ w. Walk p edge.first (free_end p) (w + n)) (weight_is edge c)
      (forth_by edge c (led_walk rest))
  led_walk (back {n = n} edge c rest) =
      subst (λ w. Walk p (far_end p edge) (free_end p) (w + n)) (weight_is edge c)
      (back_by edge c (led_walk rest))

  -- no step leads nearer by more than it weighs, nor farther
  near_hop : (h : Hop) → IsHopOf p p.part.edges h →
      (get_or ws h.to 0 ≤ get_or ws h.from 0 + h.weight)
      × (get_or ws h.from 0 ≤ get_or ws h.to 0 + h.weight)
  near_hop h s =
      let c = s.listed in
      let close = subst (λ (e : PartEdge). (get_or ws e.first 0
      ≤ get_or ws (far_end p e) 0 + e.weight) ×
      (get_or ws (far_end p e) 0 ≤ get_or ws e.first 0 + e.weight)) c.2
      (let k = are.close c.0 s.edge c.1 in (k.first, k.far)) in
      let w = s.weight in
      let same_weight = weight_is s.edge c in
      let a = close.0 in
      let b = close.1 in
      ⊎_elim
      (λ e. let from = ap (λ v. get_or ws v 0) e.0 in let to = ap (λ v. get_or ws v 0) e.1 in
      (omega (arith, b, from, to, w, same_weight), omega (arith, a, from, to, w, same_weight)))
      (λ e. let from = ap (λ v. get_or ws v 0) e.0 in let to = ap (λ v. get_or ws v 0) e.1 in
      (omega (arith, a, from, to, w, same_weight), omega (arith, b, from, to, w, same_weight)))
      s.way

  bound : {v n : ℕ} → Walk p v (free_end p) n → get_or ws v 0 ≤ n
  bound w =
      let k = below p part (hops_from p p.part.edges) same (λ u. get_or ws u 0) (λ u. 0)
      (λ h c. let r = (near_hop h (hop_of p p.part.edges h c)).1 in omega (arith, r)) w in
      let z = are.led.end_ in
      omega (arith, k, z)

  home_low : (v : ℕ) → v < suc (free_end p) → get_or ws v 0 ≤ most_distance
  home_low v l = let w = light p part v (free_end p) l (omega arith) in let b = bound w.1 in
      omega (arith, b, w.2)

  pub homes_low : All (λ d. d ≤ most_distance) ws
  homes_low = All-from_get_or (λ d. d ≤ most_distance) ws 0
      (λ v l. home_low v (let n = are.led.count in omega (arith, l, n)))

  home_walk : (v : ℕ) → v < suc (free_end p) → Walk p v (free_end p) (get_or ws v 0)
  home_walk v l = ⊎_elim (λ e. let low = home_low v l in absurd (omega (arith, e, low)))
      (λ led. led_walk led) (are.led.led v l)

  home_distance : (v : ℕ) → v < suc (free_end p) → IsDistance p (free_end p) v (get_or ws v 0)
  home_distance v l = record {
    walk = walk_back p (home_walk v l);
    least = λ n w. bound (walk_back p w);
  }

  pub homes_close : All (IsClose ws) (hops_from p p.part.edges)
  homes_close k d l =
      let h = get_or (hops_from p p.part.edges) k d in
      record {
        light = (hops_fit p part k d l).1;
        close =
            (near_hop h (hop_of p p.part.edges h (Contains-get_or (hops_from p p.part.edges) k d
            l))).0;
      }

  -- ---- by how much the weights are below the greatest possible
  near_at : (v : ℕ) → v < suc (free_end p) →
      get_or (nears_of ws) v 0 + get_or ws v 0 ≡ most_distance
  near_at v l =
      let n = are.led.count in
      let e = get_or-map (λ d. most_distance - d) ws v 0 0 (omega (arith, l, n)) in
      let low = home_low v l in
      omega (arith, e, low)

  pub nears_low : All (λ d. d ≤ most_distance) (nears_of ws)
  nears_low = All-from_get_or (λ d. d ≤ most_distance) (nears_of ws) 0
      (λ v l. let n = are.led.count in let e = near_at v
      (omega (arith, l, n, length-map ws (λ d. most_distance - d))) in omega (arith, e))

  pub nears_close : All (IsClose (nears_of ws)) (hops_from p p.part.edges)
  nears_close k d l =
      let h = get_or (hops_from p p.part.edges) k d in
      let fit = hops_fit p part k d l in
      let from = near_at h.from fit.0.from in
      let to = near_at h.to fit.0.to in
      let r = (near_hop h (hop_of p p.part.edges h (Contains-get_or (hops_from p p.part.edges) k d
      l))).1 in
      record { light = fit.1; close = omega (arith, r, from, to) }

  -- the steps are measured by how near the free ends are
  pub star_home : IsStarIn p Homeward ws
  star_home = record {
    star = record {
      is_part = part;
      count = length-map ws (λ d. most_distance - d) ∙ are.led.count;
      low = nears_low;
      close = nears_close;
    };
    far = homes_low;
  }

  nears_near : AreNear p (nears_of ws) (map (nearer (nears_of ws)) (hops_from p p.part.edges))
  nears_near = record {
    hops = hops_from p p.part.edges;
    same = same;
    close = nears_close;
    are = refl;
  }

  pub homes_near : AreNear p ws (map (nearer ws) (hops_from p p.part.edges))
  homes_near = record {
    hops = hops_from p p.part.edges;
    same = same;
    close = homes_close;
    are = refl;
  }

  -- ---- a search that leads nearer with each step
  module _ (steps : List Step) (u at : ℕ) (u_in : u < suc (free_end p))
      (so : IsHomeward (record {
        vertices = suc (free_end p);
        hops = map (nearer (nears_of ws)) (hops_from p p.part.edges);
      }) u at steps) where
    some_left : 1 ≤ get_or so.left (free_end p) 0
    unfolding nears_near
    some_left = ⊎_elim (λ none. absurd (not_none none))
        (λ ne. omega (arith, ne)) (cases_eq (get_or so.left (free_end p) 0) 0)
      where
        not_none : get_or so.left (free_end p) 0 ≡ 0 → ⊥
        not_none none =
            let k = below p part (hops_from p p.part.edges) same (λ x. get_or so.left x 0)
            (λ x. get_or (nears_of ws) x 0)
            (close_at p part (nears_of ws) (map (nearer (nears_of ws)) (hops_from p p.part.edges))
            nears_near so.left (so.relaxed (free_end p) refl none)) (home_walk u u_in) in
            let s = so.start_left in
            let a = near_at u u_in in
            let b = near_at (free_end p) (omega arith) in
            let z = are.led.end_ in
            omega (arith, k, s, a, b, z, none)

    pub home_way : (way : List ℕ) × Way steps at way × IsWay p (free_end p) u (get_or ws u 0) way
    home_way =
        let t = so.way (free_end p) refl (let l = some_left in omega (arith, l)) in
        let r = unreduced (nears_of ws) (hops_from p p.part.edges) nears_close steps u t.2 in
        let s = t.3 in
        let e = r.2 in
        let a = near_at u u_in in
        let b = near_at (free_end p) (omega arith) in
        let z = are.led.end_ in
        let l = some_left in
        let w = (walked p part (hops_from p p.part.edges) same steps u r.1).way in
        let weighs : r.0 ≡ get_or ws u 0 = omega (arith, s, e, a, b, z, l) in (
          t.1,
          trail_way r.1,
          record {
            listed = w.listed;
            odd = λ x m. w.odd x m ∙ xor_comm (u == x) (free_end p == x);
            weight = w.weight ∙ weighs;
          },
        )

  pub homes_are : (steps : List Step) (vertices ends : List ℕ) →
      All (λ v. v < suc (free_end p)) vertices → length ends ≡ suc (free_end p) →
      AreEnds (record {
        vertices = suc (free_end p);
        hops = map (nearer (nears_of ws)) (hops_from p p.part.edges);
      }) (length vertices) vertices ends
      steps →
      AreHomes p vertices ws ends steps
  homes_are steps vertices ends low count so = record {
    count = are.led.count;
    count_ends = count;
    low = homes_low;
    distance = home_distance;
    way = λ v c. subst (λ x. (way : List ℕ) × Way steps (get_or ends x 0) way
        × IsWay p (free_end p) x (get_or ws x 0) way)
        (get_or_default vertices c.0 0 v c.1 ∙ c.2)
        (home_way steps (get_or vertices c.0 0) (get_or ends (get_or vertices c.0 0) 0)
        (low c.0 0 c.1) (so c.0 c.1));
  }

-- ---- searches from one vertex after the other
module _ (star : Hops) where
  homeward_kept : (v at : ℕ) (steps steps' : List Step) → Extends steps steps' →
      IsHomeward star v at steps → IsHomeward star v at steps'
  homeward_kept v at steps steps' more so = record {
    left = so.left;
    start_left = so.start_left;
    relaxed = so.relaxed;
    way = λ u e l. let t = so.way u e l in (
      t.0,
      t.1,
      trail_kept star.hops v steps steps' more t.2,
      t.3,
    );
  }

  -- where such a search ended
  pub homeward_of : (v u : ℕ) (left ends : List ℕ) (steps : List Step) → suc u ≡ star.vertices →
      AreReached star.hops v 1 left ends steps →
      (get_or left u 0 ≡ 0 → AreRelaxed star.hops left) →
      IsHomeward star v (get_or ends u 0) steps
  homeward_of v u left ends steps last reached relaxed = record {
    left = left;
    start_left = reached.start_left;
    relaxed = λ w e none. let same : w ≡ u = omega (arith, last, e) in
        relaxed (ap (λ x. get_or left x 0) (sym same) ∙ none);
    way = λ w e l. let same : w ≡ u = omega (arith, last, e) in
        let t = reached.way w l in (
          t.0,
          t.1,
          subst (λ x. Trail star.hops steps v x w t.0 t.1)
              (ap (λ y. get_or ends y 0) same) t.2,
          t.3,
        );
  }

  pub ends_more : (n : ℕ) (vertices ends : List ℕ) (steps steps' : List Step) (at : ℕ) → n
      < length vertices →
      All (λ v. v < length ends) vertices → Extends steps steps' →
      AreEnds star n vertices ends steps →
      IsHomeward star (get_or vertices n 0) at steps' →
      AreEnds star (n + 1) vertices (set ends (get_or vertices n 0) at) steps'
  ends_more n vertices ends steps steps' at l low more old new k m =
      ⊎_elim
      (λ e. subst (λ x. IsHomeward star x (get_or (set ends (get_or vertices n 0) at) x 0) steps')
      (sym e)
      (subst (λ x. IsHomeward star (get_or vertices n 0) x steps')
      (sym (get_or-set_same ends (get_or vertices n 0) at 0 (low n 0 l))) new))
      (λ ne. let other : k ≢ n = λ e. ne (ap (λ j. get_or vertices j 0) e) in
      subst (λ x. IsHomeward star (get_or vertices k 0) x steps')
      (sym (get_or-set_other ends (get_or vertices n 0) (get_or vertices k 0) at 0 ne))
      (homeward_kept (get_or vertices k 0) (get_or ends (get_or vertices k 0) 0) steps steps' more
      (old k (omega (arith, m, other)))))
      (cases_eq (get_or vertices k 0) (get_or vertices n 0))
