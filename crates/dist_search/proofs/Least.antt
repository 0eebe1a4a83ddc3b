-- The steps of a search over a problem's edges: walks, and bounds that no walk is below.
use Rattle.std.proofs.Common.{◌≡◌, ℕ, suc, ◌+◌, ◌*◌, ◌<◌, ◌≤◌, ◌==◌, List, [], ◌∷◌, length, map, refl, sym, ap, ◌∙◌, arith, subst, ⊎_elim, ◌⊎◌, inl, inr, All, Contains, get_or, Bool, true, sum_by, slice_get, Some}
use Rattle.std.proofs.lemmas.Bool.{false≢true}
use Rattle.std.proofs.lemmas.List.{get_or-map, length-map}
use Rattle.std.proofs.lemmas.List.Elements.{Contains-get_or}
use Rattle.std.proofs.lemmas.List.Sums.{sum_by-cons}
use Rattle.std.proofs.lemmas.Option.{slice_get_read}
use Rattle.graph_model.specs.Graph.{is_in}
use Rattle.graph_model.specs.Parity.{◌⊕◌, parity}
use Rattle.graph_model.specs.Problems.{Problem, IsPart, meets, problem_weight}
use Rattle.graph_model.specs.declared.PartEdge.{PartEdge}
use Rattle.graph_model.proofs.Members.{is_in_cases}
use Rattle.graph_model.proofs.Parities.{xor-self, xor_assoc, xor_comm}
use Rattle.graph_model.proofs.PartEdges.{numbers_of, number_in, meets_at}
use Rattle.matching_model.specs.Certificates.{IsProblem, Walk, stay, forth, back, free_end, far_end}
use Rattle.matching_model.proofs.Parts.{walk_on, at_edge, at_place}
use Rattle.matching_model.proofs.Solvable.{part_is_problem, weight_low}
use Rattle.matching_model.proofs.ShortWalks.{Leads, walk_step}
use Rattle.dist_search.specs.declared.star.Hop.{Hop}
use Rattle.dist_search.specs.declared.search.Step.{Step}
use Rattle.dist_search.specs.Hops.{AreSame, hops_from, nearer, IsClose, IsHop, Trail, begun, stepped, Way, ended, passed}
use Rattle.dist_search.specs.Tables.{IsWay}
use Rattle.dist_search.proofs.Searching.{Contains-later, Contains-head, Contains-cons_cases}
use Rattle.graph_model.specs.Limits.{most_weight}

-- ---- the edges of a trail
pub trail_way : {hops : List Hop} {steps : List Step} {start at v d : ℕ} {way : List ℕ} →
    Trail hops steps start at v d way → Way steps at way
trail_way (begun a e z w) = ended a w
trail_way (stepped k d' way' step hop at low is before has edge to weight way trail) =
    passed k way' step at low is before way (trail_way trail)

-- ---- steps by what they cost more than they lead nearer
module _ (weights : List ℕ) (hops : List Hop) (close : All (IsClose weights) hops)
    (steps : List Step) (start : ℕ) where
  record Unmapped (hop : Hop) : Type 0 where
    plain : Hop
    has : Contains hops plain
    is : nearer weights plain ≡ hop
    total : hop.weight + get_or weights hop.to 0 ≡ get_or weights hop.from 0 + plain.weight

  unmapped : (hop : Hop) → Contains (map (nearer weights) hops) hop → Unmapped hop
  unmapped hop c =
      let l : c.0 < length hops = omega (arith, c.1, length-map hops (nearer weights)) in
      let h = get_or hops c.0 hop in
      let is : nearer weights h ≡ hop = sym (get_or-map (nearer weights) hops c.0 hop hop l)
      ∙ c.2 in
      let near = (close c.0 hop l).close in
      record {
        plain = h;
        has = Contains-get_or hops c.0 hop l;
        is = is;
        total = subst (λ (x : Hop). x.weight + get_or weights x.to 0 ≡ get_or weights x.from 0
            + h.weight) is (omega (arith, near));
      }

  pub unreduced : {at v d : ℕ} {way : List ℕ} →
      Trail (map (nearer weights) hops) steps start at v d way → (e : ℕ)
      × Trail hops steps start at v e way × (d + get_or weights v 0 ≡ e + get_or weights start 0)
  unreduced (begun a e z w) = (
    0,
    begun a e refl w,
    let k = ap (λ u. get_or weights u 0) e in
        omega (arith, k, z),
  )
  unreduced (stepped {at = at} {v = v} {d = d} {way = way} k d' way' step hop at_is low is before
      has edge to weight way_is trail) = more (unmapped hop has) (unreduced trail)
    where
      more : Unmapped hop → ((e : ℕ) × Trail hops steps start step.before hop.from e way'
          × (d' + get_or weights hop.from 0 ≡ e + get_or weights start 0)) → (e : ℕ) × Trail hops
          steps start at v e way × (d + get_or weights v 0 ≡ e + get_or weights start 0)
      more u r =
          let total = u.total in let sum = r.2 in let there = ap (λ x. get_or weights x 0) to in (
            r.0 + u.plain.weight,
            stepped k r.0 way' step u.plain at_is low is before u.has (ap (λ (x : Hop). x.edge) u.is
                ∙ edge) (to ∙ sym (ap (λ (x : Hop). x.to) u.is)) refl way_is
                (subst (λ x. Trail hops steps start step.before x r.0 way')
                (sym (ap (λ (x : Hop). x.from) u.is)) r.1),
            omega (arith, total, sum, there, weight),
          )

module _ (p : Problem) where
  abbrev pub hop_there : PartEdge → Hop
  hop_there edge = record {
    from = edge.first;
    to = far_end p edge;
    weight = problem_weight p edge.edge;
    edge = edge.edge;
  }

  abbrev pub hop_back : PartEdge → Hop
  hop_back edge = record {
    from = far_end p edge;
    to = edge.first;
    weight = problem_weight p edge.edge;
    edge = edge.edge;
  }

  pub hops_long : (es : List PartEdge) → length (hops_from p es) ≡ 2 * length es
  hops_long [] = refl
  hops_long (x ∷ xs) = let n = hops_long xs in omega (arith, n)

  -- what a step is
  pub record IsHopOf (es : List PartEdge) (h : Hop) : Type 0 where
    pub edge : PartEdge
    pub listed : Contains es edge
    pub number : h.edge ≡ edge.edge
    pub weight : h.weight ≡ problem_weight p edge.edge
    pub way : ((h.from ≡ edge.first) × (h.to ≡ far_end p edge))
        ⊎ ((h.from ≡ far_end p edge) × (h.to ≡ edge.first))

  pub hop_of : (es : List PartEdge) (h : Hop) → Contains (hops_from p es) h → IsHopOf es h
  hop_of [] h c = absurd (omega (arith, c.1))
  hop_of (x ∷ xs) h c =
      ⊎_elim (λ e. subst (IsHopOf (x ∷ xs)) e (record {
        edge = x;
        listed = Contains-head x xs;
        number = refl;
        weight = refl;
        way = inl (refl, refl);
      }))
      (λ d. ⊎_elim (λ e. subst (IsHopOf (x ∷ xs)) e
      (record {
        edge = x;
        listed = Contains-head x xs;
        number = refl;
        weight = refl;
        way = inr (refl, refl);
      }))
      (λ r. let s = hop_of xs h r in record {
        edge = s.edge;
        listed = Contains-later s.edge x xs s.listed;
        number = s.number;
        weight = s.weight;
        way = s.way;
      })
      (Contains-cons_cases h (hop_back x) (hops_from p xs) d))
      (Contains-cons_cases h (hop_there x) (hop_back x ∷ hops_from p xs) c)

  pub both_hops : (es : List PartEdge) (edge : PartEdge) → Contains es edge →
      Contains (hops_from p es) (hop_there edge) × Contains (hops_from p es) (hop_back edge)
  both_hops [] edge c = absurd (omega (arith, c.1))
  both_hops (x ∷ xs) edge c = ⊎_elim here (λ d. let r = both_hops xs edge d in
      (later (hop_there edge) r.0, later (hop_back edge) r.1)) (Contains-cons_cases edge x xs c)
    where
      later : (h : Hop) → Contains (hops_from p xs) h → Contains (hops_from p (x ∷ xs)) h
      later h d = Contains-later h (hop_there x) (hop_back x ∷ hops_from p xs)
          (Contains-later h (hop_back x) (hops_from p xs) d)

      here : x ≡ edge → Contains (hops_from p (x ∷ xs)) (hop_there edge)
          × Contains (hops_from p (x ∷ xs)) (hop_back edge)
      here e = subst (λ y. Contains (hops_from p (x ∷ xs)) (hop_there y)
          × Contains (hops_from p (x ∷ xs)) (hop_back y)) e (
            Contains-head (hop_there x) (hop_back x ∷ hops_from p xs),
            Contains-later (hop_back x) (hop_there x) (hop_back x ∷ hops_from p xs)
                (Contains-head (hop_back x) (hops_from p xs)),
          )

  module _ (part : IsPart p.part) where
    ok : IsProblem p
    ok = part_is_problem p part

    -- all steps are between vertices, and light
    pub hops_fit : All (λ h. IsHop (suc (free_end p)) h × (h.weight ≤ most_weight))
        (hops_from p p.part.edges)
    hops_fit k d l = fit (get_or (hops_from p p.part.edges) k d)
        (hop_of p.part.edges _ (Contains-get_or (hops_from p p.part.edges) k d l))
      where
        fit : (h : Hop) → IsHopOf p.part.edges h →
            IsHop (suc (free_end p)) h × (h.weight ≤ most_weight)
        fit h s = (by_way s.way, low)
          where
            low : h.weight ≤ most_weight
            low = let w = weight_low p part s.edge s.listed in let e = s.weight in
                omega (arith, w, e)

            by_way : (((h.from ≡ s.edge.first) × (h.to ≡ far_end p s.edge))
                ⊎ ((h.from ≡ far_end p s.edge) × (h.to ≡ s.edge.first))) →
                IsHop (suc (free_end p)) h
            by_way w =
                let f = at_edge p (λ d. d.first < free_end p) ok.first_in s.edge s.listed in
                let g = at_edge p (λ d. far_end p d ≤ free_end p) ok.second_in s.edge s.listed in
                ⊎_elim (λ e. let a = e.0 in let b = e.1 in
                record {
                  from = omega (arith, a, f);
                  to = omega (arith, b, g);
                  weight = omega (arith, low);
                })
                (λ e. let a = e.0 in let b = e.1 in
                record {
                  from = omega (arith, a, g);
                  to = omega (arith, b, f);
                  weight = omega (arith, low);
                }) w

    module _ (hops : List Hop) (same : AreSame (hops_from p p.part.edges) hops) where
      -- where no step leads to a larger gain than it weighs, no walk does
      pub below : (a b : ℕ → ℕ) → ((h : Hop) → Contains hops h → a h.from + b h.to ≤ a h.to
          + b h.from + h.weight) → {u v n : ℕ} → Walk p u v n → a u + b v ≤ a v + b u + n
      below a b relaxed stay = omega arith
      below a b relaxed (forth {v = v} {n = n} edge c rest) =
          let step = relaxed _ (same.every _ (both_hops p.part.edges edge c).0) in
          let r = below a b relaxed rest in
          omega (arith, r, step)
      below a b relaxed (back {v = v} {n = n} edge c rest) =
          let step = relaxed _ (same.every _ (both_hops p.part.edges edge c).1) in
          let r = below a b relaxed rest in
          omega (arith, r, step)

      module _ (steps : List Step) (start : ℕ) where
        pub record IsWalked (v d : ℕ) (edges : List ℕ) : Type 0 where
          pub walk : Walk p start v d
          pub way : IsWay p start v d edges

        -- a trail is a walk
        pub walked : {at v d : ℕ} {way : List ℕ} → Trail hops steps start at v d way →
            IsWalked v d way
        walked (begun {v = v} {d = d} a e z w) = record {
          walk = subst (λ x. Walk p start x d) (sym e) (subst (λ n. Walk p start start n) (sym z)
              stay);
          way = record {
            listed = λ x m. absurd (false≢true (sym (ap (λ ks. is_in ks x) w) ∙ m));
            odd = λ x l. ap (parity (meets p.part x)) w ∙ sym (xor-self (start == x))
                ∙ ap (λ u. (start == x) ⊕ (u == x)) (sym e);
            weight = ap (sum_by (problem_weight p)) w ∙ sym z;
          };
        }
        walked (stepped {v = v} {d = d} {way = way} k d' way' step hop at low is before has edge to
            weight way_is trail) =
            more (hop_of p.part.edges hop (same.only hop has)) (walked trail)
          where
            more : IsHopOf p.part.edges hop → IsWalked hop.from d' way' → IsWalked v d way
            more s r = record {
              walk = subst (λ x. Walk p start x d)
                  (sym to) (subst (λ n. Walk p start hop.to n) (omega (arith, weight))
                  (walk_on p r.walk (walk_step p hop.from hop.to hop.to hop.weight 0 leads stay)));
              way = record { listed = listed; odd = odd; weight = total };
            }
              where
                leads : Leads p hop.from hop.to hop.weight
                leads = record { edge = s.edge; listed = s.listed; weight = s.weight; way = s.way }

                read : slice_get p.part.edges s.listed.0 ≡ Some s.edge
                read = slice_get_read p.part.edges (length p.part.edges) s.listed.0 s.edge refl
                    s.listed.1 (sym s.listed.2)

                number : step.edge ≡ s.edge.edge
                number = sym edge ∙ s.number

                listed : (e : ℕ) → is_in way e ≡ true → is_in (numbers_of p.part.edges) e ≡ true
                listed e m =
                    ⊎_elim (λ q. subst (λ n. is_in (numbers_of p.part.edges) n ≡ true) (sym number
                    ∙ q) (number_in p.part.edges s.listed.0 s.edge read)) (λ i.
                    r.way.listed e i)
                    (is_in_cases step.edge e way' (sym (ap (λ ks. is_in ks e) way_is) ∙ m))

                total : sum_by (problem_weight p) way ≡ d
                total =
                    let w = s.weight in let rest = r.way.weight in
                    let one = ap (problem_weight p) number in
                    ap (sum_by (problem_weight p)) way_is ∙ sum_by-cons (problem_weight p) step.edge
                    way' ∙ omega (arith, one, w, rest, weight)

                met : (x : ℕ) → x < free_end p → meets p.part x step.edge ≡ (s.edge.first == x)
                    ⊕ (far_end p s.edge == x)
                met x l =
                    ap (meets p.part x) number
                    ∙ meets_at p.part part.ascending x s.listed.0 s.edge read
                    ∙ at_place p s.edge x (at_edge p (λ d. d.first ≡ far_end p d →
                    ⊥) ok.two_ends s.edge s.listed) l

                -- the step takes the walk's end from one of its ends to the other
                turned : (a b c : Bool) → (a ⊕ b) ⊕ (c ⊕ a) ≡ c ⊕ b
                turned a b c = ap (λ x. x ⊕ (c ⊕ a)) (xor_comm a b) ∙ xor_assoc b a (c ⊕ a)
                    ∙ ap (λ x. b ⊕ (a ⊕ x)) (xor_comm c a) ∙ ap (λ x. b ⊕ x) (sym (xor_assoc a a c)
                    ∙ ap (λ x. x ⊕ c) (xor-self a)) ∙ xor_comm b c

                odd : (x : ℕ) → x < free_end p → parity (meets p.part x) way
                    ≡ (start == x) ⊕ (v == x)
                odd x l =
                    ap (parity (meets p.part x)) way_is
                    ∙ ap (λ b. b ⊕ parity (meets p.part x) way') (met x l)
                    ∙ ap (λ b. ((s.edge.first == x) ⊕ (far_end p s.edge == x)) ⊕ b) (r.way.odd x l)
                    ∙ ⊎_elim (λ e. ap (λ u. ((s.edge.first == x) ⊕ (far_end p s.edge == x))
                    ⊕ ((start == x) ⊕ (u == x))) e.0 ∙ turned (s.edge.first == x) (far_end p
                    s.edge == x) (start == x) ∙ ap (λ u. (start == x) ⊕ (u == x)) (sym e.1))
                    (λ e. ap (λ b. b ⊕ ((start == x) ⊕ (hop.from == x))) (xor_comm (s.edge.first
                    == x) (far_end p s.edge == x)) ∙ ap (λ u. ((far_end p s.edge == x)
                    ⊕ (s.edge.first == x)) ⊕ ((start == x) ⊕ (u == x))) e.0
                    ∙ turned (far_end p s.edge == x) (s.edge.first == x) (start == x)
                    ∙ ap (λ u. (start == x) ⊕ (u == x)) (sym e.1)) s.way
                    ∙ ap (λ u. (start == x) ⊕ (u == x)) (sym to)
