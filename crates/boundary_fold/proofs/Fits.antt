-- The part of a window is one that can be solved.
use Rattle.std.proofs.Common.{◌≡◌, ◌≢◌, ℕ, ◌+◌, ◌<◌, ◌≤◌, ◌==◌, ◌||◌, ◌&&◌, not, ⊎_elim, Bool, true, false, List, [], ◌∷◌, ◌++◌, length, filter_map, take, get_or, slice_get, slice_index, Option, Some, None, option_map, option_to_list, All, IfSome, refl, sym, ap, ◌∙◌, subst, arith, eqb-true}
use Rattle.std.specs.List.{list_any, cons_option}
use Rattle.std.specs.List.Sorted.{IsStrictlyIncreasing}
use Rattle.std.proofs.lemmas.Bool.{false≢true, or_cases, and_parts}
use Rattle.std.proofs.lemmas.List.{length-map, take_more, get_or_default}
use Rattle.std.proofs.lemmas.List.Elements.{All-cons, All-nil, filter_map-append}
use Rattle.std.proofs.lemmas.Option.{slice_get_within}
use Rattle.graph_model.specs.Graph.{GraphEdge, DetectorGraph, IsEdge, ends_of, is_in}
use Rattle.graph_model.specs.Limits.{most_edges}
use Rattle.graph_model.specs.Problems.{IsPart, IsPartEdge}
use Rattle.graph_model.specs.declared.PartEdge.{PartEdge}
use Rattle.graph_model.specs.declared.Tag.{Tag}
use Rattle.graph_model.proofs.Ascending.{increasing_length}
use Rattle.graph_model.proofs.Edges.{edge_fits, graph_fits}
use Rattle.graph_model.proofs.Members.{is_in_first, is_in_rest, is_in-Contains}
use Rattle.graph_model.proofs.PartEdges.{numbers_of}
use Rattle.window_model.specs.Grounded.{IsGrounded}
use Rattle.window_model.specs.Parts.{part_edge, part_of, place_of}
use Rattle.window_model.specs.Windows.{Window, goes_below, touches, window_at, window_count}
use Rattle.window_model.proofs.Open.{open_law}
use Rattle.window_model.proofs.PartLaws.{place_found, place_there}
use Rattle.window_model.proofs.Plans.{edge_in}
use Rattle.window_plan.specs.Placed.{IsOrdered, PlacedPlan}
use Rattle.boundary_fold.specs.Folds.{IsPlanFor, edges_with, window_with}
use Rattle.boundary_fold.proofs.Placed.{made, window_is}

-- ---- the edges of a part
abbrev pub AreReal : DetectorGraph → List ℕ → List ℕ → Type 0
AreReal g detectors edges = (e : ℕ) → is_in edges e ≡ true → (edge : GraphEdge)
    × (slice_get g.edges e ≡ Some edge) × (touches detectors edge ≡ true)

rest_real : (g : DetectorGraph) (ds : List ℕ) (e : ℕ) (es : List ℕ) → AreReal g ds (e ∷ es) →
    AreReal g ds es
rest_real g ds e es h x m = h x (is_in_rest e x es m)

module _ (g : DetectorGraph) (ds os : List ℕ) where
  entry_more : (e : ℕ) (edge : GraphEdge) (es : List ℕ) → slice_get g.edges e ≡ Some edge →
      edges_with g ds os (e ∷ es) ≡ part_edge (window_with ds os) e edge ∷ edges_with g ds os es
  entry_more e edge es at = ap (λ o. cons_option (option_map (part_edge (window_with ds os) e) o)
      (edges_with g ds os es)) at

  pub numbers_same : (es : List ℕ) → AreReal g ds es → numbers_of (edges_with g ds os es) ≡ es
  numbers_same [] real = refl
  numbers_same (e ∷ es) real =
      let found = real e (is_in_first e es) in
      ap numbers_of (entry_more e found.0 es found.1)
      ∙ ap (λ xs. e ∷ xs) (numbers_same es (rest_real g ds e es real))

  -- whether the window owns an edge of the part
  pub owned_same : (es : List ℕ) → AreReal g ds es → (e : ℕ) →
      list_any (λ x. x.edge == e && x.owned) (edges_with g ds os es) ≡ is_in es e && is_in os e
  owned_same [] real e = refl
  owned_same (x ∷ es) real e =
      let found = real x (is_in_first x es) in
      ap (list_any (λ y. y.edge == e && y.owned)) (entry_more x found.0 es found.1)
      ∙ ap (λ b. (x == e && is_in os x) || b) (owned_same es (rest_real g ds x es real) e)
      ∙ by_test (x == e) (is_in os x) (is_in os e) (is_in es e) (λ s.
      ap (is_in os) (eqb-true x e s))
    where
      by_test : (t a b m : Bool) → (t ≡ true → a ≡ b) → (t && a) || (m && b) ≡ (t || m) && b
      by_test true true true m h = refl
      by_test true false false true h = refl
      by_test true false false false h = refl
      by_test true true false m h = absurd (false≢true (sym (h refl)))
      by_test true false true m h = absurd (false≢true (h refl))
      by_test false a b m h = refl

  -- the places of an edge's ends
  ends_fit : (edge : GraphEdge) → touches ds edge ≡ true →
      IfSome edge.second (λ c. c ≢ edge.first) →
      (let places = filter_map (place_of ds) (ends_of edge) in (slice_index places 0 < length ds)
      × IfSome (slice_get places 1) (λ other. (other < length ds)
      × (other ≢ slice_index places 0)))
  ends_fit edge = by_second edge.second
    where
      a : ℕ
      a = edge.first

      by_second : (o : Option ℕ) → list_any (is_in ds) (edge.first ∷ option_to_list o) ≡ true →
          IfSome o (λ c. c ≢ edge.first) →
          (let places = filter_map (place_of ds) (edge.first ∷ option_to_list o) in
          (slice_index places 0 < length ds) × IfSome (slice_get places 1) (λ other.
          (other < length ds) × (other ≢ slice_index places 0)))
      by_second None t apart = by_place (place_of ds edge.first) refl
        where
          by_place : (x : Option ℕ) → place_of ds edge.first ≡ x →
              (let places = cons_option x [] in (slice_index places 0 < length ds) × IfSome
              (slice_get places 1) (λ other. (other < length ds) × (other ≢ slice_index places 0)))
          by_place None e = absurd (place_there ds edge.first (⊎_elim (λ h. h) (λ h.
              absurd (false≢true h)) (or_cases (is_in ds edge.first) false t)) e)
          by_place (Some i) e = ((place_found ds edge.first i e).0, tt)
      by_second (Some c) t apart = by_places (place_of ds edge.first) (place_of ds c) refl refl
        where
          by_places : (x y : Option ℕ) → place_of ds edge.first ≡ x → place_of ds c ≡ y →
              (let places = cons_option x (cons_option y []) in (slice_index places 0 < length ds)
              × IfSome (slice_get places 1) (λ other. (other < length ds)
              × (other ≢ slice_index places 0)))
          by_places None None e f =
              absurd (⊎_elim (λ h. place_there ds edge.first h e) (λ h. ⊎_elim (λ k.
              place_there ds c k f) (λ k. false≢true k) (or_cases (is_in ds c) false h))
              (or_cases (is_in ds edge.first) (is_in ds c || false) t))
          by_places (Some i) None e f = ((place_found ds edge.first i e).0, tt)
          by_places None (Some j) e f = ((place_found ds c j f).0, tt)
          by_places (Some i) (Some j) e f =
              let one = place_found ds edge.first i e in
              let two = place_found ds c j f in
              (one.0, (two.0, λ s. apart (sym two.1 ∙ ap (λ n. get_or ds n 0) s ∙ one.1)))

  second_differs : (n : ℕ) (o : Option ℕ) (a : ℕ) → IfSome o (λ c. (c < n) × (c ≢ a)) →
      IfSome o (λ c. c ≢ a)
  second_differs n None a h = h
  second_differs n (Some c) a h = h.1

  edge_fits_part : (e : ℕ) (edge : GraphEdge) → touches ds edge ≡ true → IsEdge g.vertices edge →
      IsPartEdge (length ds) (part_edge (window_with ds os) e edge)
  edge_fits_part e edge t h =
      let k = ends_fit edge t (second_differs g.vertices edge.second edge.first h.second) in
      record { first = k.0; second = k.1; weight = h.weight }

  pub all_fit : All (IsEdge g.vertices) g.edges → (es : List ℕ) → AreReal g ds es →
      All (IsPartEdge (length ds)) (edges_with g ds os es)
  all_fit fit [] real = All-nil (IsPartEdge (length ds))
  all_fit fit (e ∷ es) real =
      let found = real e (is_in_first e es) in
      subst (All (IsPartEdge (length ds))) (sym (entry_more e found.0 es found.1))
      (All-cons (IsPartEdge (length ds)) (part_edge (window_with ds os) e found.0) (edges_with g
      ds os es) (edge_fits_part e found.0 found.2 (edge_fits g fit e found.0 found.1))
      (all_fit fit es (rest_real g ds e es real)))

-- ---- a window's part
module _ (g : DetectorGraph) (tags : List Tag) (p : PlacedPlan) (h : IsPlanFor g tags p) (w : ℕ)
    (within : w < window_count p.plan) where
  pub edges_real : AreReal g (window_at p.plan w).detectors (window_at p.plan w).edges
  edges_real e m =
      let is = window_is g tags p h w within in
      let ds = (made g tags p h w).detectors in
      let f = edge_in g (λ edge. touches ds edge && not (goes_below p.plan.homes w edge)) e
      (ap (λ (x : Window). is_in x.edges e) (sym is) ∙ m) in (
        f.0,
        f.1,
        ap (λ (x : Window). touches x.detectors f.0) is
            ∙ (and_parts (touches ds f.0) (not (goes_below p.plan.homes w f.0)) f.2).0,
      )

  pub edges_below : All (λ e. e < length g.edges) (window_at p.plan w).edges
  edges_below k d l =
      let es = (window_at p.plan w).edges in
      let r = edges_real (get_or es k d) (is_in-Contains es (get_or es k d) (
        k,
        l,
        get_or_default es k (get_or es k d) d l,
      )) in
      slice_get_within g.edges (get_or es k d) r.0 r.1

  pub part_is : IsOrdered p → All (IsEdge g.vertices) g.edges → length g.edges ≤ most_edges →
      IsGrounded g tags → IsPart (part_of g p.plan w)
  part_is ordered fit few grounded =
      let ds = (window_at p.plan w).detectors in
      let os = (window_at p.plan w).owned in
      let es = (window_at p.plan w).edges in
      let same : numbers_of (edges_with g ds os es) ≡ es = numbers_same g ds os es edges_real in
      let count : length (edges_with g ds os es) ≡ length es =
      sym (length-map (edges_with g ds os es) (λ (x : PartEdge). x.edge)) ∙ ap length same in
      let short : length es ≤ length g.edges =
      increasing_length (length g.edges) es (ordered.edges_rise w) edges_below in
      record {
        few_detectors = ordered.few_detectors w;
        few_edges = omega (arith, count, short, few);
        ascending = subst IsStrictlyIncreasing (sym same) (ordered.edges_rise w);
        fits = all_fit g ds os fit es edges_real;
        is_open = λ place l. open_law g tags h.order h.commit h.buffer p.plan (graph_fits g fit)
            h.each_tag h.is_placed.is_plan grounded w place within l;
      }

-- ---- one edge more
pub edges_more : (g : DetectorGraph) (ds os es : List ℕ) (i : ℕ) (edge : GraphEdge) (x : PartEdge)
    (old new : List PartEdge) → i < length es → slice_get g.edges (get_or es i 0) ≡ Some edge →
    x ≡ part_edge (window_with ds os) (get_or es i 0) edge → old ≡ edges_with g ds os (take i es) →
    new ≡ old ++ x ∷ [] → new ≡ edges_with g ds os (take (i + 1) es)
edges_more g ds os es i edge x old new l at is so_far push =
    let f : ℕ → Option PartEdge =
    λ e. option_map (part_edge (window_with ds os) e) (slice_get g.edges e) in
    push ∙ ap (λ ys. ys ++ x ∷ []) so_far
    ∙ ap (λ y. edges_with g ds os (take i es) ++ y ∷ []) is
    ∙ ap (λ o. edges_with g ds os (take i es)
    ++ cons_option (option_map (part_edge (window_with ds os) (get_or es i 0)) o) []) (sym at)
    ∙ sym (filter_map-append f (take i es) (get_or es i 0 ∷ []))
    ∙ ap (edges_with g ds os) (sym (take_more es i 0 l))
