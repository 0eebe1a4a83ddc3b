-- A plan by definition has the laws that the decoder rests on.
use Rattle.std.proofs.Common.{◌≡◌, ℕ, zero, suc, ◌<◌, ◌≤◌, ◌==◌, ◌⊎◌, ⊎_elim, inl, inr, min, max, not, Bool, true, false, ◌&&◌, nat_lt, List, [], ◌∷◌, length, map, refl, sym, ap, ◌∙◌, subst, arith, slice_get, get_or, Option, Some, None, option_to_list, eq-eqb, eqb-true, ltb-true, fold, filter}
use Rattle.std.specs.List.{list_any, range_with_len}
use Rattle.std.specs.Option.{option_map_or}
use Rattle.std.proofs.lemmas.Bool.{cases_lt, and_parts, and_from, or_left, not-true, false≢true, lt-ltb, false_from_ne_true, both_ways}
use Rattle.std.proofs.lemmas.Option.{same_Some, slice_get_within, slice_get-get_or}
use Rattle.std.proofs.lemmas.List.{get_or_past}
use Rattle.std.proofs.lemmas.List.FromFn.{get_or-map-range_with_len, length-map-range_with_len}
use Rattle.graph_model.specs.Graph.{GraphEdge, DetectorGraph, IsGraph, is_in, ends_of, ends_at}
use Rattle.graph_model.proofs.Members.{is_in_first, is_in_rest, is_in_cases, is_in-range, is_in-below, is_in-filter, any_from, any_found, any_at, any_place, filter_below_twice}
use Rattle.window_model.specs.Cells.{CellOrder}
use Rattle.graph_model.specs.declared.Tag.{Tag}
use Rattle.window_model.specs.Windows.{Window, WindowPlan, all_below, edge_passes, home_of, owner_of, is_reached, touches, goes_below, detectors_of, window_of, slot_of, IsPlan, no_window, window_at, window_count}
use Rattle.window_model.specs.Laws.{PlanLaws, PlanLaw}

-- ---- one edge

owner_by : (homes : List ℕ) (first : ℕ) (second : Option ℕ) → ℕ
owner_by homes first second =
    option_map_or (λ v. min (home_of homes first) (home_of homes v)) second (home_of homes first)

in_two : (a b v : ℕ) → is_in (a ∷ b ∷ []) v ≡ true → (a ≡ v) ⊎ (b ≡ v)
in_two a b v m = ⊎_elim inl (λ r. ⊎_elim inr (λ e. absurd (false≢true e)) (is_in_cases b v [] r))
    (is_in_cases a v (b ∷ []) m)

-- the owner is the home of an end, and no end has a lower one
pub owner_least : (homes : List ℕ) (edge : GraphEdge) (v : ℕ) → is_in (ends_of edge) v ≡ true →
    owner_of homes edge ≤ home_of homes v
owner_least homes edge v = by_second edge.second
  where
    by_second : (o : Option ℕ) → is_in (edge.first ∷ option_to_list o) v ≡ true →
        option_map_or (λ u. min (home_of homes edge.first) (home_of homes u)) o
        (home_of homes edge.first) ≤ home_of homes v
    by_second None m = ⊎_elim (λ e. omega (arith, ap (home_of homes) e)) (λ r.
        absurd (false≢true r)) (is_in_cases edge.first v [] m)
    by_second (Some u) m = ⊎_elim (λ e. omega (arith, ap (home_of homes) e)) (λ e.
        omega (arith, ap (home_of homes) e)) (in_two edge.first u v m)

pub owner_home : (homes : List ℕ) (edge : GraphEdge) → (v : ℕ) × (is_in (ends_of edge) v ≡ true)
    × (home_of homes v ≡ owner_of homes edge)
owner_home homes edge = by_second edge.second
  where
    by_second : (o : Option ℕ) → (v : ℕ) × (is_in (edge.first ∷ option_to_list o) v ≡ true)
        × (home_of homes v ≡ option_map_or (λ u. min (home_of homes edge.first) (home_of homes u)) o
        (home_of homes edge.first))
    by_second None = (edge.first, is_in_first edge.first [], refl)
    by_second (Some u) =
        ⊎_elim
        (λ l. (edge.first, is_in_first edge.first (u ∷ []), omega (arith, l)))
        (λ g. (u, is_in_rest edge.first u (u ∷ []) (is_in_first u []), omega (arith, g)))
        (cases_lt (home_of homes edge.first) (home_of homes u))

-- the edge of a number at which a test gives true
pub passing : (test : GraphEdge → Bool) (o : Option GraphEdge) → option_map_or test o false ≡ true →
    (edge : GraphEdge) × (o ≡ Some edge) × (test edge ≡ true)
passing test None h = absurd (false≢true h)
passing test (Some edge) h = (edge, refl, h)

passes_at : (test : GraphEdge → Bool) (o : Option GraphEdge) (edge : GraphEdge) → o ≡ Some edge →
    test edge ≡ true → option_map_or test o false ≡ true
passes_at test o edge e h = ap (λ x. option_map_or test x false) e ∙ h

-- what the numbers below n that pass a test have
pub in_below : (p : ℕ → Bool) (n x : ℕ) → is_in (all_below n p) x ≡ true → (x < n) × (p x ≡ true)
in_below p n x m =
    let both = and_parts (is_in (range_with_len 0 n) x) (p x)
    (sym (is_in-filter p (range_with_len 0 n) x) ∙ m) in
    let k = is_in-range 0 n x both.0 in (omega (arith, k.1), both.1)

pub below_in : (p : ℕ → Bool) (n x : ℕ) → x < n → p x ≡ true → is_in (all_below n p) x ≡ true
below_in p n x l h = is_in-below p n x l ∙ h

pub edge_below : (g : DetectorGraph) (test : GraphEdge → Bool) (e : ℕ) (edge : GraphEdge) →
    slice_get g.edges e ≡ Some edge → test edge ≡ true →
    is_in (all_below (length g.edges) (edge_passes g test)) e ≡ true
edge_below g test e edge at h = below_in (edge_passes g test) (length g.edges) e
    (slice_get_within g.edges e edge at) (passes_at test (slice_get g.edges e) edge at h)

pub edge_in : (g : DetectorGraph) (test : GraphEdge → Bool) (e : ℕ) →
    is_in (all_below (length g.edges) (edge_passes g test)) e ≡ true → (edge : GraphEdge)
    × (slice_get g.edges e ≡ Some edge) × (test edge ≡ true)
edge_in g test e m =
    passing test (slice_get g.edges e) (in_below (edge_passes g test) (length g.edges) e m).1

-- ---- a window

pub reached_home : (g : DetectorGraph) (homes : List ℕ) (w n v : ℕ) → home_of homes v ≡ w →
    is_reached g homes w n v ≡ true
reached_home g homes w zero v e = eq-eqb (home_of homes v) w e
reached_home g homes w (suc n) v e =
    or_left (is_reached g homes w n v) _ (reached_home g homes w n v e)

greatest_from : (a : ℕ) (xs : List ℕ) → a ≤ fold max a xs
greatest_from a [] = omega arith
greatest_from a (x ∷ xs) = let ih = greatest_from (max a x) xs in omega (arith, ih)

pub greatest_bounds : (a : ℕ) (xs : List ℕ) (f : ℕ → ℕ) (x : ℕ) → is_in xs x ≡ true →
    f x ≤ fold max a (map f xs)
greatest_bounds a [] f x m = absurd (false≢true m)
greatest_bounds a (y ∷ ys) f x m =
    ⊎_elim
    (λ e. let b = greatest_from (max a (f y)) (map f ys) in omega (arith, b, ap f e))
    (λ r. greatest_bounds (max a (f y)) ys f x r)
    (is_in_cases y x ys m)

-- ---- the laws

module _ (g : DetectorGraph) (tags : List Tag) (order : CellOrder)
    (commit buffer : ℕ) (plan : WindowPlan) (graph : IsGraph g) (each_tag : length tags
    ≡ g.vertices) (h : IsPlan g tags order commit buffer plan) where
  abbrev pub count : ℕ
  count = length plan.cells

  abbrev pub made : ℕ → Window
  made w = window_of g tags plan.homes count buffer w

  pub count_is : window_count plan ≡ count
  count_is = ap length h.windows ∙ length-map-range_with_len made 0 count

  pub at_window : (w : ℕ) → w < count → window_at plan w ≡ made w
  at_window w l = ap (λ ws. get_or ws w no_window) h.windows
      ∙ get_or-map-range_with_len made 0 count w w no_window l (omega arith)

  past : (w : ℕ) → count ≤ w → window_at plan w ≡ no_window
  past w l = get_or_past plan.windows w no_window (let c = count_is in omega (arith, c, l))

  -- a number in a part of a window: the window is one of the plan's
  in_part : (part : Window → List ℕ) → part no_window ≡ [] → (w x : ℕ) →
      is_in (part (window_at plan w)) x ≡ true → (w < count) × (is_in (part (made w)) x ≡ true)
  in_part part empty w x m =
      ⊎_elim (λ l. (l, ap (λ k. is_in (part k) x) (sym (at_window w l)) ∙ m))
      (λ l. absurd (false≢true (sym (ap (λ k. is_in (part k) x) (past w l)
      ∙ ap (λ k. is_in k x) empty) ∙ m)))
      (cases_lt w count)

  to_part : (part : Window → List ℕ) (w x : ℕ) → w < count → is_in (part (made w)) x ≡ true →
      is_in (part (window_at plan w)) x ≡ true
  to_part part w x l m = ap (λ k. is_in (part k) x) (at_window w l) ∙ m

  homes_within : (v : ℕ) → v < g.vertices → home_of plan.homes v < count
  homes_within v l =
      slice_get_within plan.cells (home_of plan.homes v) _ (h.homes.home v (get_or tags v no_tag)
      (slice_get-get_or tags v no_tag (let c = each_tag in omega (arith, c, l))))
    where
      no_tag : Tag
      no_tag = record { slot = 0; tile_row = 0; tile_col = 0 }

  ends_within : (v e : ℕ) (edge : GraphEdge) → slice_get g.edges e ≡ Some edge →
      is_in (ends_of edge) v ≡ true → v < g.vertices
  ends_within v e edge at m =
      graph v e (passes_at (λ x. is_in (ends_of x) v) (slice_get g.edges e) edge at m)

  owned_edge : (w e : ℕ) → is_in (window_at plan w).owned e ≡ true → (w < count)
      × ((edge : GraphEdge) × (slice_get g.edges e ≡ Some edge) × (owner_of plan.homes edge ≡ w))
  owned_edge w e m =
      let k = in_part (λ x. x.owned) refl w e m in
      let f = edge_in g (λ edge. owner_of plan.homes edge == w) e k.1 in
      (k.0, (f.0, f.1, eqb-true (owner_of plan.homes f.0) w f.2))

  owned_by : (w e : ℕ) (edge : GraphEdge) → slice_get g.edges e ≡ Some edge →
      owner_of plan.homes edge ≡ w → w < count → is_in (window_at plan w).owned e ≡ true
  owned_by w e edge at o l = to_part (λ x. x.owned) w e l (edge_below g (λ x. owner_of plan.homes x
      == w) e edge at (eq-eqb (owner_of plan.homes edge) w o))

  owner_within : (e : ℕ) (edge : GraphEdge) → slice_get g.edges e ≡ Some edge →
      owner_of plan.homes edge < count
  owner_within e edge at =
      let o = owner_home plan.homes edge in
      let l = homes_within o.0 (ends_within o.0 e edge at o.1) in omega (arith, l, o.2)

  at_home_in : (w v : ℕ) → v < g.vertices → home_of plan.homes v ≡ w →
      is_in (detectors_of g plan.homes buffer w) v ≡ true
  at_home_in w v l e = below_in (is_reached g plan.homes w buffer) g.vertices v l
      (reached_home g plan.homes w buffer v e)

  abbrev joins : ℕ → ℕ → GraphEdge → Bool
  joins w x edge = touches (detectors_of g plan.homes buffer w) edge && goes_below plan.homes w edge
      && owner_of plan.homes edge == x

  same_edge : (e : ℕ) (one two : GraphEdge) → slice_get g.edges e ≡ Some one → slice_get g.edges e
      ≡ Some two → one ≡ two
  same_edge e one two a b = same_Some one two (sym a ∙ b)

  plan_laws : PlanLaws g tags plan
  plan_laws = record {
    tagged = each_tag;
    inside = inside;
    last_covers = last_covers;
    owned_by_one = owned_by_one;
    owned_once = owned_once;
    owned_inside = owned_inside;
    none_lower = none_lower;
    deps_listed = deps_listed;
    deps_lower = deps_lower;
    home_inside = home_inside;
    at_home = at_home;
  }
    where
      inside : (w v : ℕ) → is_in (window_at plan w).detectors v ≡ true → v < g.vertices
      inside w v m = (in_below (is_reached g plan.homes w buffer) g.vertices v
          (in_part (λ x. x.detectors) refl w v m).1).0

      last_covers : (w v : ℕ) → is_in (window_at plan w).detectors v ≡ true →
          slot_of tags v ≤ (window_at plan w).last
      last_covers w v m =
          let k = in_part (λ x. x.detectors) refl w v m in
          subst (λ (x : Window). slot_of tags v ≤ x.last) (sym (at_window w k.0))
          (greatest_bounds 0 (detectors_of g plan.homes buffer w) (slot_of tags) v k.1)

      owned_by_one : (e : ℕ) → e < length g.edges → (w : ℕ) × (w < window_count plan)
          × (is_in (window_at plan w).owned e ≡ true)
      owned_by_one e l =
          let at : slice_get g.edges e ≡ Some (get_or g.edges e no_edge) =
          slice_get-get_or g.edges e no_edge l in
          let inside = owner_within e (get_or g.edges e no_edge) at in (
            owner_of plan.homes (get_or g.edges e no_edge),
            (let c = count_is in
                omega (arith, c, inside)),
            owned_by _ e (get_or g.edges e no_edge) at refl inside,
          )
        where
          no_edge : GraphEdge
          no_edge = record { first = 0; second = None; weight = 0; mask = [] }

      owned_once : (w x e : ℕ) → is_in (window_at plan w).owned e ≡ true →
          is_in (window_at plan x).owned e ≡ true → w ≡ x
      owned_once w x e m n =
          let a = owned_edge w e m in let b = owned_edge x e n in
          sym a.1.2 ∙ ap (owner_of plan.homes) (same_edge e a.1.0 b.1.0 a.1.1 b.1.1) ∙ b.1.2

      owned_inside : (w e : ℕ) → is_in (window_at plan w).owned e ≡ true →
          is_in (window_at plan w).edges e ≡ true
      owned_inside w e m =
          let a = owned_edge w e m in
          let o = owner_home plan.homes a.1.0 in
          to_part (λ x. x.edges) w e a.0
          (edge_below g (λ edge. touches (detectors_of g plan.homes buffer w) edge
          && not (goes_below plan.homes w edge)) e a.1.0 a.1.1
          (and_from _ _
          (any_from (is_in (detectors_of g plan.homes buffer w)) (ends_of a.1.0) o.0 o.1
          (at_home_in w o.0 (ends_within o.0 e a.1.0 a.1.1 o.1) (o.2 ∙ a.1.2)))
          (ap not (false_from_ne_true (goes_below plan.homes w a.1.0) (λ low.
          let f = any_found (λ v. nat_lt (home_of plan.homes v) w) (ends_of a.1.0) low in
          let under = ltb-true (home_of plan.homes f.0) w f.2 in
          let least = owner_least plan.homes a.1.0 f.0 f.1 in
          let is_owner = a.1.2 in omega (arith, under, least, is_owner))))))

      none_lower : (w x e : ℕ) → is_in (window_at plan w).edges e ≡ true →
          is_in (window_at plan x).owned e ≡ true → w ≤ x
      none_lower w x e m n =
          let k = in_part (λ y. y.edges) refl w e m in
          let f = edge_in g (λ edge. touches (detectors_of g plan.homes buffer w) edge
          && not (goes_below plan.homes w edge)) e k.1 in
          let b = owned_edge x e n in
          let o = owner_home plan.homes b.1.0 in
          let not_low : goes_below plan.homes w b.1.0 ≡ false =
          ap (goes_below plan.homes w) (same_edge e b.1.0 f.0 b.1.1 f.1)
          ∙ not-true (goes_below plan.homes w f.0) (and_parts (touches (detectors_of g
          plan.homes buffer w) f.0) (not (goes_below plan.homes w f.0)) f.2).1 in
          ⊎_elim
          (λ low. absurd (both_ways (goes_below plan.homes w b.1.0) not_low
          (any_from (λ v. nat_lt (home_of plan.homes v) w) (ends_of b.1.0) o.0 o.1 (lt-ltb (home_of
          plan.homes o.0) w (let a = o.2 in let c = b.1.2 in omega (arith, a, c, low))))))
          (λ le. le)
          (cases_lt x w)

      deps_listed : (w : ℕ) → (window_at plan w).deps
          ≡ all_below (window_count plan) (is_in (window_at plan w).deps)
      deps_listed w =
          ⊎_elim
          (λ l. subst (λ (x : Window). x.deps ≡ all_below (window_count plan) (is_in x.deps))
          (sym (at_window w l))
          (subst (λ n. (made w).deps ≡ all_below n (is_in (made w).deps)) (sym count_is)
          (filter_below_twice (λ x. list_any (λ edge. joins w x edge) g.edges) count)))
          (λ l. subst (λ (x : Window). x.deps ≡ all_below (window_count plan) (is_in x.deps))
          (sym (past w l)) (sym (nothing (range_with_len 0 (window_count plan)))))
          (cases_lt w count)
        where
          nothing : (xs : List ℕ) → filter (is_in []) xs ≡ []
          nothing [] = refl
          nothing (x ∷ xs) = nothing xs

      dep_edge : (w x : ℕ) → is_in (window_at plan w).deps x ≡ true → (edge : GraphEdge)
          × (goes_below plan.homes w edge ≡ true) × (owner_of plan.homes edge ≡ x)
      dep_edge w x m =
          let k = in_part (λ y. y.deps) refl w x m in
          let p = any_place (λ edge. joins w x edge) g.edges
          (in_below (λ y. list_any (λ edge. joins w y edge) g.edges) count x k.1).1 in
          let a = and_parts (touches (detectors_of g plan.homes buffer w) p.1
          && goes_below plan.homes w p.1) (owner_of plan.homes p.1 == x) p.3 in (
            p.1,
            (and_parts (touches (detectors_of g plan.homes buffer w) p.1)
                (goes_below plan.homes w p.1) a.0).1,
            eqb-true (owner_of plan.homes p.1) x a.1,
          )

      deps_lower : (w x : ℕ) → is_in (window_at plan w).deps x ≡ true → x < w
      deps_lower w x m =
          let d = dep_edge w x m in
          let f = any_found (λ v. nat_lt (home_of plan.homes v) w) (ends_of d.0) d.1 in
          let under = ltb-true (home_of plan.homes f.0) w f.2 in
          let least = owner_least plan.homes d.0 f.0 f.1 in
          let is_owner = d.2 in omega (arith, under, least, is_owner)

      home_inside : (v : ℕ) → v < g.vertices →
          is_in (window_at plan (home_of plan.homes v)).detectors v ≡ true
      home_inside v l = to_part (λ x. x.detectors) (home_of plan.homes v) v (homes_within v l)
          (at_home_in (home_of plan.homes v) v l refl)

      at_home : (v e : ℕ) → v < g.vertices → ends_at g v e ≡ true →
          (is_in (window_at plan (home_of plan.homes v)).owned e ≡ true)
          ⊎ ((x : ℕ) × (is_in (window_at plan (home_of plan.homes v)).deps x ≡ true)
          × (is_in (window_at plan x).owned e ≡ true))
      at_home v e l ends =
          let f = passing (λ edge. is_in (ends_of edge) v) (slice_get g.edges e) ends in
          let least = owner_least plan.homes f.0 v f.2 in
          ⊎_elim
          (λ low. inr (
            owner_of plan.homes f.0,
            dep f.0 f.1 f.2 low,
            owned_by (owner_of plan.homes f.0) e f.0 f.1 refl (owner_within e f.0 f.1),
          ))
          (λ high. inl (owned_by (home_of plan.homes v) e f.0 f.1 (omega (arith, least, high))
          (homes_within v l)))
          (cases_lt (owner_of plan.homes f.0) (home_of plan.homes v))
        where
          dep : (edge : GraphEdge) → slice_get g.edges e ≡ Some edge → is_in (ends_of edge) v
              ≡ true → owner_of plan.homes edge < home_of plan.homes v →
              is_in (window_at plan (home_of plan.homes v)).deps (owner_of plan.homes edge) ≡ true
          dep edge at end low =
              let o = owner_home plan.homes edge in
              to_part (λ x. x.deps) (home_of plan.homes v) (owner_of plan.homes edge)
              (homes_within v l)
              (below_in (λ y. list_any (λ x. joins (home_of plan.homes v) y x) g.edges) count
              (owner_of plan.homes edge) (owner_within e edge at)
              (any_at (λ x. joins (home_of plan.homes v) (owner_of plan.homes edge) x) g.edges e
              edge at
              (and_from _ _
              (and_from _ _ (any_from (is_in (detectors_of g plan.homes buffer (home_of plan.homes
              v))) (ends_of edge) v end (at_home_in (home_of plan.homes v) v l refl))
              (any_from (λ u. nat_lt (home_of plan.homes u) (home_of plan.homes v)) (ends_of edge)
              o.0 o.1 (lt-ltb _ _ (let a = o.2 in omega (arith, a, low)))))
              (eq-eqb (owner_of plan.homes edge) (owner_of plan.homes edge) refl))))

pub plan_law : PlanLaw
plan_law = plan_laws
