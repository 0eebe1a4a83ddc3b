-- What is gathered by the owners of edges is what the definitions of a window say.
use Rattle.std.proofs.Common.{◌≡◌, ℕ, ◌+◌, ◌<◌, ◌≤◌, ◌==◌, ⊎_elim, Bool, true, false, not, ◌&&◌, cond, List, [], ◌∷◌, ◌++◌, refl, sym, ap, ◌∙◌, arith, length, get_or, take, map, filter, slice_get, Some, None, Option, All, eq-eqb, eqb-true, leb-true, ltb-true, nat_lt}
use Rattle.std.specs.Prelude.{nat_le, slice_index}
use Rattle.std.specs.List.{list_any, range_with_len}
use Rattle.std.specs.Option.{option_map_or}
use Rattle.std.proofs.lemmas.Bool.{and_parts, and_from, le-leb, lt-ltb, cases_lt, false_from_ne_true, not-true, both_ways}
use Rattle.std.proofs.lemmas.List.{take_more, take_all, map-append, get_or-map, get_or_default, length-map}
use Rattle.std.proofs.lemmas.Option.{none-some, slice_get_within, slice_get-get_or, get_or_from_slice_get}
use Rattle.graph_model.specs.Graph.{GraphEdge, DetectorGraph, IsGraph, is_in, ends_of, ends_at, incident_edges}
use Rattle.graph_model.proofs.Members.{is_in-range, filter_same, any_from, any_found, any_at, any_place}
use Rattle.graph_model.proofs.Incidence.{incident_below, is_in-incident}
use Rattle.graph_model.proofs.Truths.{same_tests}
use Rattle.window_model.specs.Windows.{all_below, edge_passes, home_of, owner_of, touches, goes_below, edges_of, owned_of, deps_of}
use Rattle.window_model.proofs.Plans.{owner_least, owner_home, passing, edge_in, edge_below}
use Rattle.window_plan.specs.Gathers.{has_owner, deps_by, edges_by, border_by, places_by}
use Rattle.detector_graph.specs.Rows.{group_of}
use Rattle.window_plan.specs.Searches.{Grows}
use Rattle.graph_model.proofs.Edges.{ends_at_get}

-- ---- loops
pub mapped_more : {X : Type 0} (f : X → ℕ) (xs : List X) (i : ℕ) (x : X) (ys new : List ℕ) (y : ℕ) →
    slice_get xs i ≡ Some x → y ≡ f x → ys ≡ map f (take i xs) → new ≡ ys ++ y ∷ [] →
    new ≡ map f (take (i + 1) xs)
mapped_more f xs i x ys new y at e is more =
    more ∙ ap (λ l. l ++ y ∷ []) is
    ∙ ap (λ z. map f (take i xs) ++ z ∷ []) (e ∙ ap f (sym (get_or_from_slice_get xs i x x at)))
    ∙ sym (map-append f (take i xs) (get_or xs i x ∷ []))
    ∙ ap (map f) (sym (take_more xs i x (slice_get_within xs i x at)))

-- ---- what grew from nothing
pub gathered : (n : ℕ) (test : ℕ → Bool) (members : List ℕ) → Grows test [] members →
    all_below n (is_in members) ≡ all_below n test
gathered n test members h =
    filter_same (is_in members) test (range_with_len 0 n) (λ x m. h.members x)

pub gathered_over : (n : ℕ) (test : List ℕ → ℕ → Bool) (xs : List ℕ) (i : ℕ) (members : List ℕ) →
    length xs ≤ i → Grows (test (take i xs)) [] members →
    all_below n (is_in members) ≡ all_below n (test xs)
gathered_over n test xs i members l h = gathered n (test (take i xs)) members h
    ∙ ap (λ ys. all_below n (test ys)) (take_all i xs l)

pub below_same : (n : ℕ) (p q : ℕ → Bool) → ((x : ℕ) → x < n → p x ≡ q x) →
    all_below n p ≡ all_below n q
below_same n p q same = filter_same p q (range_with_len 0 n) (λ x m. let k = is_in-range 0 n x m in
    same x (omega (arith, k.1)))

filter_twice : (p q r : ℕ → Bool) (xs : List ℕ) → ((x : ℕ) → is_in xs x ≡ true → q x && p x ≡ r x) →
    filter p (filter q xs) ≡ filter r xs
filter_twice p q r xs same = joined xs ∙ filter_same (λ x. q x && p x) r xs same
  where
    one : (b : Bool) (x : ℕ) (ys : List ℕ) →
        filter p (cond b (x ∷ ys) ys) ≡ cond (b && p x) (x ∷ filter p ys) (filter p ys)
    one true x ys = refl
    one false x ys = refl

    joined : (ys : List ℕ) → filter p (filter q ys) ≡ filter (λ x. q x && p x) ys
    joined [] = refl
    joined (y ∷ ys) =
        one (q y) y (filter q ys) ∙ ap (λ zs. cond (q y && p y) (y ∷ zs) zs) (joined ys)

-- ---- owners
no_edge : GraphEdge
no_edge = record { first = 0; second = None; weight = 0; mask = [] }

module _ (g : DetectorGraph) (graph : IsGraph g) (homes owners : List ℕ) (owned : owners
    ≡ map (owner_of homes) g.edges) where
  pub owner_at : (e : ℕ) (edge : GraphEdge) → slice_get g.edges e ≡ Some edge →
      slice_index owners e ≡ owner_of homes edge
  owner_at e edge at =
      let l = slice_get_within g.edges e edge at in
      ap (λ os. get_or os e 0) owned ∙ get_or-map (owner_of homes) g.edges e edge 0 l
      ∙ ap (owner_of homes) (get_or_from_slice_get g.edges e edge edge at)

  owner_below : (w : ℕ) (edge : GraphEdge) → goes_below homes w edge ≡ true →
      owner_of homes edge < w
  owner_below w edge low =
      let f = any_found (λ v. nat_lt (home_of homes v) w) (ends_of edge) low in
      let under = ltb-true (home_of homes f.0) w f.2 in
      let least = owner_least homes edge f.0 f.1 in
      omega (arith, under, least)

  below_owner : (w : ℕ) (edge : GraphEdge) → owner_of homes edge < w →
      goes_below homes w edge ≡ true
  below_owner w edge low =
      let o = owner_home homes edge in
      any_from (λ v. nat_lt (home_of homes v) w) (ends_of edge) o.0 o.1
      (lt-ltb (home_of homes o.0) w (let e = o.2 in omega (arith, e, low)))

  -- an edge at a detector
  at_detector : (v e : ℕ) → is_in (incident_edges g v) e ≡ true →
      (edge : GraphEdge) × (slice_get g.edges e ≡ Some edge) × (is_in (ends_of edge) v ≡ true)
  at_detector v e m =
      passing (λ edge. is_in (ends_of edge) v) (slice_get g.edges e) (incident_below g v e m).1

  detector_at : (v e : ℕ) (edge : GraphEdge) → slice_get g.edges e ≡ Some edge →
      is_in (ends_of edge) v ≡ true → is_in (incident_edges g v) e ≡ true
  detector_at v e edge at m = is_in-incident g v e (slice_get_within g.edges e edge at)
      ∙ ends_at_get g v e edge at ∙ m

  pub deps_are : (count w : ℕ) (detectors : List ℕ) →
      deps_by g owners count w detectors ≡ deps_of g homes count w detectors
  deps_are count w detectors =
      below_same count test
      (λ x. list_any (λ edge. touches detectors edge && goes_below homes w edge
      && owner_of homes edge == x) g.edges) (λ x l. same_tests (test x) _ (forth x) (back x))
    where
      test : ℕ → Bool
      test x = list_any (λ v. has_owner g owners v x) detectors && nat_lt x w

      forth : (x : ℕ) → list_any (λ v. has_owner g owners v x) detectors && nat_lt x w ≡ true →
          list_any (λ edge. touches detectors edge && goes_below homes w edge
          && owner_of homes edge == x) g.edges ≡ true
      forth x h =
          let parts = and_parts (list_any (λ v. has_owner g owners v x) detectors) (nat_lt x w) h in
          let v = any_found (λ v. has_owner g owners v x) detectors parts.0 in
          let e = any_found (λ e. slice_index owners e == x) (incident_edges g v.0) v.2 in
          let at = at_detector v.0 e.0 e.1 in
          let own : owner_of homes at.0 ≡ x =
          sym (owner_at e.0 at.0 at.1) ∙ eqb-true (slice_index owners e.0) x e.2 in
          let low = ltb-true x w parts.1 in
          any_at (λ edge. touches detectors edge && goes_below homes w edge
          && owner_of homes edge == x) g.edges e.0 at.0 at.1
          (and_from _ _ (and_from _ _ (any_from (is_in detectors) (ends_of at.0) v.0 at.2 v.1)
          (below_owner w at.0 (omega (arith, own, low)))) (eq-eqb (owner_of homes at.0) x own))

      back : (x : ℕ) →
          list_any (λ edge. touches detectors edge && goes_below homes w edge
          && owner_of homes edge == x) g.edges ≡ true →
          list_any (λ v. has_owner g owners v x) detectors && nat_lt x w ≡ true
      back x h =
          let p = any_place (λ edge. touches detectors edge && goes_below homes w edge
          && owner_of homes edge == x) g.edges h in
          let a = and_parts (touches detectors p.1 && goes_below homes w p.1)
          (owner_of homes p.1 == x) p.3 in
          let b = and_parts (touches detectors p.1) (goes_below homes w p.1) a.0 in
          let v = any_found (is_in detectors) (ends_of p.1) b.0 in
          let own = eqb-true (owner_of homes p.1) x a.1 in
          let low = owner_below w p.1 b.1 in
          and_from _ _
          (any_from (λ v. has_owner g owners v x) detectors v.0 v.2
          (any_from (λ e. slice_index owners e == x) (incident_edges g v.0) p.0
          (detector_at v.0 p.0 p.1 p.2 v.1)
          (eq-eqb (slice_index owners p.0) x (owner_at p.0 p.1 p.2 ∙ own))))
          (lt-ltb x w (omega (arith, own, low)))

  pub edges_are : (w : ℕ) (detectors : List ℕ) →
      edges_by g owners w detectors ≡ edges_of g homes w detectors
  edges_are w detectors =
      below_same (length g.edges) test (edge_passes g kept)
      (λ e l. same_tests (test e) (edge_passes g kept e) (forth e) (back e))
    where
      test : ℕ → Bool
      test e = list_any (λ v. is_in (incident_edges g v) e) detectors
          && nat_le w (slice_index owners e)

      kept : GraphEdge → Bool
      kept edge = touches detectors edge && not (goes_below homes w edge)

      forth : (e : ℕ) →
          list_any (λ v. is_in (incident_edges g v) e) detectors && nat_le w (slice_index owners e)
          ≡ true → option_map_or (λ edge. touches detectors edge && not (goes_below homes w edge))
          (slice_get g.edges e) false ≡ true
      forth e h =
          let parts = and_parts (list_any (λ v. is_in (incident_edges g v) e) detectors)
          (nat_le w (slice_index owners e)) h in
          let v = any_found (λ v. is_in (incident_edges g v) e) detectors parts.0 in
          let at = at_detector v.0 e v.2 in
          let own = owner_at e at.0 at.1 in
          let high = leb-true w (slice_index owners e) parts.1 in
          let not_low : goes_below homes w at.0
          ≡ false = false_from_ne_true (goes_below homes w at.0)
          (λ low. let k = owner_below w at.0 low in omega (arith, own, high, k)) in
          ap (λ o. option_map_or (λ edge. touches detectors edge && not (goes_below homes w edge)) o
          false) at.1
          ∙ and_from (touches detectors at.0) (not (goes_below homes w at.0))
          (any_from (is_in detectors) (ends_of at.0) v.0 at.2 v.1) (ap not not_low)

      back : (e : ℕ) →
          option_map_or (λ edge. touches detectors edge && not (goes_below homes w edge))
          (slice_get g.edges e) false ≡ true →
          list_any (λ v. is_in (incident_edges g v) e) detectors && nat_le w (slice_index owners e)
          ≡ true
      back e h =
          let p = passing (λ edge. touches detectors edge && not (goes_below homes w edge))
          (slice_get g.edges e) h in
          let parts = and_parts (touches detectors p.0) (not (goes_below homes w p.0)) p.2 in
          let v = any_found (is_in detectors) (ends_of p.0) parts.0 in
          let own = owner_at e p.0 p.1 in
          and_from _ _ (any_from (λ v. is_in (incident_edges g v) e) detectors v.0 v.2
          (detector_at v.0 e p.0 p.1 v.1))
          (le-leb w (slice_index owners e)
          (high p.0 own (not-true (goes_below homes w p.0) parts.1)))
        where
          high : (edge : GraphEdge) → slice_index owners e ≡ owner_of homes edge →
              goes_below homes w edge ≡ false → w ≤ slice_index owners e
          high edge own low =
              ⊎_elim (λ l. absurd
              (both_ways (goes_below homes w edge) low
              (below_owner w edge (omega (arith, l, own))))) (λ le. le)
              (cases_lt (slice_index owners e) w)

  -- the edges that a window owns
  pub owned_are : (w : ℕ) → group_of owners w ≡ owned_of g homes w
  owned_are w =
      ap (λ n. all_below n (λ e. slice_index owners e == w)) (ap length owned
      ∙ length-map g.edges (owner_of homes))
      ∙ below_same (length g.edges) (λ e. slice_index owners e == w)
      (edge_passes g (λ edge. owner_of homes edge == w))
      (λ e l. at_edge e (slice_get g.edges e) refl l)
    where
      at_edge : (e : ℕ) (o : Option GraphEdge) → slice_get g.edges e ≡ o → e < length g.edges →
          (slice_index owners e == w) ≡ option_map_or (λ edge. owner_of homes edge == w)
          (slice_get g.edges e) false
      at_edge e None at l =
          absurd (none-some (get_or g.edges e no_edge) (sym at
          ∙ slice_get-get_or g.edges e no_edge l))
      at_edge e (Some edge) at l =
          ap (λ k. k == w) (owner_at e edge at)
          ∙ ap (λ x. option_map_or (λ edge. owner_of homes edge == w) x false) (sym at)

  -- owners are windows
  pub owners_below : (count : ℕ) → length homes ≡ g.vertices → All (λ home. home < count) homes →
      All (λ x. x < count) owners
  owners_below count long below k d l =
      let within : k < length g.edges = let e = ap length owned
      ∙ length-map g.edges (owner_of homes) in omega (arith, e, l) in
      let at : slice_get g.edges k ≡ Some (get_or g.edges k no_edge) =
      slice_get-get_or g.edges k no_edge within in
      let o = owner_home homes (get_or g.edges k no_edge) in
      let vertex : o.0 < g.vertices =
      graph o.0 k (ends_at_get g o.0 k (get_or g.edges k no_edge) at ∙ o.1) in
      let is : get_or owners k d ≡ owner_of homes (get_or g.edges k no_edge) =
      get_or_default owners k d 0 l ∙ owner_at k (get_or g.edges k no_edge) at in
      let low = below o.0 0 (omega (arith, vertex, long)) in
      let e = o.2 in
      omega (arith, is, e, low)

  -- the places of a lower window are on the border
  pub places_are : (w x : ℕ) (detectors : List ℕ) → x < w →
      places_by g owners x (border_by g owners w detectors)
      ≡ filter (λ v. list_any (ends_at g v) (owned_of g homes x)) detectors
  places_are w x detectors low =
      filter_twice (λ v. has_owner g owners v x)
      (λ v. list_any (λ e. nat_lt (slice_index owners e) w) (incident_edges g v))
      (λ v. list_any (ends_at g v) (owned_of g homes x)) detectors
      (λ v m. same_tests _ _ (forth v) (back v))
    where
      forth : (v : ℕ) → list_any (λ e. nat_lt (slice_index owners e) w) (incident_edges g v)
          && has_owner g owners v x ≡ true → list_any (ends_at g v) (owned_of g homes x) ≡ true
      forth v h =
          let parts = and_parts (list_any (λ e. nat_lt (slice_index owners e) w)
          (incident_edges g v)) (has_owner g owners v x) h in
          let e = any_found (λ e. slice_index owners e == x) (incident_edges g v) parts.1 in
          let at = at_detector v e.0 e.1 in
          any_from (ends_at g v) (owned_of g homes x) e.0
          (edge_below g (λ edge. owner_of homes edge == x) e.0 at.0 at.1
          (eq-eqb (owner_of homes at.0) x (sym (owner_at e.0 at.0 at.1)
          ∙ eqb-true (slice_index owners e.0) x e.2)))
          (ends_at_get g v e.0 at.0 at.1 ∙ at.2)

      back : (v : ℕ) → list_any (ends_at g v) (owned_of g homes x) ≡ true →
          list_any (λ e. nat_lt (slice_index owners e) w) (incident_edges g v)
          && has_owner g owners v x ≡ true
      back v h =
          let e = any_found (ends_at g v) (owned_of g homes x) h in
          let k = edge_in g (λ edge. owner_of homes edge == x) e.0 e.1 in
          let own : slice_index owners e.0 ≡ x =
          owner_at e.0 k.0 k.1 ∙ eqb-true (owner_of homes k.0) x k.2 in
          let member = is_in-incident g v e.0 (slice_get_within g.edges e.0 k.0 k.1) ∙ e.2 in
          and_from _ _
          (any_from (λ e. nat_lt (slice_index owners e) w) (incident_edges g v) e.0 member
          (lt-ltb (slice_index owners e.0) w (omega (arith, own, low))))
          (any_from (λ e. slice_index owners e == x) (incident_edges g v) e.0 member
          (eq-eqb (slice_index owners e.0) x own))
