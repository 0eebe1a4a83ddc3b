-- A window's part by itself has the window's least sets.
use Rattle.std.proofs.Common.{◌≡◌, ◌↔◌, ℕ, zero, suc, ◌<◌, ◌==◌, ◌||◌, ◌&&◌, not, ⊎_elim, Bool, true, false, cond, List, [], ◌∷◌, refl, sym, ap, ◌∙◌, subst, map, filter_map, find, sum_by, arith, Option, Some, None, option_map, option_to_list, All, Contains, zero-add, length, get_or, slice_get, slice_index, slice_index_or, eq-eqb, eqb-true}
use Rattle.std.specs.List.{list_any, range_with_len, cons_option}
use Rattle.std.specs.List.Sorted.{IsStrictlyIncreasing}
use Rattle.std.specs.Option.{option_map_or}
use Rattle.std.proofs.lemmas.Bool.{cases_eq, ne_eqb, false≢true, both_ways, false_from_ne_true, and_parts, and_from, or_left, or_right, or_cases}
use Rattle.std.proofs.lemmas.List.{get_or-map, get_or_default}
use Rattle.std.proofs.lemmas.List.FromFn.{get_or-range_with_len, length-range_with_len}
use Rattle.std.proofs.lemmas.List.Elements.{All-from_get_or}
use Rattle.std.proofs.lemmas.List.Sums.{sum_by-cons}
use Rattle.std.proofs.lemmas.Option.{same_Some, none-some}
use Rattle.graph_model.specs.Parity.{parity}
use Rattle.graph_model.specs.Graph.{GraphEdge, DetectorGraph, ends_of, ends_at, weight_at, is_in}
use Rattle.graph_model.specs.Corrections.{IsCorrection, IsLeastCorrection}
use Rattle.graph_model.specs.Problems.{Part, Problem, places_of, meets, problem_weight, Solves}
use Rattle.graph_model.specs.declared.PartEdge.{PartEdge}
use Rattle.graph_model.proofs.Members.{is_in_at, is_in_first, is_in_rest, is_in_cases, is_in-Contains, All-at, parity-same_in}
use Rattle.graph_model.proofs.Truths.{same_tests}
use Rattle.graph_model.proofs.Ascending.{increasing_above, increasing_rest}
use Rattle.window_model.specs.Windows.{Window, touches, goes_below, detectors_of, window_of, window_at, is_reached}
use Rattle.window_model.proofs.Plans.{at_window, count_is, edge_in}
use Rattle.window_model.specs.Parts.{place_of, part_edge, part_over, PartLaw}
use Rattle.window_model.proofs.Quiet.{IsApart, filter_apart}

sum_same : (f h : ℕ → ℕ) (xs : List ℕ) → ((x : ℕ) → is_in xs x ≡ true → f x ≡ h x) →
    sum_by f xs ≡ sum_by h xs
sum_same f h [] same = refl
sum_same f h (x ∷ xs) same =
    let a = same x (is_in_first x xs) in
    let b = sum_same f h xs (λ y m. same y (is_in_rest x y xs m)) in
    omega (arith, a, b, sum_by-cons f x xs, sum_by-cons h x xs)

-- ---- places

pub place_at : (us : List ℕ) (p : ℕ) → IsApart us → p < length us → place_of us (get_or us p 0)
    ≡ Some p
place_at [] p h l = absurd (omega arith)
place_at (u ∷ us) zero h l =
    ap (λ b. cond b (Some 0) (option_map suc (place_of us u))) (eq-eqb u u refl)
place_at (u ∷ us) (suc p) h l =
    let within : p < length us = omega (arith, l) in
    let apart : u == get_or us p 0 ≡ false = ne_eqb u (get_or us p 0) (λ e. both_ways (is_in us u)
    h.0 (is_in-Contains us u (p, within, get_or_default us p u 0 within ∙ sym e))) in
    ap (λ b. cond b (Some 0) (option_map suc (place_of us (get_or us p 0)))) apart
    ∙ ap (option_map suc) (place_at us p h.1 within)

-- where a number stands in rising ones
pub place_rising : (xs : List ℕ) (x i : ℕ) → IsStrictlyIncreasing xs → i < length xs →
    get_or xs i 0 ≡ x → place_of xs x ≡ Some i
place_rising [] x i up l e = absurd (omega arith)
place_rising (y ∷ ys) x zero up l e =
    ap (λ b. cond b (Some 0) (option_map suc (place_of ys x))) (eq-eqb y x e)
place_rising (y ∷ ys) x (suc i) up l e =
    let later : is_in ys x ≡ true = ap (is_in ys) (sym e) ∙ is_in_at ys i (omega arith) in
    let above = increasing_above y ys up x later in
    ap (λ b. cond b (Some 0) (option_map suc (place_of ys x)))
    (ne_eqb y x (λ s. omega (arith, above, s)))
    ∙ ap (option_map suc) (place_rising ys x i (increasing_rest y ys up) (omega arith) e)

pub place_found : (us : List ℕ) (v i : ℕ) → place_of us v ≡ Some i → (i < length us)
    × (get_or us i 0 ≡ v)
place_found [] v i e = absurd (none-some i e)
place_found (u ∷ us) v i e = by_test (λ j h. place_found us v j h) (u == v) refl e
  where
    rest : ((j : ℕ) → place_of us v ≡ Some j → (j < length us) × (get_or us j 0 ≡ v)) →
        (o : Option ℕ) → place_of us v ≡ o → option_map suc o ≡ Some i → (i < length (u ∷ us))
        × (get_or (u ∷ us) i 0 ≡ v)
    rest earlier None h k = absurd (none-some i k)
    rest earlier (Some j) h k =
        let found = earlier j h in
        subst (λ n. (n < length (u ∷ us)) × (get_or (u ∷ us) n 0 ≡ v)) (same_Some (suc j) i k)
        (omega (arith, found.0), found.1)

    by_test : ((j : ℕ) → place_of us v ≡ Some j → (j < length us) × (get_or us j 0 ≡ v)) →
        (b : Bool) → u == v ≡ b → cond b (Some 0) (option_map suc (place_of us v)) ≡ Some i →
        (i < length (u ∷ us)) × (get_or (u ∷ us) i 0 ≡ v)
    by_test earlier true h k = subst (λ n. (n < length (u ∷ us)) × (get_or (u ∷ us) n 0 ≡ v))
        (same_Some 0 i k) (omega arith, eqb-true u v h)
    by_test earlier false h k = rest earlier (place_of us v) refl k

pub place_there : (us : List ℕ) (v : ℕ) → is_in us v ≡ true → place_of us v ≡ None → ⊥
place_there [] v m e = false≢true m
place_there (u ∷ us) v m e = by_test (place_there us v) (u == v) refl e
  where
    rest : (is_in us v ≡ true → place_of us v ≡ None → ⊥) → (o : Option ℕ) → place_of us v ≡ o →
        option_map suc o ≡ None → is_in us v ≡ true → ⊥
    rest earlier None h k inside = earlier inside h
    rest earlier (Some j) h k inside = none-some (suc j) (sym k)

    by_test : (is_in us v ≡ true → place_of us v ≡ None → ⊥) → (b : Bool) → u == v ≡ b →
        cond b (Some 0) (option_map suc (place_of us v)) ≡ None → ⊥
    by_test earlier true h k = none-some 0 (sym k)
    by_test earlier false h k = rest earlier (place_of us v) refl k (⊎_elim (λ e'.
        absurd (both_ways (u == v) h (eq-eqb u v e'))) (λ r. r) (is_in_cases u v us m))

module _ (us : List ℕ) (apart : IsApart us) (p : ℕ) (within : p < length us) where
  -- two places are one where their detectors are one
  pub same_place : (a i : ℕ) → place_of us a ≡ Some i → (i == p) ≡ (a == get_or us p 0)
  same_place a i e =
      same_tests (i == p) (a == get_or us p 0)
      (λ h. eq-eqb a (get_or us p 0) (sym (place_found us a i e).1
      ∙ ap (λ n. get_or us n 0) (eqb-true i p h)))
      (λ h. eq-eqb i p (same_Some i p (sym e ∙ ap (place_of us) (eqb-true a (get_or us p 0) h)
      ∙ place_at us p apart within)))

  no_place : (a : ℕ) → place_of us a ≡ None → (a == get_or us p 0) ≡ false
  no_place a e = false_from_ne_true (a == get_or us p 0) (λ h. none-some p (sym e
      ∙ ap (place_of us) (eqb-true a (get_or us p 0) h) ∙ place_at us p apart within))

  -- the places of the ends, by their detectors
  pub ends_places : (edge : GraphEdge) → touches us edge ≡ true →
      (let places = filter_map (place_of us) (ends_of edge) in is_in (slice_index places 0
      ∷ option_to_list (slice_get places 1)) p) ≡ is_in (ends_of edge) (get_or us p 0)
  ends_places edge = by_second edge.second
    where
      a : ℕ
      a = edge.first

      by_second : (o : Option ℕ) → list_any (is_in us) (edge.first ∷ option_to_list o) ≡ true →
          (let places = filter_map (place_of us) (edge.first ∷ option_to_list o) in
          is_in (slice_index places 0 ∷ option_to_list (slice_get places 1)) p)
          ≡ is_in (edge.first ∷ option_to_list o) (get_or us p 0)
      by_second None t = by_place (place_of us edge.first) refl
        where
          by_place : (x : Option ℕ) → place_of us edge.first ≡ x → (let places = cons_option x [] in
              is_in (slice_index places 0 ∷ option_to_list (slice_get places 1)) p)
              ≡ is_in (edge.first ∷ []) (get_or us p 0)
          by_place None e = absurd (place_there us edge.first (⊎_elim (λ h. h) (λ h.
              absurd (false≢true h)) (or_cases (is_in us edge.first) false t)) e)
          by_place (Some i) e = ap (λ b. b || false) (same_place edge.first i e)
      by_second (Some c) t = by_places (place_of us edge.first) (place_of us c) refl refl
        where
          by_places : (x y : Option ℕ) → place_of us edge.first ≡ x → place_of us c ≡ y →
              (let places = cons_option x (cons_option y []) in
              is_in (slice_index places 0 ∷ option_to_list (slice_get places 1)) p)
              ≡ is_in (edge.first ∷ c ∷ []) (get_or us p 0)
          by_places None None e f =
              absurd (⊎_elim (λ h. place_there us edge.first h e) (λ h. ⊎_elim (λ k.
              place_there us c k f) (λ k. false≢true k) (or_cases (is_in us c) false h))
              (or_cases (is_in us edge.first) (is_in us c || false) t))
          by_places (Some i) None e f =
              ap (λ b. b || false) (same_place edge.first i e)
              ∙ ap (λ b. (edge.first == get_or us p 0) || (b || false)) (sym (no_place c f))
          by_places None (Some j) e f =
              ap (λ b. b || false) (same_place c j f)
              ∙ ap (λ b. b || ((c == get_or us p 0) || false)) (sym (no_place edge.first e))
          by_places (Some i) (Some j) e f =
              ap (λ b. b || ((j == p) || false)) (same_place edge.first i e)
              ∙ ap (λ b. (edge.first == get_or us p 0) || (b || false)) (same_place c j f)

-- ---- the part's edges

module _ (g : DetectorGraph) (w : ℕ) (window : Window) (real : (e : ℕ) →
    is_in window.edges e ≡ true → (edge : GraphEdge) × (slice_get g.edges e ≡ Some edge)
    × (touches window.detectors edge ≡ true)) (apart : IsApart window.detectors) where
  entry : ℕ → Option PartEdge
  entry e = option_map (part_edge window e) (slice_get g.edges e)

  entries : List ℕ → List PartEdge
  unfolding entry
  entries edges = filter_map (λ e. option_map (part_edge window e) (slice_get g.edges e)) edges

  entry_more : (e : ℕ) (edge : GraphEdge) (edges : List ℕ) → slice_get g.edges e ≡ Some edge →
      entries (e ∷ edges) ≡ part_edge window e edge ∷ entries edges
  unfolding entries
  entry_more e edge edges at =
      ap (λ o. cons_option (option_map (part_edge window e) o) (entries edges)) at

  numbers_same : (edges : List ℕ) → ((e : ℕ) → is_in edges e ≡ true → (edge : GraphEdge)
      × (slice_get g.edges e ≡ Some edge)) → map (λ (x : PartEdge). x.edge) (entries edges) ≡ edges
  unfolding entries
  numbers_same [] h = refl
  numbers_same (e ∷ edges) h =
      let found = h e (is_in_first e edges) in
      ap (map (λ (x : PartEdge). x.edge)) (entry_more e found.0 edges found.1)
      ∙ ap (λ es. e ∷ es) (numbers_same edges (λ x m. h x (is_in_rest e x edges m)))

  abbrev AllReal : List ℕ → Type 0
  AllReal edges = (x : ℕ) → is_in edges x ≡ true → (y : GraphEdge) × (slice_get g.edges x ≡ Some y)

  rest_real : (e : ℕ) (edges : List ℕ) → AllReal (e ∷ edges) → AllReal edges
  rest_real e edges h x m = h x (is_in_rest e x edges m)

  any_forward : (test : PartEdge → Bool) (e : ℕ) (edge : GraphEdge) → slice_get g.edges e
      ≡ Some edge → (es : List ℕ) → AllReal es → list_any (λ x. x.edge == e && test x) (entries es)
      ≡ true → test (part_edge window e edge) ≡ true
  unfolding entries
  any_forward test e edge at [] h t = absurd (false≢true t)
  any_forward test e edge at (x ∷ es) h t =
      let found = h x (is_in_first x es) in
      ⊎_elim
      (λ first.
      let both = and_parts (x == e) (test (part_edge window x found.0)) first in
      let same : found.0 ≡ edge = same_Some found.0 edge (sym found.1
      ∙ ap (slice_get g.edges) (eqb-true x e both.0) ∙ at) in
      subst (λ y. test (part_edge window e y) ≡ true) same
      (subst (λ n. test (part_edge window n found.0) ≡ true) (eqb-true x e both.0) both.1))
      (λ later. any_forward test e edge at es (rest_real x es h) later)
      (or_cases (x == e && test (part_edge window x found.0)) (list_any (λ y. y.edge == e
      && test y) (entries es))
      (subst (λ ys. list_any (λ y. y.edge == e && test y) ys
      ≡ true) (entry_more x found.0 es found.1) t))

  any_backward : (test : PartEdge → Bool) (e : ℕ) (edge : GraphEdge) → slice_get g.edges e
      ≡ Some edge → (es : List ℕ) → AllReal es → is_in es e ≡ true → test (part_edge window e edge)
      ≡ true → list_any (λ x. x.edge == e && test x) (entries es) ≡ true
  unfolding entries
  any_backward test e edge at [] h m t = absurd (false≢true m)
  any_backward test e edge at (x ∷ es) h m t =
      let found = h x (is_in_first x es) in
      subst (λ ys. list_any (λ y. y.edge == e && test y) ys
      ≡ true) (sym (entry_more x found.0 es found.1))
      (⊎_elim
      (λ same.
      let one : found.0 ≡ edge = same_Some found.0 edge (sym found.1 ∙ ap (slice_get g.edges) same
      ∙ at) in
      or_left (x == e && test (part_edge window x found.0)) (list_any (λ y. y.edge == e
      && test y) (entries es))
      (and_from (x == e) (test (part_edge window x found.0)) (eq-eqb x e same)
      (subst (λ n. test (part_edge window n found.0) ≡ true) (sym same)
      (subst (λ y. test (part_edge window e y) ≡ true) (sym one) t))))
      (λ later. or_right (x == e && test (part_edge window x found.0)) (list_any (λ y. y.edge == e
      && test y) (entries es)) (any_backward test e edge at es (rest_real x es h) later t))
      (is_in_cases x e es m))

  -- the weight of a number's entry
  weight_found : (e : ℕ) (edge : GraphEdge) →
      slice_get g.edges e ≡ Some edge → (es : List ℕ) → AllReal es → is_in es e ≡ true →
      option_map_or (λ x. x.weight) (find (λ x. x.edge == e) (entries es)) 0 ≡ edge.weight
  unfolding entries
  weight_found e edge at [] h m = absurd (false≢true m)
  weight_found e edge at (x ∷ es) h m =
      let found = h x (is_in_first x es) in
      ap (λ ys. option_map_or (λ y. y.weight) (find (λ y. y.edge == e) ys) 0)
      (entry_more x found.0 es found.1)
      ∙ ⊎_elim
      (λ same.
      ap (λ b. option_map_or (λ y. y.weight) (cond b (Some (part_edge window x found.0))
      (find (λ y. y.edge == e) (entries es))) 0) (eq-eqb x e same)
      ∙ ap (λ (y : GraphEdge). y.weight) (same_Some found.0 edge (sym found.1
      ∙ ap (slice_get g.edges) same ∙ at)))
      (λ ne.
      ap (λ b. option_map_or (λ y. y.weight) (cond b (Some (part_edge window x found.0))
      (find (λ y. y.edge == e) (entries es))) 0) (ne_eqb x e ne)
      ∙ weight_found e edge at es (rest_real x es h) (⊎_elim (λ same. absurd (ne same)) (λ r.
      r) (is_in_cases x e es m)))
      (cases_eq x e)

  part : Part
  part = part_over g w window

  edges_real : AllReal window.edges
  edges_real x m = let r = real x m in (r.0, r.1)

  meets_same : (p e : ℕ) → p < length window.detectors → is_in window.edges e ≡ true →
      meets part p e ≡ ends_at g (get_or window.detectors p 0) e
  unfolding part entries
  meets_same p e l m =
      let r = real e m in
      same_tests (list_any (λ x. x.edge == e && is_in (places_of x) p) (entries window.edges))
      (is_in (places_of (part_edge window e r.0)) p)
      (any_forward (λ x. is_in (places_of x) p) e r.0 r.1 window.edges edges_real)
      (any_backward (λ x. is_in (places_of x) p) e r.0 r.1 window.edges edges_real m)
      ∙ ends_places window.detectors apart p l r.0 r.2
      ∙ sym (ap (λ o. option_map_or (λ edge. is_in (ends_of edge) (get_or window.detectors p 0)) o
      false) r.1)

  module _ (defect : ℕ → Bool) where
    problem : Problem
    problem = record { part = part_over g w window; defects = map defect window.detectors }

    weight_same : (e : ℕ) → is_in window.edges e ≡ true → problem_weight problem e ≡ weight_at g e
    unfolding problem entries
    weight_same e m = let r = real e m in weight_found e r.0 r.1 window.edges edges_real m
        ∙ sym (ap (λ o. option_map_or (λ edge. edge.weight) o 0) r.1)

    abbrev IsPart : List ℕ → Type 0
    IsPart set = IsCorrection (meets part) (range_with_len 0 (length window.detectors))
        (map (λ (x : PartEdge). x.edge) (part_over g w window).edges) (λ p.
        slice_index_or (map defect window.detectors) p false) set

    abbrev IsWhole : List ℕ → Type 0
    IsWhole set = IsCorrection (ends_at g) window.detectors window.edges defect set

    same_parity : (set : List ℕ) → All (Contains window.edges) set → (p : ℕ) →
        p < length window.detectors → parity (meets part p) set
        ≡ parity (ends_at g (get_or window.detectors p 0)) set
    same_parity set within p l =
        parity-same_in (meets part p) (ends_at g (get_or window.detectors p 0)) set (λ e m.
        meets_same p e l
        (is_in-Contains window.edges e (All-at (Contains window.edges) set e within m)))

    to_whole : (set : List ℕ) → IsPart set → IsWhole set
    unfolding part entries
    to_whole set c =
        let within = subst (λ es. All (Contains es) set) (numbers_same window.edges edges_real)
        c.within in
        record {
          ascending = c.ascending;
          within = within;
          matching = All-from_get_or (λ v. parity (ends_at g v) set ≡ defect v) window.detectors 0
              (λ p l.
              let n : p < length (range_with_len 0 (length window.detectors)) =
              subst (λ k. p < k) (sym (length-range_with_len 0 (length window.detectors))) l in
              sym (same_parity set within p l)
              ∙ subst (λ q. parity (meets part q) set ≡ slice_index_or (map defect window.detectors)
              q false) (get_or-range_with_len 0 (length window.detectors) p 0 l
              ∙ zero-add p) (c.matching p 0 n)
              ∙ get_or-map defect window.detectors p 0 false l);
        }

    to_part : (set : List ℕ) → IsWhole set → IsPart set
    unfolding part entries
    to_part set c = record {
      ascending = c.ascending;
      within = subst (λ es. All (Contains es) set) (sym (numbers_same window.edges edges_real))
          c.within;
      matching = All-from_get_or (λ q. parity (meets part q) set ≡ slice_index_or (map defect
          window.detectors) q false) (range_with_len 0 (length window.detectors)) 0 (λ p n.
          let l : p < length window.detectors =
          subst (λ k. p < k) (length-range_with_len 0 (length window.detectors)) n in
          subst (λ q. parity (meets part q) set ≡ slice_index_or (map defect window.detectors) q
          false) (sym (get_or-range_with_len 0 (length window.detectors) p 0 l ∙ zero-add p))
          (same_parity set c.within p l ∙ c.matching p 0 l
          ∙ sym (get_or-map defect window.detectors p 0 false l)));
    }

    weights_same : (set : List ℕ) → All (Contains window.edges) set →
        sum_by (problem_weight problem) set ≡ sum_by (weight_at g) set
    weights_same set within =
        sum_same (problem_weight problem) (weight_at g) set (λ e m. weight_same e
        (is_in-Contains window.edges e (All-at (Contains window.edges) set e within m)))

    solves_same : (set : List ℕ) →
        Solves (record { part = part_over g w window; defects = map defect window.detectors }) set ↔
        IsLeastCorrection (ends_at g) (weight_at g) window.detectors window.edges defect set
    unfolding part problem
    solves_same set = (
      (λ h.
          let c = to_whole set h.correction in
          record {
            correction = c;
            least = λ other d.
                let le = h.least other (to_part other d) in
                let a = weights_same set c.within in
                let b = weights_same other d.within in
                omega (arith, le, a, b);
          }),
      (λ h.
          record {
            correction = to_part set h.correction;
            least = λ other d.
                let c = to_whole other d in
                let le = h.least other c in
                let a = weights_same set h.correction.within in
                let b = weights_same other c.within in
                omega (arith, le, a, b);
          }),
    )

pub part_law : PartLaw
part_law g tags order commit buffer plan graph each_tag h w within defect set =
    subst (λ (x : Window). Solves (record {
      part = part_over g w x;
      defects = map defect x.detectors;
    }) set ↔ IsLeastCorrection (ends_at g) (weight_at g) x.detectors x.edges defect set)
    (sym made)
    (solves_same g w (window_of g tags plan.homes (length plan.cells) buffer w) real
    (filter_apart (is_reached g plan.homes w buffer) 0 g.vertices) defect set)
  where
    made : window_at plan w ≡ window_of g tags plan.homes (length plan.cells) buffer w
    made = at_window g tags order commit buffer plan graph each_tag h w (let c =
        count_is g tags order commit buffer plan graph each_tag h in omega (arith, c, within))

    real : (e : ℕ) → is_in (window_of g tags plan.homes (length plan.cells) buffer w).edges e
        ≡ true →
        (edge : GraphEdge) × (slice_get g.edges e ≡ Some edge)
        × (touches (detectors_of g plan.homes buffer w) edge ≡ true)
    real e m =
        let f = edge_in g (λ edge. touches (detectors_of g plan.homes buffer w) edge
        && not (goes_below plan.homes w edge)) e m in (
          f.0,
          f.1,
          (and_parts (touches (detectors_of g plan.homes buffer w) f.0)
              (not (goes_below plan.homes w f.0)) f.2).0,
        )
