-- Laws of a part's edges by their numbers, which rise.
use Rattle.std.proofs.Common.{◌≡◌, ℕ, zero, suc, ◌==◌, ◌&&◌, ◌||◌, Bool, true, false, cond, List, [], ◌∷◌, refl, ap, ◌∙◌, subst, arith, eq-eqb, eqb-true, find, map, Some, slice_get, option_to_list, length, ⊎_elim, ◌<◌}
use Rattle.std.proofs.lemmas.Bool.{ne_eqb, false≢true, and_parts, or_cases}
use Rattle.std.proofs.lemmas.Option.{none-some, same_Some, get_or_from_slice_get, slice_get_within}
use Rattle.std.specs.List.{list_any}
use Rattle.std.specs.List.Sorted.{IsStrictlyIncreasing}
use Rattle.std.specs.Option.{option_map_or}
use Rattle.graph_model.specs.Graph.{is_in}
use Rattle.graph_model.specs.Problems.{Part, Problem, IsPart, IsPartEdge, places_of, meets, problem_weight}
use Rattle.graph_model.specs.declared.PartEdge.{PartEdge}
use Rattle.graph_model.proofs.Members.{is_in_first, is_in_rest, is_in_cases}
use Rattle.graph_model.proofs.Edges.{second_below}
use Rattle.graph_model.proofs.Truths.{or_false}
use Rattle.graph_model.proofs.Ascending.{increasing_rest, increasing_above}

abbrev pub numbers_of : List PartEdge → List ℕ
numbers_of edges = map (λ (edge : PartEdge). edge.edge) edges

pub number_in : (edges : List PartEdge) (k : ℕ) (edge : PartEdge) → slice_get edges k ≡ Some edge →
    is_in (numbers_of edges) edge.edge ≡ true
number_in [] k edge h = absurd (none-some edge h)
number_in (x ∷ xs) zero edge h = subst (λ (y : PartEdge). is_in (numbers_of (x ∷ xs)) y.edge
    ≡ true) (same_Some x edge h) (is_in_first x.edge (numbers_of xs))
number_in (x ∷ xs) (suc k) edge h =
    is_in_rest x.edge edge.edge (numbers_of xs) (number_in xs k edge h)

-- the first of the edges has another number than each later one
later_differs : (x : PartEdge) (xs : List PartEdge) → IsStrictlyIncreasing (numbers_of (x ∷ xs)) →
    (k : ℕ) (edge : PartEdge) → slice_get xs k ≡ Some edge → x.edge == edge.edge ≡ false
later_differs x xs up k edge h = ne_eqb x.edge edge.edge (λ e. let l = increasing_above x.edge
    (numbers_of xs) up edge.edge (number_in xs k edge h) in omega (arith, l, e))

pub any_absent : (p : PartEdge → Bool) (edges : List PartEdge) (e : ℕ) →
    (is_in (numbers_of edges) e ≡ true → ⊥) → list_any (λ x. x.edge == e && p x) edges ≡ false
any_absent p [] e h = refl
any_absent p (x ∷ xs) e h =
    ap (λ b. (b && p x) || list_any (λ x. x.edge == e && p x) xs) (ne_eqb x.edge e (λ s. h
    (subst (λ n. is_in (numbers_of (x ∷ xs)) n ≡ true) s (is_in_first x.edge (numbers_of xs)))))
    ∙ any_absent p xs e (λ m. h (is_in_rest x.edge e (numbers_of xs) m))

-- a test of the edge with this number is a test of the one edge that has it
pub any_number : (p : PartEdge → Bool) (edges : List PartEdge) →
    IsStrictlyIncreasing (numbers_of edges) → (k : ℕ) (edge : PartEdge) → slice_get edges k
    ≡ Some edge → list_any (λ x. x.edge == edge.edge && p x) edges ≡ p edge
any_number p [] up k edge h = absurd (none-some edge h)
any_number p (x ∷ xs) up zero edge h = subst (λ (y : PartEdge). list_any (λ z. z.edge == y.edge
    && p z) (x ∷ xs) ≡ p y) (same_Some x edge h) here
  where
    later : list_any (λ z. z.edge == x.edge && p z) xs ≡ false
    later = any_absent p xs x.edge (λ m. let l = increasing_above x.edge (numbers_of xs) up x.edge
        m in omega (arith, l))

    here : list_any (λ z. z.edge == x.edge && p z) (x ∷ xs) ≡ p x
    here = ap (λ b. (b && p x) || list_any (λ z. z.edge == x.edge && p z) xs)
        (eq-eqb x.edge x.edge refl) ∙ ap (λ b. p x || b) later ∙ or_false (p x)
any_number p (x ∷ xs) up (suc k) edge h =
    ap (λ b. (b && p x) || list_any (λ z. z.edge == edge.edge && p z) xs)
    (later_differs x xs up k edge h)
    ∙ any_number p xs (increasing_rest x.edge (numbers_of xs) up) k edge h

pub find_number : (edges : List PartEdge) → IsStrictlyIncreasing (numbers_of edges) →
    (k : ℕ) (edge : PartEdge) → slice_get edges k ≡ Some edge →
    find (λ x. x.edge == edge.edge) edges ≡ Some edge
find_number [] up k edge h = absurd (none-some edge h)
find_number (x ∷ xs) up zero edge h =
    subst (λ (y : PartEdge). find (λ z. z.edge == y.edge) (x ∷ xs) ≡ Some y) (same_Some x edge h)
    (ap (λ b. cond b (Some x) (find (λ z. z.edge == x.edge) xs)) (eq-eqb x.edge x.edge refl))
find_number (x ∷ xs) up (suc k) edge h =
    ap (λ b. cond b (Some x) (find (λ z. z.edge == edge.edge) xs)) (later_differs x xs up k edge h)
    ∙ find_number xs (increasing_rest x.edge (numbers_of xs) up) k edge h

-- ---- by the edge's own number
pub meets_at : (part : Part) → IsStrictlyIncreasing (numbers_of part.edges) →
    (place k : ℕ) (edge : PartEdge) → slice_get part.edges k ≡ Some edge →
    meets part place edge.edge ≡ is_in (places_of edge) place
meets_at part up place k edge h = any_number (λ x. is_in (places_of x) place) part.edges up k edge h

pub problem_weight_at : (p : Problem) → IsStrictlyIncreasing (numbers_of p.part.edges) →
    (k : ℕ) (edge : PartEdge) → slice_get p.part.edges k ≡ Some edge → problem_weight p edge.edge
    ≡ edge.weight
problem_weight_at p up k edge h =
    ap (λ o. option_map_or (λ (x : PartEdge). x.weight) o 0) (find_number p.part.edges up k edge h)

pub owned_at : (part : Part) → IsStrictlyIncreasing (numbers_of part.edges) →
    (k : ℕ) (edge : PartEdge) → slice_get part.edges k ≡ Some edge →
    list_any (λ x. x.edge == edge.edge && x.owned) part.edges ≡ edge.owned
owned_at part up k edge h = any_number (λ x. x.owned) part.edges up k edge h

-- ---- the edges of a part
pub any_place : {X : Type 0} (p : X → Bool) (xs : List X) → list_any p xs ≡ true → (k : ℕ) × (x : X)
    × (slice_get xs k ≡ Some x) × (p x ≡ true)
any_place p [] h = absurd (false≢true h)
any_place p (x ∷ xs) h = ⊎_elim (λ e. (0, x, refl, e)) (λ r. let k = any_place p xs r in
    (suc k.0, k.1, k.2, k.3)) (or_cases (p x) (list_any p xs) h)

-- an edge that meets a place is one of the part's
pub meets_edge : (part : Part) (place e : ℕ) → meets part place e ≡ true →
    (k : ℕ) × (edge : PartEdge) × (slice_get part.edges k ≡ Some edge) × (edge.edge ≡ e)
    × (is_in (places_of edge) place ≡ true)
meets_edge part place e h =
    let found = any_place (λ (edge : PartEdge). edge.edge == e && is_in (places_of edge) place)
    part.edges h in
    let both = and_parts (found.1.edge == e) (is_in (places_of found.1) place) found.3 in
    (found.0, found.1, found.2, eqb-true found.1.edge e both.0, both.1)

pub part_edge_fits : (part : Part) → IsPart part → (k : ℕ) (edge : PartEdge) →
    slice_get part.edges k ≡ Some edge → IsPartEdge (length part.detectors) edge
part_edge_fits part fits_ k edge h =
    subst (IsPartEdge (length part.detectors)) (get_or_from_slice_get part.edges k edge edge h)
    (fits_.fits k edge (slice_get_within part.edges k edge h))

pub place_below : (n place : ℕ) (edge : PartEdge) → IsPartEdge n edge → is_in (places_of edge) place
    ≡ true → place < n
place_below n place edge h m =
    ⊎_elim (λ e. subst (λ x. x < n) e h.first) (λ r. second_below n place edge.second edge.first
    h.second r) (is_in_cases edge.first place (option_to_list edge.second) m)

pub meets_below : (part : Part) → IsPart part → (place e : ℕ) → meets part place e ≡ true →
    place < length part.detectors
meets_below part fits_ place e h =
    let found = meets_edge part place e h in
    place_below (length part.detectors) place found.1 (part_edge_fits part fits_ found.0 found.1
    found.2) found.4
