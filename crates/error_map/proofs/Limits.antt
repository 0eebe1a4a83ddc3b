-- The edges of a schedule's graph are such as a graph may have, and are few.
use Rattle.std.proofs.Common.{◌≡◌, ℕ, zero, suc, ◌+◌, ◌*◌, ◌<◌, ◌≤◌, ◌==◌, ◌≢◌, ⊎_elim, inl, inr, Bool, true, false, cond, refl, sym, ap, ◌∙◌, arith, eq-eqb, subst, length, Option, Some, None, List, [], ◌∷◌, ◌++◌, map, filter, take, slice_get, get_or, All}
use Rattle.std.specs.Prelude.{option_map, option_to_list, IfSome}
use Rattle.std.specs.List.{list_any, range_with_len, filter_map, cons_option}
use Rattle.std.specs.List.Sorted.{IsStrictlyIncreasing}
use Rattle.std.specs.Option.{option_map_or}
use Rattle.std.proofs.lemmas.Bool.{cases_eq, or_left, ne_eqb}
use Rattle.std.proofs.lemmas.Option.{none-some, same_Some, slice_get-map, get_or_from_slice_get}
use Rattle.std.proofs.lemmas.List.{take_more}
use Rattle.std.proofs.lemmas.List.Elements.{filter_map-append, filter-append}
use Rattle.std.proofs.lemmas.List.Kept.{IsStrictlyIncreasing-filter}
use Rattle.graph_model.specs.Parity.{parity}
use Rattle.graph_model.specs.Graph.{GraphEdge, DetectorGraph, IsEdge, is_in, ends_of, ends_at, incident_edges}
use Rattle.graph_model.specs.Limits.{most_edges}
use Rattle.graph_model.specs.declared.Tag.{Tag}
use Rattle.graph_model.proofs.Members.{is_in_first}
use Rattle.graph_model.proofs.Ascending.{increasing_above}
use Rattle.graph_model.proofs.Incidence.{increasing_range}
use Rattle.window_model.specs.Grounded.{IsGrounded}
use Rattle.surface_model.specs.Schedules.{Schedule}
use Rattle.surface_model.specs.Measurements.{Measurement, Detector, detectors, Observable, observables}
use Rattle.surface_model.specs.Errors.{ErrorClass, ReadoutError, SpaceX, SpaceZ, OutcomeError, Mechanism, flips_bit, mechanisms, odd_places, edge_between, edge_of, weight_of_class, checked, watched, sources, graph_of}
use Rattle.surface_model.specs.Accepted.{IsAccepted}
use Rattle.surface_model.specs.Tags.{tag_of, tags_of}
use Rattle.surface_model.specs.Limits.{most_detectors, most_weight}
use Rattle.measure_map.specs.Placed.{PlacedDetector, placed_detector}
use Rattle.graph_model.specs.Members.{In}
use Rattle.graph_model.proofs.Elements.{in_filter, in_filter_map, all_at, all_of, in_range}
use Rattle.surface_laws.proofs.Graphs.{length_map}
use Rattle.surface_laws.proofs.Slots.{masks_law, ten_law, grounded_law}
use Rattle.surface_laws.proofs.Tallies.{tally, tally-le, tally_numbers, length-filter_tally}
use Rattle.error_map.specs.declared.types.Mechanism.{Mechanism as Listed}
use Rattle.error_map.specs.Seen.{mechanism_of, mechanisms_of}
use Rattle.error_map.specs.Sources.{source_of}
use Rattle.error_map.proofs.Loops.{take_whole}

-- ---- one edge

odd_rise : (s : Schedule) (e : Mechanism) (lists : List (List Measurement)) →
    IsStrictlyIncreasing (odd_places s e lists)
odd_rise s e lists =
    IsStrictlyIncreasing-filter (λ n. option_map_or (λ bits. parity (flips_bit s e) bits)
    (slice_get lists n) false) (range_with_len 0 (length lists)) (increasing_range 0 (length lists))

odd_below : (s : Schedule) (e : Mechanism) (lists : List (List Measurement)) (v : ℕ) →
    In v (odd_places s e lists) → v < length lists
odd_below s e lists v m =
    let k = in_filter (λ n. option_map_or (λ bits. parity (flips_bit s e) bits) (slice_get lists n)
    false) (range_with_len 0 (length lists)) v m in
    let r = in_range 0 (length lists) v k.0 in omega (arith, r.1)

class_weight : (s : Schedule) → s.space ≤ most_weight → s.time ≤ most_weight →
    (class : ErrorClass) → weight_of_class s class ≤ most_weight
class_weight s a b ReadoutError = a
class_weight s a b SpaceX = a
class_weight s a b SpaceZ = a
class_weight s a b OutcomeError = b

between_fits : (s : Schedule) → s.space ≤ most_weight → s.time ≤ most_weight →
    (e : Mechanism) (n : ℕ) (xs mask : List ℕ) → IsStrictlyIncreasing xs →
    ((v : ℕ) → In v xs → v < n) → IsStrictlyIncreasing mask → All (λ l. l < 512) mask →
    (edge : GraphEdge) → edge_between s e xs mask ≡ Some edge → IsEdge n edge
between_fits s w t e n [] mask up below rise small edge h = absurd (none-some edge h)
between_fits s w t e n (x ∷ xs) mask up below rise small edge h =
    subst (IsEdge n) (same_Some (record {
      first = x;
      second = slice_get xs 0;
      weight = weight_of_class s e.class;
      mask = mask;
    }) edge h)
    (record {
      first = below x (inl refl);
      second = by_rest xs up below;
      weight = class_weight s w t e.class;
      mask = rise;
      labels = small;
    })
  where
    by_rest : (ys : List ℕ) → IsStrictlyIncreasing (x ∷ ys) → ((v : ℕ) → In v (x ∷ ys) → v < n) →
        IfSome (slice_get ys 0) (λ other. (other < n) × (other ≢ x))
    by_rest [] up below = tt
    by_rest (y ∷ ys) up below = let l = increasing_above x (y ∷ ys) up y (is_in_first y ys) in
        (below y (inr (inl refl)), λ f. omega (arith, l, f))

pub all_edges : (s : Schedule) → IsAccepted s → s.space ≤ most_weight → s.time ≤ most_weight →
    All (IsEdge (length (checked s))) (graph_of s).edges
all_edges s a w t =
    all_of (IsEdge (length (checked s))) (graph_of s).edges
    (λ edge m. let k = in_filter_map (edge_of s (checked s) (watched s)) (mechanisms s) edge m in
    between_fits s w t k.0 (length (checked s)) (odd_places s k.0 (checked s))
    (odd_places s k.0 (watched s)) (odd_rise s k.0 (checked s)) (odd_below s k.0 (checked s))
    (odd_rise s k.0 (watched s))
    (all_of (λ l. l < 512) (odd_places s k.0 (watched s))
    (λ l i. let b = odd_below s k.0 (watched s) l i in let c = (masks_law s a).0 in
    omega (arith, b, c, length_map (λ (o : Observable). o.bits) (observables s))))
    edge k.2)

-- ---- the number of edges

-- those whose first end is below n, one end after the other
abbrev by_first : ℕ → List GraphEdge → ℕ
by_first zero es = 0
by_first (suc n) es = by_first n es + tally (λ (x : GraphEdge). x.first == n) es

first_none : (n : ℕ) → by_first n [] ≡ 0
first_none zero = refl
first_none (suc n) = let k = first_none n in omega (arith, k)

first_past : (n : ℕ) (x : GraphEdge) (es : List GraphEdge) → n ≤ x.first →
    by_first n (x ∷ es) ≡ by_first n es
first_past zero x es l = refl
first_past (suc n) x es l =
    let k = first_past n x es (omega arith) in
    let b = ap {B = ℕ} (λ t. cond t 1 0) (ne_eqb x.first n (λ e. omega (arith, e, l))) in
    omega (arith, k, b)

first_here : (n : ℕ) (x : GraphEdge) (es : List GraphEdge) → x.first < n →
    by_first n (x ∷ es) ≡ by_first n es + 1
first_here zero x es l = absurd (omega arith)
first_here (suc n) x es l =
    ⊎_elim
    (λ e. let k = first_past n x es (omega (arith, e)) in
    let b = ap {B = ℕ} (λ t. cond t 1 0) (eq-eqb x.first n e) in omega (arith, k, b))
    (λ ne. let k = first_here n x es (omega (arith, l, ne)) in
    let b = ap {B = ℕ} (λ t. cond t 1 0) (ne_eqb x.first n ne) in omega (arith, k, b))
    (cases_eq x.first n)

all_first : (n : ℕ) (es : List GraphEdge) → ((x : GraphEdge) → In x es → x.first < n) →
    length es ≡ by_first n es
all_first n [] h = sym (first_none n)
all_first n (x ∷ es) h = let k = all_first n es (λ y m. h y (inr m)) in
    let f = first_here n x es (h x (inl refl)) in omega (arith, k, f)

few_first : (n : ℕ) (es : List GraphEdge) →
    ((v : ℕ) → v < n → tally (λ (x : GraphEdge). x.first == v) es ≤ 10) → by_first n es ≤ 10 * n
few_first zero es h = omega arith
few_first (suc n) es h = let k = few_first n es (λ v l. h v (omega (arith, l))) in
    let b = h n (omega arith) in omega (arith, k, b)

pub few_edges : (s : Schedule) → IsAccepted s → length (detectors s) ≤ most_detectors →
    ((x : GraphEdge) → In x (graph_of s).edges → x.first < length (checked s)) →
    length (graph_of s).edges ≤ most_edges
few_edges s a l below =
    let n = length (checked s) in
    let same : n ≡ length (detectors s) = length_map (λ (d : Detector). d.bits) (detectors s) in
    let k = all_first n (graph_of s).edges below in
    let f = few_first n (graph_of s).edges ten in
    omega (arith, k, f, same, l)
  where
    ten : (v : ℕ) → v < length (checked s) →
        tally (λ (x : GraphEdge). x.first == v) (graph_of s).edges ≤ 10
    ten v h =
        let b = ten_law s a v h in
        let c = length-filter_tally (ends_at (graph_of s) v)
        (range_with_len 0 (length (graph_of s).edges)) in
        let d = tally_numbers (λ (edge : GraphEdge). is_in (ends_of edge) v) (graph_of s).edges in
        let e = tally-le (λ (x : GraphEdge). x.first == v)
        (λ (edge : GraphEdge). is_in (ends_of edge) v) (graph_of s).edges
        (λ x m g. or_left (x.first == v) _ g) in
        omega (arith, b, c, d, e)

-- ---- the whole graph

pub edges_turn : (s : Schedule) (i : ℕ) (e : Mechanism) → i < length (mechanisms s) →
    e ≡ get_or (mechanisms s) i e → (old new : List GraphEdge) →
    old ≡ filter_map (edge_of s (checked s) (watched s)) (take i (mechanisms s)) →
    new ≡ old ++ option_to_list (edge_of s (checked s) (watched s) e) →
    new ≡ filter_map (edge_of s (checked s) (watched s)) (take (i + 1) (mechanisms s))
edges_turn s i e l at old new h k =
    let f = edge_of s (checked s) (watched s) in
    k ∙ ap (λ xs. xs ++ option_to_list (f e)) h
    ∙ ap (λ xs. filter_map f (take i (mechanisms s)) ++ xs) (listed (f e))
    ∙ sym (ap (filter_map f) (take_more (mechanisms s) i e l
    ∙ ap (λ z. take i (mechanisms s) ++ z ∷ []) (sym at))
    ∙ filter_map-append f (take i (mechanisms s)) (e ∷ []))
  where
    listed : (o : Option GraphEdge) → option_to_list o ≡ cons_option o []
    listed (Some x) = refl
    listed None = refl

pub sources_turn : (s : Schedule) (i : ℕ) (e : Mechanism) → i < length (mechanisms s) →
    e ≡ get_or (mechanisms s) i e → (old new : List Mechanism) →
    old ≡ filter (λ x. list_any (λ n. true) (odd_places s x (checked s))) (take i (mechanisms s)) →
    new ≡ old ++ source_of s e →
    new ≡ filter (λ x. list_any (λ n. true) (odd_places s x (checked s)))
    (take (i + 1) (mechanisms s))
sources_turn s i e l at old new h k =
    let p : Mechanism → Bool = λ x. list_any (λ n. true) (odd_places s x (checked s)) in
    k ∙ ap (λ xs. xs ++ source_of s e) h
    ∙ sym (ap (filter p) (take_more (mechanisms s) i e l
    ∙ ap (λ z. take i (mechanisms s) ++ z ∷ []) (sym at))
    ∙ filter-append p (take i (mechanisms s)) (e ∷ []))

pub is_grounded : (s : Schedule) → IsAccepted s → (g : DetectorGraph) (tags : List Tag) →
    g ≡ graph_of s → tags ≡ tags_of s → IsGrounded g tags
is_grounded s a g tags e f =
    subst (λ x. IsGrounded x tags) (sym e)
    (subst (IsGrounded (graph_of s)) (sym f) (grounded_law s a).2)

pub is_sparse : (s : Schedule) → IsAccepted s → (g : DetectorGraph) → g ≡ graph_of s → (v : ℕ) →
    v < g.vertices → length (incident_edges g v) ≤ 10
is_sparse s a g e =
    subst (λ x. (v : ℕ) → v < x.vertices → length (incident_edges x v) ≤ 10) (sym e) (ten_law s a)

-- a mechanism of the list
pub listed_at : (items : List Listed) (ms : List Mechanism) → mechanisms_of items ≡ ms →
    (i : ℕ) (x : Listed) → i < length items → slice_get items i ≡ Some x →
    (i < length ms) × (mechanism_of x ≡ get_or ms i (mechanism_of x))
listed_at items ms e i x l at =
    let long : length items ≡ length ms = sym (length_map mechanism_of items) ∙ ap length e in
    let here : slice_get ms i ≡ Some (mechanism_of x) = ap (λ xs. slice_get xs i) (sym e)
    ∙ slice_get-map mechanism_of items i ∙ ap (option_map mechanism_of) at in (
      omega (arith, l, long),
      sym (get_or_from_slice_get ms i (mechanism_of x) (mechanism_of x) here),
    )

-- what the lists are at the end of the loop
pub edges_all : (s : Schedule) (items : List Listed) → mechanisms_of items ≡ mechanisms s →
    (i : ℕ) → length items ≤ i → (es : List GraphEdge) →
    es ≡ filter_map (edge_of s (checked s) (watched s)) (take i (mechanisms s)) →
    es ≡ (graph_of s).edges
edges_all s items e i l es h =
    h ∙ ap (filter_map (edge_of s (checked s) (watched s)))
    (take_whole (mechanisms_of items) (mechanisms s) e i
    (omega (arith, l, length_map mechanism_of items)))

pub sources_all : (s : Schedule) (items : List Listed) → mechanisms_of items ≡ mechanisms s →
    (i : ℕ) → length items ≤ i → (xs : List Mechanism) →
    xs ≡ filter (λ x. list_any (λ n. true) (odd_places s x (checked s))) (take i (mechanisms s)) →
    xs ≡ sources s
sources_all s items e i l xs h =
    h ∙ ap (filter (λ x. list_any (λ n. true) (odd_places s x (checked s))))
    (take_whole (mechanisms_of items) (mechanisms s) e i
    (omega (arith, l, length_map mechanism_of items)))

-- so the edges fit a graph
pub edges_fit : (s : Schedule) → IsAccepted s → s.space ≤ most_weight → s.time ≤ most_weight →
    length (detectors s) ≤ most_detectors → (n : ℕ) → n ≡ length (detectors s) →
    (es : List GraphEdge) → es ≡ (graph_of s).edges →
    All (IsEdge n) es × (length es ≤ most_edges)
edges_fit s a w t l n h es e =
    let count : length (checked s) ≡ n = length_map (λ (d : Detector). d.bits) (detectors s)
    ∙ sym h in
    let fit = all_edges s a w t in
    let below : (x : GraphEdge) → In x (graph_of s).edges → x.first < length (checked s) =
    λ x m. (all_at (IsEdge (length (checked s))) (graph_of s).edges x fit m).first in (
      subst (λ k. All (IsEdge k) es) count (subst (All (IsEdge (length (checked s)))) (sym e) fit),
      subst (λ xs. length xs ≤ most_edges) (sym e) (few_edges s a l below),
    )

pub same_graph : (s : Schedule) (n : ℕ) → n ≡ length (detectors s) → (es : List GraphEdge) →
    es ≡ (graph_of s).edges → record { vertices = n; edges = es } ≡ graph_of s
same_graph s n h es e = let v : n ≡ length (checked s) = h
    ∙ sym (length_map (λ (d : Detector). d.bits) (detectors s)) in
    λ i. record { vertices = v i; edges = e i }

pub same_tags : (s : Schedule) (ds : List PlacedDetector) →
    ds ≡ map (placed_detector s) (detectors s) → map (λ (d : PlacedDetector). d.tag) ds ≡ tags_of s
same_tags s ds e = ap (map (λ (d : PlacedDetector). d.tag)) e ∙ twice (detectors s)
  where
    twice : (xs : List Detector) → map (λ (d : PlacedDetector). d.tag) (map (placed_detector s) xs)
        ≡ map (tag_of s) xs
    twice [] = refl
    twice (x ∷ xs) = ap (λ ys. tag_of s x ∷ ys) (twice xs)
