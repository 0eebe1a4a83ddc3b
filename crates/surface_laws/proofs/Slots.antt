-- The order of detectors, and the slots and numbers of observables.
use Rattle.std.proofs.Common.{◌≡◌, ℕ, zero, suc, ◌+◌, ◌*◌, ◌<◌, ◌≤◌, ◌==◌, ⊎_elim, inl, inr, Bool, true, false, cond, ◌&&◌, refl, sym, ap, ◌∙◌, arith, subst, List, [], ◌∷◌, ◌++◌, map, filter, flat_map, length, Option, Some, None, slice_get}
use Rattle.std.specs.Prelude.{nat_le}
use Rattle.std.proofs.lemmas.Bool.Decides.{nat_tests}
use Rattle.std.specs.List.{All, range_with_len, filter_map}
use Rattle.std.specs.Option.{option_map_or}
use Rattle.std.proofs.lemmas.Bool.{false≢true, or_cases, or_left, or_right, and_parts}
use Rattle.std.proofs.lemmas.Option.{none-some, same_Some}
use Rattle.graph_model.specs.Parity.{parity}
use Rattle.graph_model.specs.Graph.{GraphEdge, IsGraph, is_in, ends_of}
use Rattle.graph_model.proofs.Members.{is_in-filter, is_in-range}
use Rattle.graph_model.specs.declared.Tag.{Tag}
use Rattle.surface_model.specs.declared.Basis.TheVariants.{Z, X}
use Rattle.surface_model.specs.Schedules.{Schedule, MergeLine, ReadLine}
use Rattle.surface_model.specs.Layout.{Place, last_slot, board, split_slot, is_seam_check}
use Rattle.surface_model.specs.Measurements.{Measurement, Readout, outcome, readouts, is_read_at, Detector, detector_at, detectors, Observable, observables, merge_observables, read_observable}
use Rattle.surface_model.specs.Errors.{ReadoutError, SpaceX, SpaceZ, OutcomeError, Mechanism, flips_bit, mechanisms, odd_places, weight_of_class, edge_between, edge_of, checked, watched, graph_of, space_flips}
use Rattle.surface_model.specs.Accepted.{IsAccepted}
use Rattle.surface_model.specs.Tags.{tag_of, tags_of}
use Rattle.surface_laws.specs.GraphLaws.{TwoDetectorsLaw, EdgesLaw, TenEdgesLaw, GroundedLaw, AscendingLaw, CausalLaw, ObservablesLaw, MasksLaw}
use Rattle.graph_model.specs.Members.{In}
use Rattle.graph_model.proofs.Elements.{mapped_at, in_map, in_filter, in_append, in_flat_map, in_filter_map, in_at, all_of, in_range}
use Rattle.surface_laws.proofs.Sound.{Sound}
use Rattle.surface_laws.proofs.Acceptance.{sound}
use Rattle.surface_laws.proofs.Others.{readout_of, outcome_of, readout_flips, outcome_flips}
use Rattle.surface_laws.proofs.Ends.{Case, of_readout, of_x, of_z, of_outcome, IsMechanism, mechanism_is, IsDetector, detector_is, flipped_is, two_ends, space_beside}
use Rattle.surface_laws.proofs.Graphs.{source_edge, as_many_edges, edges_tally, detector_at_number, length_map}
use Rattle.surface_laws.proofs.Degrees.{ten_flips}
use Rattle.surface_laws.proofs.Tallies.{tally, length-filter_tally}
use Rattle.surface_laws.proofs.Grounded.{grounded}

pub two_law : TwoDetectorsLaw
two_law s a = all_of (λ e. length (odd_places s e (checked s)) ≤ 2) (mechanisms s) (λ e m.
    two_ends s (sound s a) e (mechanism_is s e m))

pub edges_law : EdgesLaw
edges_law s a = (
  as_many_edges s,
  λ k e h. let x = source_edge s (sound s a) k e h in
      (x.edge, x.is, x.ends_are, x.mask_is, x.weight_is),
)

pub ten_law : TenEdgesLaw
ten_law s a v l =
    let d = detector_at_number s v (omega (
      arith,
      l,
      length_map (λ (x : Detector). x.bits) (detectors s),
    )) in
    let b = edges_tally s v d.0 d.1 in
    let c = ten_flips s (sound s a) d.0 (detector_is s d.0 (in_at (detectors s) v d.0 d.1)) in
    omega (arith, b, c)

-- ---- ends and masks are numbers of detectors and observables

in_odd_below : (s : Schedule) (e : Mechanism) (lists : List (List Measurement)) (v : ℕ) →
    is_in (odd_places s e lists) v ≡ true → v < length lists
in_odd_below s e lists v h =
    let p = λ (n : ℕ). option_map_or (λ bits. parity (flips_bit s e) bits) (slice_get lists n)
    false in
    let k = and_parts (is_in (range_with_len 0 (length lists)) v) (p v)
    (sym (is_in-filter p (range_with_len 0 (length lists)) v) ∙ h) in
    let r = is_in-range 0 (length lists) v k.0 in omega (arith, r.1)

end_in : (s : Schedule) (e : Mechanism) (ends mask : List ℕ) (v : ℕ) →
    option_map_or (λ edge. is_in (ends_of edge) v) (edge_between s e ends mask) false ≡ true →
    is_in ends v ≡ true
end_in s e [] mask v h = absurd (false≢true h)
end_in s e (a ∷ []) mask v h = h
end_in s e (a ∷ b ∷ ns) mask v h = ⊎_elim (λ x. or_left (a == v) _ x) (λ x. or_right (a == v) _
    (⊎_elim (λ y. or_left (b == v) _ y) (λ y. absurd (false≢true y)) (or_cases (b == v) false x)))
    (or_cases (a == v) _ h)

is_graph : (s : Schedule) → IsGraph (graph_of s)
is_graph s v k h = by_value (slice_get (graph_of s).edges k) refl h
  where
    by_value : (o : Option GraphEdge) → slice_get (graph_of s).edges k ≡ o →
        option_map_or (λ edge. is_in (ends_of edge) v) o false ≡ true → v < (graph_of s).vertices
    by_value None e g = absurd (false≢true g)
    by_value (Some edge) e g =
        let m = in_filter_map (edge_of s (checked s) (watched s)) (mechanisms s) edge
        (in_at (graph_of s).edges k edge e) in
        in_odd_below s m.0 (checked s) v (end_in s m.0 (odd_places s m.0 (checked s)) (odd_places s
        m.0 (watched s)) v (ap (λ o. option_map_or (λ x. is_in (ends_of x) v) o false) m.2 ∙ g))

pub grounded_law : GroundedLaw
grounded_law s a = (
  is_graph s,
  length_map (tag_of s) (detectors s)
      ∙ sym (length_map (λ (x : Detector). x.bits) (detectors s)),
  grounded s (sound s a),
)

-- ---- slots ascend

abbrev Ascends : List Detector → Type 0
Ascends [] = Unit {0}
Ascends (d ∷ ds) = ((e : Detector) → In e ds → d.slot ≤ e.slot) × Ascends ds

ascends-append : (ds es : List Detector) → Ascends ds → Ascends es →
    ((d e : Detector) → In d ds → In e es → d.slot ≤ e.slot) → Ascends (ds ++ es)
ascends-append [] es a b h = b
ascends-append (d ∷ ds) es a b h = (
  λ e m. ⊎_elim (λ x. a.0 e x) (λ x. h d e (inl refl) x) (in_append ds es e m),
  ascends-append ds es a.1 b (λ x y m n. h x y (inr m) n),
)

ascends_equal : (t : ℕ) (ds : List Detector) → ((d : Detector) → In d ds → d.slot ≡ t) → Ascends ds
ascends_equal t [] h = tt
ascends_equal t (d ∷ ds) h = (
  λ e m. omega (arith, h d (inl refl), h e (inr m)),
  ascends_equal t ds (λ e m. h e (inr m)),
)

made_slot : (t : ℕ) (c : Place) (o : Option (List Measurement)) (d : Detector) →
    option_map_or (λ bits. Some (record { slot = t; corner = c; bits = bits })) o None ≡ Some d →
    d.slot ≡ t
made_slot t c (Some bits) d e = sym
    (ap (λ (x : Detector). x.slot) (same_Some (record { slot = t; corner = c; bits = bits }) d e))
made_slot t c None d e = absurd (none-some d e)

slot_of : (s : Schedule) (t : ℕ) (d : Detector) → In d (filter_map (detector_at s t) (board s)) →
    d.slot ≡ t
slot_of s t d m = let k = in_filter_map (detector_at s t) (board s) d m in made_slot t k.0 _ d k.2

ascends_from : (s : Schedule) (a n : ℕ) →
    Ascends (flat_map (λ t. filter_map (detector_at s t) (board s)) (range_with_len a n))
ascends_from s a zero = tt
ascends_from s a (suc n) =
    ascends-append (filter_map (detector_at s a) (board s)) (flat_map (λ t.
    filter_map (detector_at s t) (board s)) (range_with_len (a + 1) n)) (ascends_equal a
    (filter_map (detector_at s a) (board s)) (slot_of s a)) (ascends_from s (a + 1) n)
    (λ d e m i. let k = in_flat_map (λ t. filter_map (detector_at s t) (board s))
    (range_with_len (a + 1) n) e i in
    omega (arith, slot_of s a d m, slot_of s k.0 e k.2, (in_range (a + 1) n k.0 k.1).0))

ascends_at : (ds : List Detector) (u v : ℕ) (d e : Detector) → Ascends ds →
    slice_get ds u ≡ Some d → slice_get ds v ≡ Some e → u < v → d.slot ≤ e.slot
ascends_at [] u v d e a h k l = absurd (none-some d h)
ascends_at (x ∷ ds) u zero d e a h k l = absurd (omega arith)
ascends_at (x ∷ ds) zero (suc v) d e a h k l =
    subst (λ (y : Detector). y.slot ≤ e.slot) (same_Some x d h) (a.0 e (in_at ds v e k))
ascends_at (x ∷ ds) (suc u) (suc v) d e a h k l = ascends_at ds u v d e a.1 h k (omega arith)

tagged : (s : Schedule) (u : ℕ) (a : Tag) → slice_get (tags_of s) u ≡ Some a → (d : Detector)
    × (slice_get (detectors s) u ≡ Some d) × (d.slot ≡ a.slot)
tagged s u a h = let k = mapped_at (tag_of s) (detectors s) u a h in
    (k.0, k.1, ap (λ (x : Tag). x.slot) (sym k.2))

pub ascending_law : AscendingLaw
ascending_law s u v a b h k l =
    let d = tagged s u a h in let e = tagged s v b k in
    let o = ascends_at (detectors s) u v d.0 e.0 (ascends_from s 0 (last_slot s + 1)) d.1 e.1 l in
    omega (arith, o, d.2, e.2)

-- ---- no earlier detector

causal : (s : Schedule) → Sound s → (e : Mechanism) → IsMechanism s e → (d : Detector) →
    IsDetector s d → parity (flips_bit s e) d.bits ≡ true → e.slot ≤ d.slot
causal s ok e i d k f = by_case i.case
  where
    flip_as : (class : _) → e.class ≡ class →
        parity (flips_bit s (record { slot = e.slot; class = class; place = e.place })) d.bits
        ≡ true
    flip_as class h = subst (λ c. parity (flips_bit s (record {
      slot = e.slot;
      class = c;
      place = e.place;
    })) d.bits ≡ true) h f

    by_case : Case s e → e.slot ≤ d.slot
    by_case (of_readout h a) = let b = readout_flips s ok e.slot e.place i.on_board
        d.slot d.corner (flipped_is s (readout_of e.slot e.place) d k ∙ flip_as ReadoutError h) in
        omega (arith, b.slot)
    by_case (of_x h a) = let b = space_beside s ok Z e.slot e.place i.on_board a i.last
        d.slot d.corner k.last (flipped_is s (λ m. space_flips s Z e.slot e.place m.slot m.bit) d k
        ∙ flip_as SpaceX h) in omega (arith, b.slot)
    by_case (of_z h a) = let b = space_beside s ok X e.slot e.place i.on_board a i.last
        d.slot d.corner k.last (flipped_is s (λ m. space_flips s X e.slot e.place m.slot m.bit) d k
        ∙ flip_as SpaceZ h) in omega (arith, b.slot)
    by_case (of_outcome h a) = let b = outcome_flips s e.slot e.place d.slot
        d.corner (flipped_is s (outcome_of e.slot e.place) d k ∙ flip_as OutcomeError h) in
        ⊎_elim (λ x. omega (arith, x)) (λ x. omega (arith, x)) b.slot

pub causal_law : CausalLaw
causal_law s a =
    all_of (λ e. All (λ (d : Detector). parity (flips_bit s e) d.bits ≡ true →
    e.slot ≤ d.slot) (detectors s)) (mechanisms s)
    (λ e m. all_of (λ (d : Detector). parity (flips_bit s e) d.bits ≡ true → e.slot ≤ d.slot)
    (detectors s) (λ d n. causal s (sound s a) e (mechanism_is s e m) d (detector_is s d n)))

-- ---- observables

in_slot : (s : Schedule) (t : ℕ) (test : Place → Bool) (m : Measurement) →
    In m (readouts s t test) → m.slot ≡ t
in_slot s t test m h = let k = in_map (λ q. record { slot = t; bit = Readout q }) (filter (λ q.
    is_read_at s t q && test q) (board s)) m h in sym (ap (λ (x : Measurement). x.slot) k.2)

of_merge : (s : Schedule) (n : MergeLine) (o : Observable) → In o (merge_observables s n) →
    (m : Measurement) → In m o.bits → m.slot ≡ o.slot
of_merge s n o (inl e) m h =
    let g : In m (map (outcome n.slot) (filter (is_seam_check s n) (board s))) =
    subst (λ (x : Observable). In m x.bits) (sym e) h in
    let k = in_map (outcome n.slot) (filter (is_seam_check s n) (board s)) m g in
    sym (ap (λ (x : Measurement). x.slot) k.2) ∙ ap (λ (x : Observable). x.slot) e
of_merge s n o (inr (inl e)) m h =
    in_slot s (split_slot n) _ m (subst (λ (x : Observable). In m x.bits) (sym e) h)
    ∙ ap (λ (x : Observable). x.slot) e
of_merge s n o (inr (inr e)) m h = absurd e

of_read : (s : Schedule) (n : ReadLine) (m : Measurement) → In m (read_observable s n).bits →
    m.slot ≡ n.slot
of_read s n m h = in_slot s n.slot _ m h

abbrev pub line_observables : Schedule → ℕ → List Observable
line_observables s n =
    flat_map (merge_observables s) (filter (λ (merge : MergeLine). merge.line == n) s.merges)
    ++ map (read_observable s) (filter (λ (line : ReadLine). line.line == n) s.reads)

observable_slot : (s : Schedule) (o : Observable) → In o (observables s) → (m : Measurement) →
    In m o.bits → m.slot ≡ o.slot
observable_slot s o h m g =
    let k = in_flat_map (line_observables s) (range_with_len 0 s.rounds_line) o h in
    ⊎_elim (λ a. let i = in_flat_map (merge_observables s) (filter (λ (merge : MergeLine).
    merge.line == k.0) s.merges) o a in of_merge s i.0 o i.2 m g)
    (λ b. let i = in_map (read_observable s) (filter (λ (line : ReadLine). line.line == k.0)
    s.reads) o b in
    of_read s i.0 m (subst (λ (x : Observable). In m x.bits) (sym i.2) g)
    ∙ ap (λ (x : Observable). x.slot) i.2)
    (in_append (flat_map
    (merge_observables s) (filter (λ (merge : MergeLine). merge.line == k.0) s.merges))
    (map (read_observable s) (filter (λ (line : ReadLine). line.line == k.0) s.reads)) o k.2)

pub observables_law : ObservablesLaw
observables_law s =
    all_of (λ (o : Observable). All (λ (m : Measurement). m.slot ≡ o.slot) o.bits) (observables s)
    (λ o h. all_of (λ (m : Measurement). m.slot ≡ o.slot) o.bits (λ m g. observable_slot s o h m g))

length_append : {X : Type 0} (xs ys : List X) → length (xs ++ ys) ≡ length xs + length ys
length_append [] ys = omega arith
length_append (x ∷ xs) ys = let k = length_append xs ys in omega (arith, k)

two_each : (s : Schedule) (ms : List MergeLine) → length (flat_map (merge_observables s) ms)
    ≡ 2 * length ms
two_each s [] = refl
two_each s (m ∷ ms) = let k = two_each s ms in let e = length_append (merge_observables s m)
    (flat_map (merge_observables s) ms) in omega (arith, k, e)

parted : {X : Type 0} (p q r : X → Bool) (xs : List X) → ((x : X) →
    cond (p x) 1 0 + cond (q x) 1 0 ≤ cond (r x) 1 0) → tally p xs + tally q xs ≤ tally r xs
parted p q r [] h = omega arith
parted p q r (x ∷ xs) h = let k = parted p q r xs h in let e = h x in omega (arith, k, e)

line_step : (a n : ℕ) → cond {A = ℕ} (n == a) 1 0 + cond (nat_le (a + 1) n) 1 0
    ≤ cond (nat_le a n) 1 0
line_step a n = grind (arith, nat_tests)

-- the observables of the lines from a on
line_count : (s : Schedule) (a n : ℕ) → length (flat_map (line_observables s) (range_with_len a n))
    ≤ 2 * tally (λ (m : MergeLine). nat_le a m.line) s.merges
    + tally (λ (r : ReadLine). nat_le a r.line) s.reads
line_count s a zero = omega arith
line_count s a (suc n) =
    let k = line_count s (a + 1) n in
    let ms = filter (λ (m : MergeLine). m.line == a) s.merges in
    let rs = filter (λ (r : ReadLine). r.line == a) s.reads in
    let b = length_append (line_observables s a)
    (flat_map (line_observables s) (range_with_len (a + 1) n)) in
    let c = length_append (flat_map (merge_observables s) ms) (map (read_observable s) rs) in
    let d = two_each s ms in
    let e = length_map (read_observable s) rs in
    let f = length-filter_tally (λ (m : MergeLine). m.line == a) s.merges in
    let g = length-filter_tally (λ (r : ReadLine). r.line == a) s.reads in
    let h = parted (λ (m : MergeLine). m.line == a) (λ (m : MergeLine). nat_le (a + 1) m.line)
    (λ (m : MergeLine). nat_le a m.line) s.merges (λ m. line_step a m.line) in
    let i = parted (λ (r : ReadLine). r.line == a) (λ (r : ReadLine). nat_le (a + 1) r.line)
    (λ (r : ReadLine). nat_le a r.line) s.reads (λ r. line_step a r.line) in
    omega (arith, k, b, c, d, e, f, g, h, i)

tally_short : {X : Type 0} (p : X → Bool) (xs : List X) → tally p xs ≤ length xs
tally_short p [] = omega arith
tally_short p (x ∷ xs) = let k = tally_short p xs in let e = small (p x) in omega (arith, k, e)
  where
    small : (b : Bool) → cond {A = ℕ} b 1 0 ≤ 1
    small true = omega arith
    small false = omega arith

few_observables : (s : Schedule) → IsAccepted s → length (observables s) ≤ 512
few_observables s a =
    let k = line_count s 0 s.rounds_line in
    let m = tally_short (λ (m : MergeLine). nat_le 0 m.line) s.merges in
    let r = tally_short (λ (r : ReadLine). nat_le 0 r.line) s.reads in
    let f = a.ranges.few in omega (arith, k, m, r, f)

mask_of : (s : Schedule) (e : Mechanism) (ends mask : List ℕ) (edge : GraphEdge) →
    edge_between s e ends mask ≡ Some edge → mask ≡ edge.mask
mask_of s e [] mask edge h = absurd (none-some edge h)
mask_of s e (a ∷ ns) mask edge h = ap (λ (x : GraphEdge). x.mask) (same_Some (record {
  first = a;
  second = slice_get ns 0;
  weight = weight_of_class s e.class;
  mask = mask;
}) edge h)

mask_below : (s : Schedule) (e : Mechanism) (l : ℕ) → In l (odd_places s e (watched s)) →
    l < length (observables s)
mask_below s e l m =
    let k = in_filter (λ n. option_map_or (λ bits. parity (flips_bit s e) bits)
    (slice_get (watched s) n) false) (range_with_len 0 (length (watched s))) l m in
    let r = in_range 0 (length (watched s)) l k.0 in
    omega (arith, r.1, length_map (λ (o : Observable). o.bits) (observables s))

pub masks_law : MasksLaw
masks_law s a = (
  few_observables s a,
  all_of (λ (edge : GraphEdge). All (λ l. l < length (observables s)) edge.mask) (graph_of s).edges
      (λ edge m. all_of (λ l. l < length (observables s)) edge.mask
      (λ l i. let k = in_filter_map (edge_of s (checked s) (watched s)) (mechanisms s) edge m in
      mask_below s k.0 l (subst (In l) (sym (mask_of s k.0 (odd_places s k.0 (checked s))
      (odd_places s k.0 (watched s)) edge k.2)) i))),
)
