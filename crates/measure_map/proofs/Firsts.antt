-- The number of each slot's first detector.
use Rattle.std.proofs.Common.{◌≡◌, ℕ, zero, suc, ◌+◌, ◌-◌, ◌<◌, ◌≤◌, ◌==◌, ◌⊎◌, ⊎_elim, inl, inr, refl, sym, ap, ◌∙◌, arith, subst, List, [], ◌∷◌, ◌++◌, map, filter, take, drop, length, get_or, slice_get, Option, Some, None}
use Rattle.std.specs.List.{filter_map, flat_map, range_with_len, cons_option}
use Rattle.std.specs.Option.{option_map_or}
use Rattle.std.proofs.lemmas.Bool.{cases_lt}
use Rattle.std.proofs.lemmas.List.{append_assoc, get_or-drop, length-append, length-drop, length-map}
use Rattle.std.proofs.lemmas.List.FromFn.{get_or-map-range_with_len, length-map-range_with_len}
use Rattle.std.proofs.lemmas.Option.{get_or_from_slice_get, none-some, slice_get-get_or, same_Some, slice_get_within}
use Rattle.surface_model.specs.Schedules.{Schedule}
use Rattle.surface_model.specs.Layout.{Place, board, last_slot}
use Rattle.surface_model.specs.Measurements.{Measurement, Detector, detector_at, detector_bits, detectors}
use Rattle.measure_map.specs.Placed.{IsFirstOf, Placed, PlacedDetector, map_of, placed_detector}
use Rattle.measure_map.specs.Indexed.{IsIndexed}
use Rattle.measure_map.specs.Slots.{detectors_before}
use Rattle.measure_map.proofs.Folding.{stretch}

-- ---- reading a list of two parts, and a mapped one

split_get : {X : Type 0} (xs ys : List X) (i : ℕ) (x : X) → slice_get (xs ++ ys) i ≡ Some x →
    ((i < length xs) × (slice_get xs i ≡ Some x)) ⊎ ((length xs ≤ i)
    × ((k : ℕ) × (slice_get ys k ≡ Some x)))
split_get [] ys i x e = inr (omega arith, (i, e))
split_get (z ∷ xs) ys zero x e = inl (omega arith, e)
split_get (z ∷ xs) ys (suc i) x e =
    ⊎_elim (λ h. inl (omega (arith, h.0), h.1)) (λ h. inr (omega (arith, h.0), h.1))
    (split_get xs ys i x e)

map_get : {X Y : Type 0} (f : X → Y) (xs : List X) (i : ℕ) (y : Y) →
    slice_get (map f xs) i ≡ Some y → (x : X) × (slice_get xs i ≡ Some x) × (f x ≡ y)
map_get f [] i y e = absurd (none-some y e)
map_get f (x ∷ xs) zero y e = (x, refl, same_Some (f x) y e)
map_get f (x ∷ xs) (suc i) y e = map_get f xs i y e

-- ---- lists end to end, one for each slot

module _ {X : Type 0} (f : ℕ → List X) (n : X → ℕ) (own : (t i : ℕ) (x : X) →
    slice_get (f t) i ≡ Some x → n x ≡ t) where
  within : (a k i : ℕ) (x : X) → slice_get (flat_map f (range_with_len a k)) i ≡ Some x →
      (a ≤ n x) × (n x < a + k)
  within a zero i x e = absurd (none-some x e)
  within a (suc k) i x e =
      ⊎_elim (λ h. let o = own a i x h.1 in (omega (arith, o), omega (arith, o)))
      (λ h. let w = within (a + 1) k h.1.0 x h.1.1 in (omega (arith, w.0), omega (arith, w.1)))
      (split_get (f a) (flat_map f (range_with_len (a + 1) k)) i x e)

  parts : (a k j m : ℕ) → m ≡ k + j →
      flat_map f (range_with_len a m) ≡ flat_map f (range_with_len a k)
      ++ flat_map f (range_with_len (a + k) j)
  parts a zero j m e =
      let g : m ≡ j = omega (arith, e) in
      let l : a ≡ a + 0 = omega arith in
      ap (λ p. flat_map f (range_with_len a p)) g ∙ ap (λ b. flat_map f (range_with_len b j)) l
  parts a (suc k) j zero e = absurd (omega (arith, e))
  parts a (suc k) j (suc m) e =
      let l : a + 1 + k ≡ a + suc k = omega arith in
      ap (λ zs. f a ++ zs) (parts (a + 1) k j m (omega (arith, e))
      ∙ ap (λ b. flat_map f (range_with_len (a + 1) k) ++ flat_map f (range_with_len b j)) l)
      ∙ sym (append_assoc (f a) (flat_map f (range_with_len (a + 1) k))
      (flat_map f (range_with_len (a + suc k) j)))

  module _ (total t : ℕ) (l : t ≤ total) where
    abbrev first : List X
    first = flat_map f (range_with_len 0 t)

    abbrev rest : List X
    rest = flat_map f (range_with_len (0 + t) (total - t))

    all_is : flat_map f (range_with_len 0 total) ≡ first ++ rest
    all_is = parts 0 t (total - t) total (omega (arith, l))

    pub no_more : length first ≤ length (flat_map f (range_with_len 0 total))
    no_more = let a = ap length all_is in let b = length-append first rest in omega (arith, a, b)

    pub earlier : (i : ℕ) (x : X) → i < length first →
        slice_get (flat_map f (range_with_len 0 total)) i ≡ Some x → n x < t
    earlier i x m e =
        ⊎_elim (λ h. let w = within 0 t i x h.1 in
        omega (arith, w.1)) (λ h. absurd (omega (arith, m, h.0)))
        (split_get first rest i x (ap (λ zs. slice_get zs i) (sym all_is) ∙ e))

    pub later : (i : ℕ) (x : X) → length first ≤ i →
        slice_get (flat_map f (range_with_len 0 total)) i ≡ Some x → t ≤ n x
    later i x m e =
        ⊎_elim (λ h. absurd (omega (arith, m, h.0)))
        (λ h. let w = within (0 + t) (total - t) h.1.0 x h.1.1 in omega (arith, w.0))
        (split_get first rest i x (ap (λ zs. slice_get zs i) (sym all_is) ∙ e))

-- ---- the detectors of a schedule

own_slot : (s : Schedule) (t : ℕ) (cs : List Place) (i : ℕ) (d : Detector) →
    slice_get (filter_map (detector_at s t) cs) i ≡ Some d → d.slot ≡ t
own_slot s t [] i d e = absurd (none-some d e)
own_slot s t (c ∷ cs) i d e = by_bits (detector_bits s t c) (λ k g. own_slot s t cs k d g) i e
  where
    by_bits : (o : Option (List Measurement)) →
        ((k : ℕ) → slice_get (filter_map (detector_at s t) cs) k ≡ Some d → d.slot ≡ t) → (i : ℕ) →
        slice_get (cons_option
        (option_map_or (λ bits. Some (record { slot = t; corner = c; bits = bits })) o None)
        (filter_map (detector_at s t) cs)) i ≡ Some d → d.slot ≡ t
    by_bits (Some bits) more zero e =
        sym (ap (λ (x : Detector). x.slot)
        (same_Some (record { slot = t; corner = c; bits = bits }) d e))
    by_bits (Some bits) more (suc i) e = more i e
    by_bits None more i e = more i e

module _ (s : Schedule) where
  abbrev F : ℕ → List Detector
  F t = filter_map (detector_at s t) (board s)

  abbrev N : Detector → ℕ
  N d = d.slot

  own : (t i : ℕ) (d : Detector) → slice_get (F t) i ≡ Some d → N d ≡ t
  own t i d e = own_slot s t (board s) i d e

  first_at : (ds : List PlacedDetector) → ds ≡ map (placed_detector s) (detectors s) → (t : ℕ) →
      t ≤ last_slot s + 1 → IsFirstOf ds t (length (detectors_before s t))
  first_at ds e t l = subst (λ xs. IsFirstOf xs t (length (detectors_before s t))) (sym e) (record {
    within = let a = length-map (detectors s) (placed_detector s) in
        let b = no_more F N own (last_slot s + 1) t l in omega (arith, a, b);
    below = λ i d m g. let k = map_get (placed_detector s) (detectors s) i d g in
        let h = earlier F N own (last_slot s + 1) t l i k.0 m k.1 in
        subst (λ (x : PlacedDetector). x.tag.slot < t) k.2 h;
    above = λ i d m g. let k = map_get (placed_detector s) (detectors s) i d g in
        let h = later F N own (last_slot s + 1) t l i k.0 m k.1 in
        subst (λ (x : PlacedDetector). t ≤ x.tag.slot) k.2 h;
  })

  -- past the last slot
  end_at : (ds : List PlacedDetector) → ds ≡ map (placed_detector s) (detectors s) → (t : ℕ) →
      last_slot s + 1 ≤ t → IsFirstOf ds t (length ds)
  end_at ds e t l =
      let f = first_at ds e (last_slot s + 1) (omega arith) in
      let long : length ds ≡ length (detectors s) =
      ap length e ∙ length-map (detectors s) (placed_detector s) in
      record {
        within = omega arith;
        below = λ i d m g. let h = f.below i d (omega (arith, m, long)) g in omega (arith, h, l);
        above = λ i d m g. absurd (omega (arith, m, slice_get_within ds i d g));
      }

map_detectors : (s : Schedule) (m : Placed) → m ≡ map_of s →
    m.detectors ≡ map (placed_detector s) (detectors s)
unfolding map_of
map_detectors s m e = ap (λ (p : Placed). p.detectors) e

start_is : (f : ℕ → ℕ) (n t : ℕ) (xs : List ℕ) (x : ℕ) → xs ≡ map f (range_with_len 0 n) →
    slice_get xs t ≡ Some x → (t < n) × (x ≡ f t)
start_is f n t xs x e g =
    let l : t < n = let a = slice_get_within xs t x g in let b = ap length e in
    let c = length-map-range_with_len f 0 n in omega (arith, a, b, c) in (
      l,
      sym (get_or_from_slice_get xs t x 0 g) ∙ ap (λ ys. get_or ys t 0) e
          ∙ get_or-map-range_with_len f 0 n t t 0 l (omega arith),
    )

module _ (m : Placed) (starts : List ℕ) (x : IsIndexed m starts) (t : ℕ) where
  pub first_is : (n : ℕ) → slice_get starts t ≡ Some n → IsFirstOf m.detectors t n
  first_is n e =
      let s = x.map_is.schedule in
      let k = start_is (λ u. length (detectors_before s u)) (last_slot s + 1) t starts n
      x.starts_are e in
      let l = k.0 in
      subst (IsFirstOf m.detectors t) (sym k.1)
      (first_at s m.detectors (map_detectors s m x.map_is.given) t (omega (arith, l)))

  pub end_is : length starts ≤ t → IsFirstOf m.detectors t (length m.detectors)
  end_is a =
      let s = x.map_is.schedule in
      let b = ap length x.starts_are in
      let c = length-map-range_with_len (λ u. length (detectors_before s u)) 0 (last_slot s + 1) in
      end_at s m.detectors (map_detectors s m x.map_is.given) t (omega (arith, a, b, c))

-- ---- one after the other

pub ordered : (ds : List PlacedDetector) (t first next : ℕ) → IsFirstOf ds t first →
    IsFirstOf ds (t + 1) next → first ≤ next
ordered ds t first next f g =
    ⊎_elim (λ l. absurd (out l (found ds next (omega (arith, l, f.within))))) (λ l. l)
    (cases_lt next first)
  where
    found : (xs : List PlacedDetector) (i : ℕ) → i < length xs →
        (d : PlacedDetector) × (slice_get xs i ≡ Some d)
    found [] i l = absurd (omega (arith, l))
    found (x ∷ xs) zero l = (x, refl)
    found (x ∷ xs) (suc i) l = found xs i (omega (arith, l))

    out : next < first → (d : PlacedDetector) × (slice_get ds next ≡ Some d) → ⊥
    out l d = let a = f.below next d.0 l d.1 in let b = g.above next d.0 (omega arith) d.1 in
        omega (arith, a, b)

-- ---- those of one slot

module _ (ds : List PlacedDetector) (t first next : ℕ) (f : IsFirstOf ds t first)
    (g : IsFirstOf ds (t + 1) next) where
  pub slice_is : take (next - first) (drop first ds)
      ≡ filter (λ (d : PlacedDetector). d.tag.slot == t) ds
  slice_is =
      stretch (λ (d : PlacedDetector). d.tag.slot) t ds (drop first ds) first (next - first) refl
      (λ k d l. f.below k (get_or ds k d) l (slice_get-get_or ds k d (let w = f.within in
      omega (arith, l, w))))
      (λ k d l m. f.above k (get_or ds k d) l (slice_get-get_or ds k d m))
      (λ k d l. let m : first + k < next = omega (arith, l) in
      let h = g.below (first + k) (get_or ds (first + k) d) m
      (slice_get-get_or ds (first + k) d (let w = g.within in omega (arith, m, w))) in
      subst (λ (x : PlacedDetector). x.tag.slot ≤ t) (sym (get_or-drop first ds k d))
      (omega (arith, h)))
      (λ k d l m. let n : next ≤ first + k = omega (arith, l, ordered ds t first next f g) in
      let o : first + k < length ds = omega (arith, m, length-drop first ds) in
      let h = g.above (first + k) (get_or ds (first + k) d) n
      (slice_get-get_or ds (first + k) d o) in
      subst (λ (x : PlacedDetector). t < x.tag.slot) (sym (get_or-drop first ds k d))
      (omega (arith, h)))
