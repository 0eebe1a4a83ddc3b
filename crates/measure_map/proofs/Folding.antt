-- The values of a slot's detectors and observables, from the rows of the slot and of the one
-- before.
use Rattle.std.proofs.Common.{◌≡◌, ℕ, zero, suc, ◌+◌, ◌<◌, ◌≤◌, ◌==◌, ◌⊎◌, ⊎_elim, inl, inr, Bool, true, false, cond, refl, sym, ap, ◌∙◌, arith, subst, eq-eqb, eqb-true, List, [], ◌∷◌, map, filter, length, get_or, take, drop, slice_index_or, Option, Some, None, Contains}
use Rattle.std.specs.Prelude.{position, unwrap_or, is_some}
use Rattle.std.specs.List.{All}
use Rattle.std.specs.Option.{option_map_or}
use Rattle.std.proofs.lemmas.Bool.{false≢true, ne_eqb, or_left, or_right}
use Rattle.std.proofs.lemmas.List.{get_or-drop, length-drop}
use Rattle.graph_model.specs.Parity.{◌⊕◌, parity}
use Rattle.surface_model.specs.Schedules.{Schedule}
use Rattle.surface_model.specs.Measurements.{Bit, Measurement, same_bit, bits_of_slot, Detector, detectors, Observable, observables, value_of, parity_of}
use Rattle.surface_model.specs.Accepted.{IsAccepted}
use Rattle.surface_laws.specs.BitLaws.{IsMade}
use Rattle.graph_model.specs.Members.{In}
use Rattle.surface_laws.proofs.Bits.{detector_bits_law, observable_bits_law}
use Rattle.surface_laws.proofs.Slots.{observables_law}
use Rattle.slot_bits.specs.Order.{has_bit}
use Rattle.measure_map.specs.Placed.{Placed, PlacedDetector, PlacedObservable, before_slot, defects_at, map_of, place_of, placed_detector, placed_observable, raws_at, slot_value}
use Rattle.slot_bits.proofs.Rising.{same_bit_self}
use Rattle.measure_map.proofs.Detecting.{located, some_position}
use Rattle.graph_model.proofs.Elements.{all_at}

-- a bit of a line has a place in it
made_has : (bits : List Bit) (b : Bit) → Contains bits b → has_bit bits b ≡ true
made_has [] b c = absurd (omega (arith, c.1))
made_has (x ∷ xs) b (zero, l, e) =
    or_left (same_bit b x) (has_bit xs b)
    (subst (λ y. same_bit b y ≡ true) (sym e) (same_bit_self b))
made_has (x ∷ xs) b (suc k, l, e) =
    or_right (same_bit b x) (has_bit xs b) (made_has xs b (k, omega (arith, l), e))

module _ (s : Schedule) (rows : List (List Bool)) (t : ℕ) where
  abbrev before : List Bool
  before = before_slot rows t

  abbrev row : List Bool
  row = slice_index_or rows t []

  abbrev IsNear : Measurement → Type 0
  IsNear m = IsMade s m × ((m.slot ≡ t) ⊎ (suc m.slot ≡ t))

  chosen : (u : ℕ) → (u ≡ t) ⊎ (suc u ≡ t) → cond (u == t) row before ≡ slice_index_or rows u []
  chosen u (inl e) =
      ap (λ b. cond b row before) (eq-eqb u t e) ∙ ap (λ n. slice_index_or rows n []) (sym e)
  chosen u (inr e) = ap (λ b. cond b row before) (ne_eqb u t (λ f. omega (arith, e, f)))
      ∙ ap (λ n. before_slot rows n) (sym e)

  value_by : (o : Option ℕ) (bits : List Bool) → is_some o ≡ true →
      slice_index_or bits (unwrap_or o 0) false ≡ option_map_or (λ k. slice_index_or bits k false) o
      false
  value_by (Some k) bits h = refl
  value_by None bits h = absurd (false≢true h)

  value_is : (m : Measurement) → IsNear m →
      slot_value t before row (located s m) ≡ value_of s rows m
  value_is m h =
      ap (λ bits. slice_index_or bits (place_of s m) false) (chosen m.slot h.1)
      ∙ value_by (position (same_bit m.bit) (bits_of_slot s m.slot)) (slice_index_or rows m.slot [])
      (some_position (same_bit m.bit) (bits_of_slot s m.slot)
      ∙ made_has (bits_of_slot s m.slot) m.bit h.0)

  parity_is : (ms : List Measurement) → ((m : Measurement) → In m ms → IsNear m) →
      parity (slot_value t before row) (map (located s) ms) ≡ parity_of s rows ms
  parity_is [] h = refl
  parity_is (m ∷ ms) h =
      ap (λ b. b ⊕ parity (slot_value t before row) (map (located s) ms))
      (value_is m (h m (inl refl)))
      ∙ ap (λ b. value_of s rows m ⊕ b) (parity_is ms (λ x i. h x (inr i)))

  at_slot : (m : Measurement) → IsMade s m → m.slot ≡ t →
      slice_index_or row (place_of s m) false ≡ value_of s rows m
  at_slot m h e =
      ap (λ n. slice_index_or (slice_index_or rows n []) (place_of s m) false) (sym e)
      ∙ value_by (position (same_bit m.bit) (bits_of_slot s m.slot)) (slice_index_or rows m.slot [])
      (some_position (same_bit m.bit) (bits_of_slot s m.slot)
      ∙ made_has (bits_of_slot s m.slot) m.bit h)

  row_parity_is : (ms : List Measurement) →
      ((m : Measurement) → In m ms → IsMade s m × (m.slot ≡ t)) →
      parity (λ k. slice_index_or row k false) (map (place_of s) ms) ≡ parity_of s rows ms
  row_parity_is [] h = refl
  row_parity_is (m ∷ ms) h = ap (λ b. b ⊕ parity (λ k. slice_index_or row k false)
      (map (place_of s) ms)) (let k = h m (inl refl) in at_slot m k.0 k.1)
      ∙ ap (λ b. value_of s rows m ⊕ b) (row_parity_is ms (λ x i. h x (inr i)))

  -- ---- those of the slot

  defects_by : (ds : List Detector) → ((d : Detector) → In d ds → d.slot ≡ t → (m : Measurement) →
      In m d.bits → IsNear m) →
      map (λ (d : PlacedDetector). parity (slot_value t before row) d.bits)
      (filter (λ (d : PlacedDetector). d.tag.slot == t) (map (placed_detector s) ds))
      ≡ map (λ (d : Detector). parity_of s rows d.bits)
      (filter (λ (d : Detector). d.slot == t) ds)
  defects_by [] h = refl
  defects_by (d ∷ ds) h = by_test (d.slot == t) refl (defects_by ds (λ x i. h x (inr i)))
    where
      by_test : (b : Bool) → (d.slot == t) ≡ b →
          map (λ (x : PlacedDetector). parity (slot_value t before row) x.bits)
          (filter (λ (x : PlacedDetector). x.tag.slot == t) (map (placed_detector s) ds))
          ≡ map (λ (x : Detector). parity_of s rows x.bits)
          (filter (λ (x : Detector). x.slot == t) ds) →
          map (λ (x : PlacedDetector). parity (slot_value t before row) x.bits)
          (cond b (placed_detector s d ∷ filter (λ (x : PlacedDetector). x.tag.slot == t)
          (map (placed_detector s) ds)) (filter (λ (x : PlacedDetector). x.tag.slot == t)
          (map (placed_detector s) ds)))
          ≡ map (λ (x : Detector). parity_of s rows x.bits)
          (cond b (d ∷ filter (λ (x : Detector). x.slot == t) ds)
          (filter (λ (x : Detector). x.slot == t) ds))
      by_test true e k =
          ap (λ b. b ∷ map (λ (x : PlacedDetector). parity (slot_value t before row) x.bits)
          (filter (λ (x : PlacedDetector). x.tag.slot == t) (map (placed_detector s) ds)))
          (parity_is d.bits (h d (inl refl) (eqb-true d.slot t e)))
          ∙ ap (λ bs. parity_of s rows d.bits ∷ bs) k
      by_test false e k = k

  raws_by : (os : List Observable) → ((o : Observable) → In o os → (m : Measurement) → In m o.bits →
      IsMade s m × (m.slot ≡ o.slot)) →
      map (λ (o : PlacedObservable). parity (λ k. slice_index_or row k false) o.places)
      (filter (λ (o : PlacedObservable). o.slot == t) (map (placed_observable s) os))
      ≡ map (λ (o : Observable). parity_of s rows o.bits)
      (filter (λ (o : Observable). o.slot == t) os)
  raws_by [] h = refl
  raws_by (o ∷ os) h = by_test (o.slot == t) refl (raws_by os (λ x i. h x (inr i)))
    where
      by_test : (b : Bool) → (o.slot == t) ≡ b →
          map (λ (x : PlacedObservable). parity (λ k. slice_index_or row k false) x.places)
          (filter (λ (x : PlacedObservable). x.slot == t) (map (placed_observable s) os))
          ≡ map (λ (x : Observable). parity_of s rows x.bits)
          (filter (λ (x : Observable). x.slot == t) os) →
          map (λ (x : PlacedObservable). parity (λ k. slice_index_or row k false) x.places)
          (cond b (placed_observable s o ∷ filter (λ (x : PlacedObservable). x.slot == t)
          (map (placed_observable s) os)) (filter (λ (x : PlacedObservable). x.slot == t)
          (map (placed_observable s) os)))
          ≡ map (λ (x : Observable). parity_of s rows x.bits)
          (cond b (o ∷ filter (λ (x : Observable). x.slot == t) os)
          (filter (λ (x : Observable). x.slot == t) os))
      by_test true e k =
          ap (λ b. b ∷ map (λ (x : PlacedObservable). parity (λ k. slice_index_or row k false)
          x.places) (filter (λ (x : PlacedObservable). x.slot == t)
          (map (placed_observable s) os)))
          (row_parity_is o.bits (λ m i. let k = h o (inl refl) m i in
          (k.0, k.1 ∙ eqb-true o.slot t e)))
          ∙ ap (λ bs. parity_of s rows o.bits ∷ bs) k
      by_test false e k = k

  pub defects_are : IsAccepted s →
      map (λ (d : PlacedDetector). parity (slot_value t before row) d.bits)
      (filter (λ (d : PlacedDetector). d.tag.slot == t) (map (placed_detector s) (detectors s)))
      ≡ map (λ (d : Detector). parity_of s rows d.bits)
      (filter (λ (d : Detector). d.slot == t) (detectors s))
  defects_are a = defects_by (detectors s) (λ d i e m j.
      let k = all_at (λ (m : Measurement). IsMade s m × ((m.slot ≡ d.slot) ⊎ (suc m.slot ≡ d.slot)))
      d.bits m (all_at (λ (d : Detector). All (λ (m : Measurement). IsMade s m
      × ((m.slot ≡ d.slot) ⊎ (suc m.slot ≡ d.slot))) d.bits) (detectors s) d
      (detector_bits_law s a) i) j in
      (k.0, ⊎_elim (λ x. inl (x ∙ e)) (λ x. inr (x ∙ e)) k.1))

  pub raws_are : IsAccepted s →
      map (λ (o : PlacedObservable). parity (λ k. slice_index_or row k false) o.places)
      (filter (λ (o : PlacedObservable). o.slot == t)
      (map (placed_observable s) (observables s)))
      ≡ map (λ (o : Observable). parity_of s rows o.bits)
      (filter (λ (o : Observable). o.slot == t) (observables s))
  raws_are a = raws_by (observables s) (λ o i m j. (
    all_at (IsMade s) o.bits m (all_at (λ (o : Observable). All (IsMade s) o.bits) (observables s) o
        (observable_bits_law s a) i) j,
    all_at (λ (m : Measurement). m.slot ≡ o.slot) o.bits m
        (all_at (λ (o : Observable). All (λ (m : Measurement). m.slot ≡ o.slot) o.bits)
        (observables s) o (observables_law s) i) j,
  ))

-- ---- which those are, where slots ascend

module _ {X : Type 0} (n : X → ℕ) (t : ℕ) where
  abbrev Below : List X → ℕ → Type 0
  Below xs a = (k : ℕ) (d : X) → k < a → n (get_or xs k d) < t

  abbrev FromIt : List X → ℕ → Type 0
  FromIt xs a = (k : ℕ) (d : X) → a ≤ k → k < length xs → t ≤ n (get_or xs k d)

  abbrev UpToIt : List X → ℕ → Type 0
  UpToIt xs b = (k : ℕ) (d : X) → k < b → n (get_or xs k d) ≤ t

  abbrev Above : List X → ℕ → Type 0
  Above xs b = (k : ℕ) (d : X) → b ≤ k → k < length xs → t < n (get_or xs k d)

  keep : (x : X) (ys zs : List X) → n x ≡ t → ys ≡ zs → x ∷ ys ≡ cond (n x == t) (x ∷ zs) zs
  keep x ys zs e h = ap (λ ws. x ∷ ws) h ∙ ap (λ b. cond b (x ∷ zs) zs) (sym (eq-eqb (n x) t e))

  skip : (x : X) (ys zs : List X) → (n x ≡ t → ⊥) → ys ≡ zs → ys ≡ cond (n x == t) (x ∷ zs) zs
  skip x ys zs e h = h ∙ ap (λ b. cond b (x ∷ zs) zs) (sym (ne_eqb (n x) t e))

  front : (xs : List X) (b : ℕ) → FromIt xs 0 → UpToIt xs b → Above xs b →
      take b xs ≡ filter (λ x. n x == t) xs
  front [] zero f u v = refl
  front [] (suc b) f u v = refl
  front (x ∷ xs) zero f u v =
      let h : t < n x = v 0 x (omega arith) (omega arith) in
      skip x [] (filter (λ y. n y == t) xs) (λ e. omega (arith, e, h))
      (front xs zero (λ k d l m. f (suc k) d (omega arith) (omega (arith, m)))
      (λ k d l. absurd (omega (arith, l)))
      (λ k d l m. v (suc k) d (omega arith) (omega (arith, m))))
  front (x ∷ xs) (suc b) f u v =
      let h : t ≤ n x = f 0 x (omega arith) (omega arith) in
      let k : n x ≤ t = u 0 x (omega arith) in
      keep x (take b xs) (filter (λ y. n y == t) xs) (omega (arith, h, k))
      (front xs b (λ k d l m. f (suc k) d (omega arith) (omega (arith, m)))
      (λ k d l. u (suc k) d (omega (arith, l)))
      (λ k d l m. v (suc k) d (omega (arith, l)) (omega (arith, m))))

  behind : (xs : List X) (a : ℕ) → Below xs a →
      filter (λ x. n x == t) (drop a xs) ≡ filter (λ x. n x == t) xs
  behind [] zero h = refl
  behind [] (suc a) h = refl
  behind (x ∷ xs) zero h = refl
  behind (x ∷ xs) (suc a) h =
      let l : n x < t = h 0 x (omega arith) in
      skip x (filter (λ y. n y == t) (drop a xs)) (filter (λ y. n y == t) xs)
      (λ e. omega (arith, e, l)) (behind xs a (λ k d m. h (suc k) d (omega (arith, m))))

  pub stretch : (xs ys : List X) (a b : ℕ) → ys ≡ drop a xs → Below xs a → FromIt xs a →
      UpToIt ys b → Above ys b → take b ys ≡ filter (λ x. n x == t) xs
  stretch xs ys a b e h f u v =
      let l : length ys ≡ length (drop a xs) = ap length e in
      front ys b (λ k d o m. subst (λ y. t ≤ n y) (sym (ap (λ zs. get_or zs k d) e
      ∙ get_or-drop a xs k d))
      (f (a + k) d (omega arith) (omega (arith, m, l, length-drop a xs)))) u v
      ∙ ap (filter (λ x. n x == t)) e ∙ behind xs a h

-- ---- what a map's rows give

abbrev pub defects_by_rows : ℕ → List Bool → List Bool → List PlacedDetector → List Bool
defects_by_rows t before row ds =
    map (λ (d : PlacedDetector). parity (slot_value t before row) d.bits)
    (filter (λ (d : PlacedDetector). d.tag.slot == t) ds)

abbrev pub raws_by_row : ℕ → List Bool → List PlacedObservable → List Bool
raws_by_row t row os =
    map (λ (o : PlacedObservable). parity (λ k. slice_index_or row k false) o.places)
    (filter (λ (o : PlacedObservable). o.slot == t) os)

mapped_defects : (s : Schedule) (rows : List (List Bool)) (t : ℕ) → IsAccepted s →
    defects_by_rows t (before_slot rows t) (slice_index_or rows t []) (map_of s).detectors
    ≡ defects_at s rows t
unfolding map_of defects_at
mapped_defects s rows t a = defects_are s rows t a

mapped_raws : (s : Schedule) (rows : List (List Bool)) (t : ℕ) → IsAccepted s →
    raws_by_row t (slice_index_or rows t []) (map_of s).observables ≡ raws_at s rows t
unfolding map_of raws_at
mapped_raws s rows t a = raws_are s rows t a

module _ (s : Schedule) (rows : List (List Bool)) (t : ℕ) (m : Placed) (row : List Bool)
    (accepted : IsAccepted s) (given : m ≡ map_of s) (row_is : row ≡ slice_index_or rows t []) where
  pub defects_given : (before : List Bool) → before ≡ before_slot rows t →
      defects_by_rows t before row m.detectors ≡ defects_at s rows t
  defects_given before e =
      ap (λ (p : Placed). defects_by_rows t before row p.detectors) given
      ∙ ap (λ bits. defects_by_rows t bits row (map_of s).detectors) e
      ∙ ap (λ bits. defects_by_rows t (before_slot rows t) bits (map_of s).detectors) row_is
      ∙ mapped_defects s rows t accepted

  pub raws_given : raws_by_row t row m.observables ≡ raws_at s rows t
  raws_given =
      ap (λ (p : Placed). raws_by_row t row p.observables) given
      ∙ ap (λ bits. raws_by_row t bits (map_of s).observables) row_is
      ∙ mapped_raws s rows t accepted
