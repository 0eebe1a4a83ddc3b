-- The detectors that a mechanism flips are those that stand at its spots.
use Rattle.std.proofs.Common.{◌≡◌, ℕ, suc, ◌+◌, ◌<◌, ◌==◌, ⊎_elim, Bool, true, false, cond, not, ◌&&◌, ◌||◌, refl, sym, ap, ◌∙◌, arith, subst, length, Option, Some, None, List, [], ◌∷◌, map, filter, flat_map, slice_get}
use Rattle.std.specs.List.{list_any, range_with_len, filter_map, cons_option, position, position_or_len}
use Rattle.std.specs.Option.{option_map_or}
use Rattle.std.specs.Prelude.{nat_lt, option_map, is_some}
use Rattle.std.proofs.lemmas.Bool.Decides.{nat_tests}
use Rattle.std.proofs.lemmas.Option.{none-some, same_Some, slice_get-map}
use Rattle.graph_model.specs.Parity.{parity}
use Rattle.graph_model.proofs.Members.{filter_same}
use Rattle.surface_model.specs.declared.Basis.{Basis}
use Rattle.surface_model.specs.declared.Basis.TheVariants.{Z, X}
use Rattle.surface_model.specs.Schedules.{same_basis, Schedule}
use Rattle.surface_model.specs.Layout.{Place, kind, covers, last_slot, board, board_height, board_width, is_active_at}
use Rattle.surface_model.specs.Measurements.{Measurement, same_place, Detector, detector_bits, detector_at, detectors}
use Rattle.surface_model.specs.Errors.{ErrorClass, ReadoutError, SpaceX, SpaceZ, OutcomeError, Mechanism, flips_bit, odd_places, checked, space_flips}
use Rattle.surface_laws.specs.LayoutLaws.{corners}
use Rattle.graph_model.specs.Members.{In}
use Rattle.graph_model.proofs.Elements.{in_map, in_filter_map}
use Rattle.surface_laws.proofs.Sound.{Sound}
use Rattle.surface_laws.proofs.Flips.{same_place_is}
use Rattle.surface_laws.proofs.Others.{readout_of, outcome_of}
use Rattle.surface_laws.proofs.Ends.{Case, of_readout, of_x, of_z, of_outcome, IsMechanism, IsDetector, detector_is, flipped_is, flips_of}
use Rattle.surface_laws.proofs.Graphs.{length_map}
use Rattle.measure_map.specs.Placed.{placed_detector}
use Rattle.error_map.specs.Spots.{Spot, spots_in, corners_in, spots_of, spots, is_at, ends_found}
use Rattle.error_map.specs.Ends.{is_before, goes_before}
use Rattle.error_map.proofs.Ordered.{AreSorted, sorted-flat_map, sorted-map_range, sorted-filter_map, sorted-filter, sorted-map, numbers_of_keys}
use Rattle.error_map.proofs.Local.{Merges, stands, readout_at, space_at, outcome_at}

-- ---- the order of places, and of detectors

-- where a detector stands
abbrev pub spot_of : Detector → Spot
spot_of d = record { slot = d.slot; corner = d.corner }

abbrev pub stands_before : Detector → Detector → Bool
stands_before d e = goes_before (spot_of d) (spot_of e)

before_row : (a b i j : ℕ) → a < b → (nat_lt a b || (a == b && nat_lt i j)) ≡ true
before_row a b i j l = grind (arith, nat_tests)

before_column : (a b i j : ℕ) → a ≡ b → i < j → (nat_lt a b || (a == b && nat_lt i j)) ≡ true
before_column a b i j e l = grind (arith, nat_tests)

in_row : (i c w : ℕ) (x : Place) →
    In x (map (λ j. record { row = i; column = j }) (range_with_len c w)) → i ≡ x.row
in_row i c w x m = let k = in_map (λ j. record { row = i; column = j }) (range_with_len c w) x m in
    ap (λ (p : Place). p.row) k.2

pub sorted_area : (a h c w : ℕ) →
    AreSorted is_before
    (flat_map (λ i. map (λ j. record { row = i; column = j }) (range_with_len c w))
    (range_with_len a h))
sorted_area a h c w =
    sorted-flat_map is_before (λ i. map (λ j. record { row = i; column = j }) (range_with_len c w))
    a h (λ i. sorted-map_range is_before (λ j. record { row = i; column = j }) c w
    (λ j k l. before_column i i j k refl l))
    (λ i j x y l m n. before_row x.row y.row x.column y.column
    (omega (arith, l, in_row i c w x m, in_row j c w y n)))

pub sorted_board : (s : Schedule) → AreSorted is_before (board s)
sorted_board s = sorted_area 0 (board_height s) 0 (board_width s)

pub sorted_corners : (q : Place) → AreSorted is_before (corners q)
sorted_corners q = (
  λ y m. ⊎_elim (λ e. across y (ap (λ (p : Place). p.row) e) (ap (λ (p : Place). p.column) e))
      (λ m. below q.column y m) m,
  (
    λ y m. below (q.column + 1) y m,
    (
      λ y m. ⊎_elim (λ e. before_column (q.row + 1) y.row q.column y.column
          (ap (λ (p : Place). p.row) e) (omega (arith, ap (λ (p : Place). p.column) e)))
          (λ m. absurd m) m,
      (
        λ y m. absurd m,
        tt,
      ),
    ),
  ),
)
  where
    across : (y : Place) → q.row ≡ y.row → q.column + 1 ≡ y.column →
        (nat_lt q.row y.row || (q.row == y.row && nat_lt q.column y.column)) ≡ true
    across y e f = before_column q.row y.row q.column y.column e (omega (arith, f))

    below : (j : ℕ) (y : Place) →
        In y (record { row = q.row + 1; column = q.column } ∷ record {
          row = q.row + 1;
          column = q.column + 1;
        } ∷ []) →
        (nat_lt q.row y.row || (q.row == y.row && nat_lt j y.column)) ≡ true
    below j y m =
        ⊎_elim (λ e. before_row q.row y.row j y.column (omega (arith, ap (λ (p : Place). p.row) e)))
        (λ m. ⊎_elim
        (λ e. before_row q.row y.row j y.column (omega (arith, ap (λ (p : Place). p.row) e)))
        (λ m. absurd m) m) m

-- ---- detectors stand in order

made : (t : ℕ) (c : Place) (o : Option (List Measurement)) (d : Detector) →
    option_map_or (λ bits. Some (record { slot = t; corner = c; bits = bits })) o None ≡ Some d →
    (t ≡ d.slot) × (c ≡ d.corner)
made t c (Some bits) d e = let k = same_Some (record { slot = t; corner = c; bits = bits }) d e in
    (ap (λ (x : Detector). x.slot) k, ap (λ (x : Detector). x.corner) k)
made t c None d e = absurd (none-some d e)

same_slot : (k l : Spot) → k.slot ≡ l.slot → is_before k.corner l.corner ≡ true →
    goes_before k l ≡ true
same_slot k l e h = by_tests k.slot l.slot (is_before k.corner l.corner) e h
  where
    by_tests : (a b : ℕ) (p : Bool) → a ≡ b → p ≡ true → (nat_lt a b || (a == b && p)) ≡ true
    by_tests a b p e h = grind (arith, nat_tests)

later_slot : (k l : Spot) → k.slot < l.slot → goes_before k l ≡ true
later_slot k l h = by_tests k.slot l.slot (is_before k.corner l.corner) h
  where
    by_tests : (a b : ℕ) (p : Bool) → a < b → (nat_lt a b || (a == b && p)) ≡ true
    by_tests a b p h = grind (arith, nat_tests)

pub sorted_detectors : (s : Schedule) → AreSorted stands_before (detectors s)
sorted_detectors s =
    sorted-flat_map stands_before (λ t. filter_map (detector_at s t) (board s)) 0 (last_slot s + 1)
    (λ t. sorted-filter_map is_before stands_before (detector_at s t) (board s) (sorted_board s)
    (λ x y d e h f g. let k = made t x (detector_bits s t x) d f in
    let l = made t y (detector_bits s t y) e g in
    same_slot (spot_of d) (spot_of e) (sym k.0
    ∙ l.0) (subst (λ p. is_before p e.corner ≡ true) k.1
    (subst (λ p. is_before x p ≡ true) l.1 h))))
    (λ t u d e h m n. later_slot (spot_of d) (spot_of e)
    (let k = in_filter_map (detector_at s t) (board s) d m in
    let l = in_filter_map (detector_at s u) (board s) e n in
    omega (
      arith,
      h,
      (made t k.0 (detector_bits s t k.0) d k.2).0,
      (made u l.0 (detector_bits s u l.0) e l.2).0,
    )))

sorted_in : (t : ℕ) (places : List Place) → AreSorted is_before places →
    AreSorted goes_before (spots_in t places)
sorted_in t places a =
    sorted-map is_before goes_before (λ c. record { slot = t; corner = c }) places a
    (λ x y h. same_slot (record { slot = t; corner = x }) (record { slot = t; corner = y }) refl h)

pub sorted_spots : (e : Mechanism) → AreSorted goes_before (spots e)
sorted_spots e = by_class e.class
  where
    by_class : (class : ErrorClass) → AreSorted goes_before (spots_of class e.slot e.place)
    by_class ReadoutError = sorted_in e.slot (corners e.place) (sorted_corners e.place)
    by_class SpaceX =
        sorted_in e.slot (corners_in Z e.place)
        (sorted-filter is_before (λ c. same_basis (kind c) Z) (corners e.place)
        (sorted_corners e.place))
    by_class SpaceZ =
        sorted_in e.slot (corners_in X e.place)
        (sorted-filter is_before (λ c. same_basis (kind c) X) (corners e.place)
        (sorted_corners e.place))
    by_class OutcomeError = (
      λ k m. ⊎_elim (λ g. later_slot (record { slot = e.slot; corner = e.place }) k
          (omega (arith, ap (λ (x : Spot). x.slot) g))) (λ m. absurd m) m,
      (λ k m. absurd m, tt),
    )

-- ---- what a mechanism flips stands at its spots

abbrev pub stands_at : Spot → Detector → Bool
stands_at k d = d.slot == k.slot && same_place d.corner k.corner

any_in_slot : (t : ℕ) (d : Detector) (places : List Place) →
    list_any (λ k. stands_at k d) (spots_in t places) ≡ (d.slot == t)
    && list_any (λ c. same_place d.corner c) places
any_in_slot t d [] = sym (and_off (d.slot == t))
  where
    and_off : (b : Bool) → (b && false) ≡ false
    and_off true = refl
    and_off false = refl
any_in_slot t d (c ∷ cs) =
    ap (λ b. stands_at (record { slot = t; corner = c }) d || b) (any_in_slot t d cs)
    ∙ pulled (d.slot == t) (same_place d.corner c) (list_any (λ x. same_place d.corner x) cs)
  where
    pulled : (a x y : Bool) → ((a && x) || (a && y)) ≡ a && (x || y)
    pulled true x y = refl
    pulled false x y = refl

any_filtered : (g : Place → Bool) (c : Place) (places : List Place) →
    list_any (λ x. same_place c x) (filter g places) ≡ list_any (λ x. same_place c x) places && g c
any_filtered g c [] = refl
any_filtered g c (x ∷ xs) =
    by_test (g x) refl ∙ ap (λ b. cond (g x) (same_place c x || b) b) (any_filtered g c xs)
    ∙ joined (g x) (same_place c x) (list_any (λ y. same_place c y) xs) (g c)
    (λ h. ap g (sym (same_place_is c x h)))
  where
    by_test : (b : Bool) → g x ≡ b →
        list_any (λ y. same_place c y) (cond b (x ∷ filter g xs) (filter g xs))
        ≡ cond b (same_place c x || list_any (λ y. same_place c y) (filter g xs))
        (list_any (λ y. same_place c y) (filter g xs))
    by_test true e = refl
    by_test false e = refl

    joined : (gx same rest gc : Bool) → (same ≡ true → gx ≡ gc) →
        cond gx (same || (rest && gc)) (rest && gc) ≡ (same || rest) && gc
    joined gx same rest gc h = grind (arith, nat_tests)

covers_any : (c q : Place) → covers c q ≡ list_any (λ x. same_place c x) (corners q)
covers_any c q = by_numbers c.row c.column q.row q.column
  where
    by_numbers : (i j a b : ℕ) → ((a == i || a + 1 == i) && (b == j || b + 1 == j))
        ≡ (i == a && j == b)
        || ((i == a && j == b + 1)
        || ((i == a + 1 && j == b) || ((i == a + 1 && j == b + 1) || false)))
    by_numbers i j a b = grind (arith, nat_tests)

with_class : (s : Schedule) (e : Mechanism) (class : ErrorClass) → e.class ≡ class →
    (P : Mechanism → Type 0) → P (record { slot = e.slot; class = class; place = e.place }) → P e
with_class s e class h P p =
    subst P (λ i. record { slot = e.slot; class = (sym h) i; place = e.place }) p

module _ (s : Schedule) (ok : Sound s) (long : Merges s) (e : Mechanism) (i : IsMechanism s e)
    (d : Detector) (k : IsDetector s d) where
  standing : stands s d.slot d.corner ≡ true
  standing = ap is_some k.bits_are

  with_stands : (a b n : Bool) → n ≡ true → (a && (b && n)) ≡ a && b
  with_stands a b n h = ap (λ x. a && (b && x)) h ∙ ap (λ x. a && x) (and_on b)
    where
      and_on : (b : Bool) → (b && true) ≡ b
      and_on true = refl
      and_on false = refl

  space_case : (basis : Basis) → is_active_at s e.slot e.place ≡ true →
      parity (λ m. space_flips s basis e.slot e.place m.slot m.bit) d.bits
      ≡ list_any (λ k. stands_at k d) (spots_in e.slot (corners_in basis e.place))
  space_case basis a =
      sym (flipped_is s (λ m. space_flips s basis e.slot e.place m.slot m.bit) d k)
      ∙ space_at s ok basis e.slot e.place i.on_board a i.last d.slot d.corner k.last
      ∙ ap (λ b. (d.slot == e.slot)
      && (covers d.corner e.place && (same_basis (kind d.corner) basis && b))) standing
      ∙ ap (λ b. (d.slot == e.slot) && b)
      (with_stands (covers d.corner e.place) (same_basis (kind d.corner) basis) true refl
      ∙ ap (λ b. b && same_basis (kind d.corner) basis) (covers_any d.corner e.place)
      ∙ sym (any_filtered (λ c. same_basis (kind c) basis) d.corner (corners e.place)))
      ∙ sym (any_in_slot e.slot d (corners_in basis e.place))

  pub flips_at : flips_of s e d ≡ list_any (λ k. stands_at k d) (spots e)
  flips_at = by_case i.case
    where
      by_case : Case s e → flips_of s e d ≡ list_any (λ k. stands_at k d) (spots e)
      by_case (of_readout h a) =
          with_class s e ReadoutError h (λ e. flips_of s e d
          ≡ list_any (λ k. stands_at k d) (spots e))
          (sym (flipped_is s (readout_of e.slot e.place) d k)
          ∙ readout_at s ok long e.slot e.place i.on_board a d.slot d.corner
          ∙ with_stands (d.slot == e.slot) (covers d.corner e.place) _ standing
          ∙ ap (λ b. (d.slot == e.slot) && b) (covers_any d.corner e.place)
          ∙ sym (any_in_slot e.slot d (corners e.place)))
      by_case (of_x h a) =
          with_class s e SpaceX h (λ e. flips_of s e d ≡ list_any (λ k. stands_at k d) (spots e))
          (space_case Z a)
      by_case (of_z h a) =
          with_class s e SpaceZ h (λ e. flips_of s e d ≡ list_any (λ k. stands_at k d) (spots e))
          (space_case X a)
      by_case (of_outcome h a) =
          with_class s e OutcomeError h (λ e. flips_of s e d
          ≡ list_any (λ k. stands_at k d) (spots e))
          (sym (flipped_is s (outcome_of e.slot e.place) d k)
          ∙ outcome_at s ok e.slot e.place a d.slot d.corner
          ∙ two (same_place d.corner e.place) (d.slot == e.slot) (d.slot == suc e.slot) _ standing)
        where
          two : (p a b n : Bool) → n ≡ true →
              (p && ((a || b) && n)) ≡ ((a && p) || ((b && p) || false))
          two p a b n h = grind (arith, nat_tests)

-- ---- the numbers of the detectors at its spots

position_or_len-map : {X Y : Type 0} (p : Y → Bool) (f : X → Y) (xs : List X) →
    position_or_len p (map f xs) ≡ position_or_len (λ x. p (f x)) xs
position_or_len-map p f [] = refl
position_or_len-map p f (x ∷ xs) =
    ap (λ n. cond (not (p (f x))) (1 + n) 0) (position_or_len-map p f xs)

position-map : {X Y : Type 0} (p : Y → Bool) (f : X → Y) (xs : List X) →
    position p (map f xs) ≡ position (λ x. p (f x)) xs
position-map p f xs =
    ap (λ n. cond (nat_lt n (length (map f xs))) (Some n) None) (position_or_len-map p f xs)
    ∙ ap (λ n. cond (nat_lt (position_or_len (λ x. p (f x)) xs) n)
    (Some (position_or_len (λ x. p (f x)) xs)) None) (length_map f xs)

filter_map_same : {X Y : Type 0} (f g : X → Option Y) (xs : List X) → ((x : X) → f x ≡ g x) →
    filter_map f xs ≡ filter_map g xs
filter_map_same f g [] h = refl
filter_map_same f g (x ∷ xs) h = ap (λ o. cons_option o (filter_map f xs)) (h x)
    ∙ ap (λ ys. cons_option (g x) ys) (filter_map_same f g xs h)

pub ends_are : (s : Schedule) → Sound s → Merges s → (e : Mechanism) → IsMechanism s e →
    odd_places s e (checked s) ≡ ends_found (map (placed_detector s) (detectors s)) e
ends_are s ok long e i =
    ap (λ n. filter (λ n. option_map_or (λ bits. parity (flips_bit s e) bits)
    (slice_get (checked s) n) false) (range_with_len 0 n))
    (length_map (λ (d : Detector). d.bits) (detectors s))
    ∙ filter_same _ _ (range_with_len 0 (length (detectors s)))
    (λ n m. ap (λ o. option_map_or (λ bits. parity (flips_bit s e) bits) o false)
    (slice_get-map (λ (d : Detector). d.bits) (detectors s) n)
    ∙ mapped (slice_get (detectors s) n))
    ∙ numbers_of_keys stands_at stands_before goes_before once apart keyed (detectors s)
    (sorted_detectors s) (spots e) (sorted_spots e) (flips_of s e)
    (λ d m. flips_at s ok long e i d (detector_is s d m))
    ∙ filter_map_same _ _ (spots e)
    (λ k. sym (position-map (is_at k) (placed_detector s) (detectors s)))
  where
    mapped : (o : Option Detector) →
        option_map_or (λ bits. parity (flips_bit s e) bits)
        (option_map (λ (d : Detector). d.bits) o) false ≡ option_map_or (flips_of s e) o false
    mapped (Some d) = refl
    mapped None = refl

    by_numbers : (t a b u x y : ℕ) → ((t == u && (a == x && b == y))) ≡ true →
        (t ≡ u) × (a ≡ x) × (b ≡ y)
    by_numbers t a b u x y h = grind (arith, nat_tests)

    spot_is : (k : Spot) (d : Detector) → stands_at k d ≡ true →
        (d.slot ≡ k.slot) × (d.corner.row ≡ k.corner.row) × (d.corner.column ≡ k.corner.column)
    spot_is k d h =
        by_numbers d.slot d.corner.row d.corner.column k.slot k.corner.row k.corner.column h

    irreflexive : (t a b u x y : ℕ) → t ≡ u → a ≡ x → b ≡ y →
        (nat_lt t u || (t == u && (nat_lt a x || (a == x && nat_lt b y)))) ≡ true → ⊥
    irreflexive t a b u x y e f g h = grind (arith, nat_tests)

    asymmetric : (t a b u x y : ℕ) →
        (nat_lt t u || (t == u && (nat_lt a x || (a == x && nat_lt b y)))) ≡ true →
        (nat_lt u t || (u == t && (nat_lt x a || (x == a && nat_lt y b)))) ≡ true → ⊥
    asymmetric t a b u x y h k = grind (arith, nat_tests)

    moved : (t a b u x y t' a' b' u' x' y' : ℕ) →
        (nat_lt t u || (t == u && (nat_lt a x || (a == x && nat_lt b y)))) ≡ true → t' ≡ t →
        a' ≡ a → b' ≡ b → u' ≡ u → x' ≡ x → y' ≡ y →
        (nat_lt t' u' || (t' == u' && (nat_lt a' x' || (a' == x' && nat_lt b' y')))) ≡ true
    moved t a b u x y t' a' b' u' x' y' h e f g i j k = grind (arith, nat_tests)

    once : (k : Spot) (x y : Detector) → stands_before x y ≡ true → stands_at k x ≡ true →
        stands_at k y ≡ true → ⊥
    once k x y h a b =
        let m = spot_is k x a in let n = spot_is k y b in
        irreflexive x.slot x.corner.row x.corner.column y.slot y.corner.row y.corner.column (m.0
        ∙ sym n.0) (m.1 ∙ sym n.1) (m.2 ∙ sym n.2) h

    apart : (x y : Detector) → stands_before x y ≡ true → stands_before y x ≡ true → ⊥
    apart x y h k =
        asymmetric x.slot x.corner.row x.corner.column y.slot y.corner.row y.corner.column h k

    keyed : (k l : Spot) (x y : Detector) → goes_before k l ≡ true → stands_at k x ≡ true →
        stands_at l y ≡ true → stands_before x y ≡ true
    keyed k l x y h a b =
        let m = spot_is k x a in let n = spot_is l y b in
        moved k.slot k.corner.row k.corner.column l.slot l.corner.row l.corner.column x.slot
        x.corner.row x.corner.column y.slot y.corner.row y.corner.column h m.0 m.1 m.2 n.0 n.1
        n.2
