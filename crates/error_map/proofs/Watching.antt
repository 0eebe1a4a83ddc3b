-- The observables that speak of a mechanism's place are all that it can flip.
use Rattle.std.proofs.Common.{◌≡◌, ℕ, zero, suc, ◌+◌, ◌<◌, ◌≤◌, ◌==◌, ◌&&◌, ◌||◌, ◌⊎◌, ⊎_elim, inl, inr, Bool, true, false, cond, List, [], ◌∷◌, ◌++◌, Option, Some, None, refl, sym, ap, ◌∙◌, arith, eq-eqb, eqb-true, subst, length, map, filter, flat_map, take, get_or, Contains, slice_get}
use Rattle.std.specs.Prelude.{nat_lt, option_map}
use Rattle.std.specs.List.{range_with_len}
use Rattle.std.specs.List.Sorted.{IsStrictlyIncreasing}
use Rattle.std.specs.Option.{option_map_or}
use Rattle.std.specs.Ordering.{is_lt}
use Rattle.std.proofs.lemmas.Bool.{and_parts, cases_eq, cases_lt, false≢true, or_left, or_right, or_cases}
use Rattle.std.proofs.lemmas.Bool.Decides.{nat_tests}
use Rattle.std.proofs.lemmas.List.{append_assoc, append-nil, take_more}
use Rattle.std.proofs.lemmas.List.Kept.{IsStrictlyIncreasing-filter}
use Rattle.std.proofs.lemmas.Option.{none-some, same_Some, slice_get-get_or, slice_get-map, slice_get_read, slice_get_within, get_or_from_slice_get}
use Rattle.graph_model.specs.Parity.{◌⊕◌, parity}
use Rattle.graph_model.specs.Graph.{is_in}
use Rattle.graph_model.proofs.Members.{is_in-filter, is_in_range, is_in-append}
use Rattle.graph_model.proofs.Ascending.{increasing_cons, increasing_rest, increasing_above}
use Rattle.graph_model.proofs.Incidence.{increasing_range}
use Rattle.surface_model.specs.Schedules.{Schedule}
use Rattle.surface_model.specs.declared.Basis.{Basis}
use Rattle.surface_model.specs.declared.Basis.TheVariants.{Z, X}
use Rattle.surface_model.specs.Layout.{Place, Region, covers, has_qubit, is_among}
use Rattle.surface_model.specs.Measurements as measurements
use Rattle.surface_model.specs.Measurements.{Readout, Outcome, same_place, Observable, observables}
use Rattle.surface_model.specs.Errors.{ErrorClass, ReadoutError, SpaceX, SpaceZ, OutcomeError, Mechanism, flips_bit, watched}
use Rattle.surface_model.specs.Accepted.{IsAccepted}
use Rattle.graph_model.specs.Members.{In}
use Rattle.graph_model.proofs.Elements.{in_flat_map, flat_map_in, contains_in, in_range, range_in}
use Rattle.surface_laws.proofs.Regions.{same_tests}
use Rattle.surface_laws.proofs.Ends.{IsMechanism}
use Rattle.slot_bits.specs.declared.bits.Bit.{Bit}
use Rattle.slot_bits.specs.Seen.{bit_of}
use Rattle.measure_map.specs.Placed.{map_of, Placed, PlacedObservable}
use Rattle.error_map.specs.Keys.{AreDistinct, AreKeys, IsFirst, IsNumberAt, compare, key_of, region_keys}
use Rattle.error_map.specs.Seen.{error_in, next_in, shown_in}
use Rattle.error_map.specs.Sees.{IsEffect, class_sees, flips_observable, sees, sees_place, space_sees}
use Rattle.error_map.specs.Watched.{AreTaken, IsWatch, bit_keys, count_of, first_of, observable_keys, region_near, watch_keys}
use Rattle.error_map.specs.declared.types.Effect.{Effect}
use Rattle.error_map.specs.declared.keys.Key.{Key}
use Rattle.error_map.proofs.Keyed.{below_is, none_after, rising_numbers, where_is}
use Rattle.error_map.proofs.Masked.{observables_count, watching}
use Rattle.error_map.proofs.Ordered.{same_rising}
use Rattle.error_map.proofs.ReadAt.{in_region, region_in}
use Rattle.error_map.proofs.Seeing.{in_contains}
use Rattle.std.proofs.lemmas.List.Concat.{flat_map-append}
use Rattle.graph_model.proofs.Ranges.{flat_map_next}

-- ---- the keys of a map

pub observable_more : (m : Placed) (n : ℕ) (x : PlacedObservable) (line : List measurements.Bit)
    (old new : List Key) → slice_get m.observables n ≡ Some x →
    slice_get m.lines x.slot ≡ Some line →
    old ≡ flat_map (observable_keys m) (range_with_len 0 n) →
    new ≡ old ++ flat_map (bit_keys n line) x.places →
    new ≡ flat_map (observable_keys m) (range_with_len 0 (n + 1))
observable_more m n x line old new e f h k =
    k ∙ ap (λ ks. ks ++ flat_map (bit_keys n line) x.places) h
    ∙ ap (λ ks. flat_map (observable_keys m) (range_with_len 0 n) ++ ks)
    (sym (ap (λ o. option_map_or
    (λ (y : PlacedObservable). option_map_or (λ l. flat_map (bit_keys n l) y.places)
    (slice_get m.lines y.slot) []) o []) e
    ∙ ap (λ o. option_map_or (λ l. flat_map (bit_keys n l) x.places) o []) f))
    ∙ sym (flat_map_next (observable_keys m) n)

-- of an option's list
of_some : {X : Type 0} (g : X → List Key) (o : Option X) (key : Key) →
    In key (option_map_or g o []) → (x : X) × (o ≡ Some x) × In key (g x)
of_some g (Some x) key m = (x, refl, m)
of_some g None key m = absurd m

some_of : {X : Type 0} (g : X → List Key) (o : Option X) (x : X) (key : Key) → o ≡ Some x →
    In key (g x) → In key (option_map_or g o [])
some_of g o x key e m = subst (λ v. In key (option_map_or g v [])) (sym e) m

of_watch : (m : Placed) (key : Key) → In key (watch_keys m) →
    (n : ℕ) × (q : Place) × (n < length m.observables) × (key ≡ key_of n q)
of_watch m key i =
    let n = in_flat_map (observable_keys m) (range_with_len 0 (length m.observables)) key i in
    let r = in_range 0 (length m.observables) n.0 n.1 in
    let x = of_some
    (λ (x : PlacedObservable). option_map_or (λ line. flat_map (bit_keys n.0 line) x.places)
    (slice_get m.lines x.slot) []) (slice_get m.observables n.0) key n.2 in
    let line = of_some (λ line. flat_map (bit_keys n.0 line) x.0.places)
    (slice_get m.lines x.0.slot) key x.2 in
    let k = in_flat_map (bit_keys n.0 line.0) x.0.places key line.2 in
    let bit = of_some (λ bit. region_keys n.0 (region_near bit)) (slice_get line.0 k.0) key k.2 in
    let q = in_region n.0 (region_near bit.0) key bit.2 in
    (n.0, q.0, omega (arith, r.1), q.2)

pub is_watch : (m : Placed) (keys distinct : List Key) → keys ≡ watch_keys m →
    AreDistinct keys distinct → IsWatch m distinct
is_watch m keys distinct e d = record {
  complete = λ key c. d.complete key (subst (λ ks. Contains ks key) (sym e) c);
  within = λ key c. let w =
      of_watch m key (subst (In key) e (in_contains keys key (d.inhabited key c))) in
      let same : key.number ≡ w.0 = ap (λ (k : Key). k.number) w.3 in omega (arith, same, w.2);
}

pub watch_shaped : (m : Placed) (keys distinct : List Key) → keys ≡ watch_keys m →
    AreDistinct keys distinct → AreKeys distinct
watch_shaped m keys distinct e d = record {
  rising = d.rising;
}

-- ---- a bit that a mechanism changes speaks of its place

reaches : (a i : ℕ) → (i == a || i + 1 == a) ≡ true →
    is_among (first_of a) (first_of a + count_of a) i ≡ true
reaches zero i h = grind (arith, nat_tests)
reaches (suc a) i h = grind (arith, nat_tests)

both : {x y : Bool} → x ≡ true → y ≡ true → (x && y) ≡ true
both {x} {y} e f = ap (λ b. b && y) e ∙ f

covered_near : (c q : Place) → covers c q ≡ true → has_qubit (region_near (Outcome c)) q ≡ true
covered_near c q h = let k = and_parts (q.row == c.row || q.row + 1 == c.row) _ h in
    both (reaches c.row q.row k.0) (reaches c.column q.column k.1)

own_covered : (a b x y : ℕ) → (a == x && b == y) ≡ true →
    ((x == a || x + 1 == a) && (y == b || y + 1 == b)) ≡ true
own_covered a b x y h = grind (arith, nat_tests)

read_near : (a b x y : ℕ) → (a == x && b == y) ≡ true →
    (is_among a (a + 1) x && is_among b (b + 1) y) ≡ true
read_near a b x y h = grind (arith, nat_tests)

space_near : (basis : Basis) (t : ℕ) (q : Place) (n : ℕ) (shown : Bool) (u : ℕ)
    (bit : measurements.Bit) → space_sees basis t q n shown u bit ≡ true →
    has_qubit (region_near bit) q ≡ true
space_near basis t q n shown u (Readout p) h =
    read_near p.row p.column q.row q.column
    (and_parts (same_place p q) (u == n) (and_parts (same_place p q && u == n) shown h).0).0
space_near basis t q n shown u (Outcome c) h = covered_near c q (and_parts _ (covers c q) h).1

class_near : (class : ErrorClass) (t : ℕ) (q : Place) (n : ℕ) (shown : Bool) (u : ℕ)
    (bit : measurements.Bit) → class_sees class t q n shown u bit ≡ true →
    has_qubit (region_near bit) q ≡ true
class_near ReadoutError t q n shown u (Readout p) h =
    read_near p.row p.column q.row q.column (and_parts (u == t) _ h).1
class_near ReadoutError t q n shown u (Outcome p) h =
    absurd (false≢true (and_parts (u == t) false h).1)
class_near SpaceX t q n shown u bit h = space_near Z t q n shown u bit h
class_near SpaceZ t q n shown u bit h = space_near X t q n shown u bit h
class_near OutcomeError t q n shown u (Readout p) h =
    absurd (false≢true (and_parts (u == t) false h).1)
class_near OutcomeError t q n shown u (Outcome p) h =
    covered_near p q (own_covered p.row p.column q.row q.column (and_parts (u == t) _ h).1)

odd_some : {X : Type 0} (p : X → Bool) (xs : List X) → parity p xs ≡ true →
    (x : X) × In x xs × (p x ≡ true)
odd_some p [] h = absurd (false≢true h)
odd_some p (x ∷ xs) h = by_test (p x) refl (odd_some p xs)
  where
    by_test : (b : Bool) → p x ≡ b → (parity p xs ≡ true → (y : _) × In y xs × (p y ≡ true)) →
        (y : _) × In y (x ∷ xs) × (p y ≡ true)
    by_test true e k = (x, inl refl, e)
    by_test false e k = let y = k (sym (ap (λ b. b ⊕ parity p xs) e) ∙ h) in (y.0, inr y.1, y.2)

some_true : {X : Type 0} (p : X → Bool) (o : Option X) → option_map_or p o false ≡ true →
    (x : X) × (o ≡ Some x) × (p x ≡ true)
some_true p (Some x) h = (x, refl, h)
some_true p None h = absurd (false≢true h)

found_in : {X : Type 0} (xs : List X) (n : ℕ) → n < length xs → (x : X) × (slice_get xs n ≡ Some x)
    × (x ≡ get_or xs n x)
found_in [] n l = absurd (omega arith)
found_in (y ∷ ys) n l = by_value (slice_get (y ∷ ys) n) refl
  where
    by_value : (o : Option _) → slice_get (y ∷ ys) n ≡ o → (x : _) × (slice_get (y ∷ ys) n ≡ Some x)
        × (x ≡ get_or (y ∷ ys) n x)
    by_value (Some x) e = (x, e, sym (get_or_from_slice_get (y ∷ ys) n x x e))
    by_value None e =
        absurd (none-some (get_or (y ∷ ys) n y) (sym e ∙ slice_get-get_or (y ∷ ys) n y l))

pub flips_below : (s : Schedule) (e : Mechanism) (n : ℕ) → flips_observable s e n ≡ true →
    n < length (watched s)
flips_below s e n h = let bits = some_true (parity (flips_bit s e)) (slice_get (watched s) n) h in
    slice_get_within (watched s) n bits.0 bits.1

module _ (s : Schedule) (a : IsAccepted s) (m : Placed) (given : m ≡ map_of s) (f : Effect)
    (i : IsMechanism s (error_in f)) (shown : IsEffect s f) (keys : List Key)
    (w : IsWatch m keys) where
  -- an observable that it flips speaks of its place
  pub flipped_near : (n : ℕ) → flips_observable s (error_in f) n ≡ true →
      Contains keys (key_of n (error_in f).place)
  flipped_near n h =
      let l : n < length m.observables = (let b = flips_below s (error_in f) n h in
      omega (arith, b, observables_count s, ap (λ (p : Placed). length p.observables) given)) in
      let x = found_in m.observables n l in
      let known = watching s a m given m.observables refl n x.0 l x.2 in
      let line = found_in (map_of s).lines x.0.slot known.slot in
      let k = odd_some (sees_place f x.0.slot line.0) x.0.places (known.odd f i shown line.0 line.1
      ∙ h) in
      let bit = some_true (λ bit. sees f x.0.slot bit) (slice_get line.0 k.0) k.2 in
      let near = class_near (error_in f).class (error_in f).slot (error_in f).place (next_in f)
      (shown_in f) x.0.slot bit.0 bit.2 in
      let key : Key = key_of n (error_in f).place in
      let one = some_of (λ b. region_keys n (region_near b)) (slice_get line.0 k.0) bit.0 key bit.1
      (region_in n (region_near bit.0) (error_in f).place near) in
      let here : slice_get m.lines x.0.slot ≡ Some line.0 =
      ap (λ (p : Placed). slice_get p.lines x.0.slot) given ∙ line.1 in
      let of_line =
      some_of (λ l. flat_map (bit_keys n l) x.0.places) (slice_get m.lines x.0.slot) line.0 key
      here (flat_map_in (bit_keys n line.0) x.0.places k.0 key k.1 one) in
      let of_number =
      some_of (λ (y : PlacedObservable). option_map_or (λ l. flat_map (bit_keys n l) y.places)
      (slice_get m.lines y.slot) []) (slice_get m.observables n) x.0 key x.1 of_line in
      w.complete key
      (contains_in (watch_keys m) key
      (flat_map_in (observable_keys m) (range_with_len 0 (length m.observables)) n key
      (range_in 0 (length m.observables) n (omega arith) (omega (arith, l))) of_number))

-- ---- the numbers that are taken, key by key

rising_push : (xs : List ℕ) (n : ℕ) → IsStrictlyIncreasing xs →
    ((v : ℕ) → is_in xs v ≡ true → v < n) → IsStrictlyIncreasing (xs ++ n ∷ [])
rising_push [] n up low = increasing_cons n [] (λ v m. absurd (false≢true m)) up
rising_push (x ∷ xs) n up low =
    increasing_cons x (xs ++ n ∷ [])
    (λ v m. ⊎_elim (λ h. increasing_above x xs up v h) (λ h. let e = one v h in
    let l = low x (or_left (x == x) (is_in xs x) (eq-eqb x x refl)) in
    omega (arith, e, l))
    (or_cases (is_in xs v) (is_in (n ∷ []) v) (sym (is_in-append xs (n ∷ []) v) ∙ m)))
    (rising_push xs n (increasing_rest x xs up) (λ v m. low v (or_right (x == v) (is_in xs v) m)))
  where
    one : (v : ℕ) → is_in (n ∷ []) v ≡ true → n ≡ v
    one v h = ⊎_elim (λ e. eqb-true n v e) (λ f. absurd (false≢true f)) (or_cases (n == v) false h)

module _ (p : ℕ → Bool) (keys : List Key) (ok : AreKeys keys) (q : Place) where
  pub taken_none : (at : ℕ) → IsFirst keys (key_of 0 q) at → AreTaken p keys q at []
  taken_none at first = record {
    rising = λ k l. absurd (omega arith);
    passed = λ n m. absurd (false≢true m);
    inhabited = λ n m. absurd (false≢true m);
    complete = λ n i h l e. absurd (no_lower n (sym (below_is q.row q.column n q.row q.column 0)
        ∙ first.below i (key_of n q) l e));
  }
    where
      no_lower : (n : ℕ) →
          (nat_lt q.row q.row
          || (q.row == q.row && (nat_lt q.column q.column || (q.column == q.column && nat_lt n 0))))
          ≡ true → ⊥
      no_lower n h = grind (arith, nat_tests)

  module _ (start at : ℕ) (above : (j : ℕ) (k : Key) → at ≤ j → slice_get keys j ≡ Some k →
      is_lt (compare k (key_of start q)) ≡ false) where
    pub taken_more : (n : ℕ) → slice_get keys at ≡ Some (key_of n q) → (old new : List ℕ) →
        AreTaken p keys q at old → new ≡ old ++ cond (p n) (n ∷ []) [] →
        AreTaken p keys q (at + 1) new
    taken_more n e old new k h = subst (AreTaken p keys q (at + 1)) (sym h) (by_test (p n) refl)
      where
        lower : (v : ℕ) → is_in old v ≡ true → v < n
        lower v m = let i = k.inhabited v m in
            rising_numbers keys ok q start at above i.0 at v n i.1 i.2 e

        number_is : (v i : ℕ) → i ≡ at → slice_get keys i ≡ Some (key_of v q) → n ≡ v
        number_is v i s f =
            ap (λ (x : Key). x.number) (same_Some (key_of n q) (key_of v q) (sym e
            ∙ ap (slice_get keys) (sym s) ∙ f))

        by_test : (b : Bool) → p n ≡ b → AreTaken p keys q (at + 1) (old ++ cond b (n ∷ []) [])
        by_test true t = record {
          rising = rising_push old n k.rising lower;
          passed = λ v m. ⊎_elim (λ g. k.passed v g) (λ g. subst (λ x. p x ≡ true) (one v g) t)
              (or_cases (is_in old v) (is_in (n ∷ []) v) (sym (is_in-append old (n ∷ []) v) ∙ m));
          inhabited = λ v m. ⊎_elim (λ g. let i = k.inhabited v g in
              (i.0, omega (arith, i.1), i.2)) (λ g. (
                at,
                omega arith,
                e
                    ∙ ap (λ x. Some (key_of x q)) (one v g),
              ))
              (or_cases (is_in old v) (is_in (n ∷ []) v) (sym (is_in-append old (n ∷ []) v) ∙ m));
          complete = λ v i g l f. is_in-append old (n ∷ []) v
              ∙ ⊎_elim (λ s. or_right (is_in old v) (is_in (n ∷ []) v)
              (or_left (n == v) false (eq-eqb n v (number_is v i s f))))
              (λ ne. or_left (is_in old v) (is_in (n ∷ []) v)
              (k.complete v i g (omega (arith, l, ne)) f)) (cases_eq i at);
        }
          where
            one : (v : ℕ) → is_in (n ∷ []) v ≡ true → n ≡ v
            one v h = ⊎_elim (λ e. eqb-true n v e) (λ f. absurd (false≢true f))
                (or_cases (n == v) false h)
        by_test false t = subst (AreTaken p keys q (at + 1)) (sym (append-nil old)) (record {
          rising = k.rising;
          passed = k.passed;
          inhabited = λ v m. let i = k.inhabited v m in (i.0, omega (arith, i.1), i.2);
          complete = λ v i g l f. ⊎_elim
              (λ s. absurd
              (false≢true (sym t ∙ subst (λ x. p x ≡ true) (sym (number_is v i s f)) g)))
              (λ ne. k.complete v i g (omega (arith, l, ne)) f) (cases_eq i at);
        })

    pub taken_all : IsNumberAt keys at q None → (bound : ℕ) → ((n : ℕ) → p n ≡ true → n < bound) →
        ((n : ℕ) → p n ≡ true → Contains keys (key_of n q)) → (numbers : List ℕ) →
        AreTaken p keys q at numbers → numbers ≡ filter p (range_with_len 0 bound)
    taken_all none bound low near numbers k =
        same_rising numbers (filter p (range_with_len 0 bound)) k.rising
        (IsStrictlyIncreasing-filter p (range_with_len 0 bound) (increasing_range 0 bound))
        (λ v. same_tests (is_in numbers v) (is_in (filter p (range_with_len 0 bound)) v)
        (λ m. let t = k.passed v m in is_in-filter p (range_with_len 0 bound) v
        ∙ both (is_in_range 0 bound v (omega arith) (let l = low v t in omega (arith, l))) t)
        (λ m. let t = (and_parts (is_in (range_with_len 0 bound) v) (p v)
        (sym (is_in-filter p (range_with_len 0 bound) v) ∙ m)).1 in
        let j = where_is keys (key_of v q) (near v t) in
        k.complete v j.0 t
        (⊎_elim (λ l. l) (λ g. absurd (none_after keys ok q start at above none j.0 v g j.1))
        (cases_lt j.0 at)) j.1))

-- ---- steps of the loops over observables and their bits

pub bit_turn : (n : ℕ) (line : List Bit) (before : List Key) (places : List ℕ) (i : ℕ) (x : Bit) →
    i < length places → get_or places i 0 < length line → x ≡ get_or line (get_or places i 0) x →
    (r : Region) → r ≡ region_near (bit_of x) →
    (old new : List Key) → old ≡ before ++ flat_map (bit_keys n (map bit_of line)) (take i places) →
    new ≡ old ++ region_keys n r →
    new ≡ before ++ flat_map (bit_keys n (map bit_of line)) (take (i + 1) places)
bit_turn n line before places i x l b at r e old new h k =
    let g : ℕ → List Key = bit_keys n (map bit_of line) in
    let here : region_keys n r ≡ g (get_or places i 0) =
    ap (region_keys n) e
    ∙ sym (ap (λ o. option_map_or (λ bit. region_keys n (region_near bit)) o [])
    (slice_get-map bit_of line (get_or places i 0)
    ∙ ap (option_map bit_of) (slice_get_read line (length line) (get_or places i 0) x refl b
    at))) in
    k ∙ ap (λ ks. ks ++ region_keys n r) h
    ∙ append_assoc before (flat_map g (take i places)) (region_keys n r)
    ∙ ap (λ ks. before ++ ks) (ap (λ ks. flat_map g (take i places) ++ ks) (here
    ∙ sym (append-nil (g (get_or places i 0)))) ∙ sym (ap (flat_map g) (take_more places i 0 l)
    ∙ flat_map-append g (take i places) (get_or places i 0 ∷ [])))

pub read_at : (os : List PlacedObservable) (n : ℕ) (x : PlacedObservable) → n < length os →
    x ≡ get_or os n x → slice_get os n ≡ Some x
read_at os n x l e = slice_get_read os (length os) n x refl l e
