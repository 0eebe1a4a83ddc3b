-- What an error changes among the bits of lines, and of observables.
use Rattle.std.proofs.Common.{◌≡◌, ℕ, zero, suc, ◌+◌, ◌<◌, ◌≤◌, ◌⊎◌, ⊎_elim, inl, inr, Bool, true, false, cond, not, ◌&&◌, ◌==◌, eqb-true, refl, sym, ap, ◌∙◌, arith, subst, length, Option, Some, None, List, [], ◌∷◌, map, filter, slice_get, get_or, Contains, All}
use Rattle.std.specs.Prelude.{nat_le, nat_lt, option_map, unwrap_or}
use Rattle.std.specs.List.{list_any, position, position_or_len}
use Rattle.std.specs.Option.{option_map_or}
use Rattle.std.proofs.lemmas.Bool.{cases_lt, lt-ltb, true≢false, false≢true, leb-true, ltb-true}
use Rattle.std.proofs.lemmas.Option.{none-some, same_Some, slice_get-map, slice_get_read, slice_get-get_or, slice_get_within}
use Rattle.graph_model.specs.Parity.{◌⊕◌, parity}
use Rattle.surface_model.specs.declared.Basis.{Basis}
use Rattle.surface_model.specs.declared.Basis.TheVariants.{Z, X}
use Rattle.surface_model.specs.Schedules.{same_basis, Schedule}
use Rattle.surface_model.specs.Layout.{Place, kind, covers, last_slot, board, is_check_at, is_active_at, is_supported_at, readings_at}
use Rattle.surface_model.specs.Measurements as measurements
use Rattle.surface_model.specs.Measurements.{Readout, Outcome, Measurement, same_place, same_bit, is_read_at, bits_of_slot, Observable, observables}
use Rattle.surface_model.specs.Errors.{next_readout, space_flips, changes, flips_bit}
use Rattle.surface_model.specs.Accepted.{IsAccepted}
use Rattle.surface_laws.specs.BitLaws.{IsMade}
use Rattle.graph_model.specs.Members.{In}
use Rattle.graph_model.proofs.Elements.{mapped_at, in_append, in_map, in_filter, in_at, place_in, all_at}
use Rattle.surface_laws.proofs.Sound.{Sound}
use Rattle.surface_laws.proofs.Acceptance.{sound}
use Rattle.surface_laws.proofs.Regions.{supported_as}
use Rattle.surface_laws.proofs.Flips.{same_place_is, same_place_self, next_is, active_until}
use Rattle.surface_laws.proofs.Ends.{Case, of_readout, of_x, of_z, of_outcome, IsMechanism}
use Rattle.surface_laws.proofs.Slots.{observables_law}
use Rattle.surface_laws.proofs.Bits.{observable_bits_law}
use Rattle.slot_bits.specs.declared.bits.Bit.{Bit}
use Rattle.slot_bits.specs.Seen.{bit_of}
use Rattle.measure_map.specs.Placed.{map_of, PlacedObservable, place_of, placed_observable}
use Rattle.error_map.specs.declared.types.Effect.{Effect}
use Rattle.error_map.specs.Seen.{class_seen, error_in, next_in, shown_in}
use Rattle.error_map.specs.Sees.{IsEffect, IsShown, space_sees, class_sees, sees, sees_place}
use Rattle.error_map.proofs.Ordered.{position_at}
use Rattle.graph_model.proofs.Parities.{parity-map}

-- a space error is seen as its class says
pub seen_in : (basis : Basis) (t : ℕ) (q : Place) (n : ℕ) (shown : Bool) (u : ℕ)
    (bit : measurements.Bit) →
    space_sees basis t q n shown u bit ≡ class_sees (class_seen basis) t q n shown u bit
seen_in Z t q n shown u bit = refl
seen_in X t q n shown u bit = refl

-- a place of a line that was read
pub place_seen : (f : Effect) (u : ℕ) (line : List Bit) (k : ℕ) (x : Bit) → k < length line →
    x ≡ get_or line k x → (b : Bool) → b ≡ sees f u (bit_of x) →
    b ≡ sees_place f u (map bit_of line) k
place_seen f u line k x l at b h =
    h ∙ sym (ap (λ o. option_map_or (λ bit. sees f u bit) o false) (slice_get-map bit_of line k
    ∙ ap (option_map bit_of) (slice_get_read line (length line) k x refl l at)))

-- ---- an outcome of a slot's line is that of a check

not_outcome : (q c : Place) → Readout q ≡ Outcome c → ⊥
not_outcome q c e = cc

same_corner : (x c : Place) → Outcome x ≡ Outcome c → x ≡ c
same_corner x c e = cc

pub outcome_checked : (s : Schedule) (u : ℕ) (c : Place) → In (Outcome c) (bits_of_slot s u) →
    is_check_at s u c ≡ true
outcome_checked s u c m =
    ⊎_elim (λ a. let k = in_map Readout (filter (is_read_at s u) (board s)) (Outcome c) a in
    absurd (not_outcome k.0 c k.2))
    (λ a. let k = in_map Outcome (filter (is_check_at s u) (board s)) (Outcome c) a in
    subst (λ x. is_check_at s u x ≡ true) (same_corner k.0 c k.2)
    (in_filter (is_check_at s u) (board s) k.0 k.1).1)
    (in_append (map Readout (filter (is_read_at s u) (board s)))
    (map Outcome (filter (is_check_at s u) (board s))) (Outcome c) m)

-- ---- the bits of a line that an error changes

module _ (s : Schedule) (ok : Sound s) where
  space_same : (basis : Basis) (t : ℕ) (q : Place) → t ≤ last_slot s → is_active_at s t q ≡ true →
      (n : ℕ) (shown : Bool) → (n ≡ next_readout s t q)
      × (shown ≡ list_any (same_basis basis) (readings_at s n q)) →
      (u : ℕ) (bit : measurements.Bit) → In bit (bits_of_slot s u) →
      space_sees basis t q n shown u bit ≡ space_flips s basis t q u bit
  space_same basis t q low active n shown k u (Readout p) m =
      ap (λ i. (same_place p q && u == i) && shown) k.0
      ∙ by_slot (same_place p q) (u == next_readout s t q) refl
    where
      by_slot : (a b : Bool) → (u == next_readout s t q) ≡ b →
          ((a && b) && shown) ≡ ((a && b) && list_any (same_basis basis) (readings_at s u q))
      by_slot true true e =
          k.1 ∙ ap (λ i. list_any (same_basis basis) (readings_at s i q)) (k.0
          ∙ sym (eqb-true u (next_readout s t q) e))
      by_slot true false e = refl
      by_slot false b e = refl
  space_same basis t q low active n shown k u (Outcome c) m =
      ap (λ i. ((nat_le t u && nat_lt u i) && same_basis (kind c) basis) && covers c q) k.0
      ∙ by_slots (nat_le t u) refl (nat_lt u (next_readout s t q)) refl
    where
      by_slots : (a : Bool) → nat_le t u ≡ a → (b : Bool) → nat_lt u (next_readout s t q) ≡ b →
          (((a && b) && same_basis (kind c) basis) && covers c q)
          ≡ (((a && b) && same_basis (kind c) basis) && is_supported_at s u c q)
      by_slots true e true f =
          let next = next_is s t q low in
          let here = active_until s ok t q (next_readout s t q) active next.unread u
          (leb-true t u e) (ltb-true u (next_readout s t q) f) in
          ap (λ x. same_basis (kind c) basis && x) (sym (supported_as s ok u c q
          ∙ ap (λ x. x && (is_active_at s u q && covers c q)) (outcome_checked s u c m)
          ∙ ap (λ x. x && covers c q) here))
      by_slots true e false f = refl
      by_slots false e b f = refl

  pub sees_is : (f : Effect) → IsMechanism s (error_in f) → IsEffect s f →
      (u : ℕ) (bit : measurements.Bit) → In bit (bits_of_slot s u) →
      sees f u bit ≡ flips_bit s (error_in f) (record { slot = u; bit = bit })
  sees_is f i shown u bit m = by_case i.case shown
    where
      t : ℕ
      t = (error_in f).slot

      q : Place
      q = (error_in f).place

      by_case : Case s (error_in f) → IsShown s (error_in f).class t q (next_in f) (shown_in f) →
          class_sees (error_in f).class t q (next_in f) (shown_in f) u bit
          ≡ changes s (error_in f).class t q (record { slot = u; bit = bit })
      by_case (of_readout h a) k =
          subst (λ d. class_sees d t q (next_in f) (shown_in f) u bit
          ≡ changes s d t q (record { slot = u; bit = bit })) (sym h) refl
      by_case (of_x h a) k =
          subst (λ d. class_sees d t q (next_in f) (shown_in f) u bit
          ≡ changes s d t q (record { slot = u; bit = bit })) (sym h)
          (space_same Z t q i.last a (next_in f) (shown_in f)
          (subst (λ d. IsShown s d t q (next_in f) (shown_in f)) h k) u bit m)
      by_case (of_z h a) k =
          subst (λ d. class_sees d t q (next_in f) (shown_in f) u bit
          ≡ changes s d t q (record { slot = u; bit = bit })) (sym h)
          (space_same X t q i.last a (next_in f) (shown_in f)
          (subst (λ d. IsShown s d t q (next_in f) (shown_in f)) h k) u bit m)
      by_case (of_outcome h a) k =
          subst (λ d. class_sees d t q (next_in f) (shown_in f) u bit
          ≡ changes s d t q (record { slot = u; bit = bit })) (sym h) refl

-- ---- the place of a bit that is made

bit_is : (a b : measurements.Bit) → same_bit a b ≡ true → b ≡ a
bit_is (Readout p) (Readout q) h = ap Readout (sym (same_place_is p q h))
bit_is (Readout p) (Outcome q) h = absurd (false≢true h)
bit_is (Outcome p) (Readout q) h = absurd (false≢true h)
bit_is (Outcome p) (Outcome q) h = ap Outcome (sym (same_place_is p q h))

bit_self : (a : measurements.Bit) → same_bit a a ≡ true
bit_self (Readout p) = same_place_self p
bit_self (Outcome p) = same_place_self p

none_passes : {X : Type 0} (p : X → Bool) (xs : List X) → length xs ≤ position_or_len p xs →
    (k : ℕ) (x : X) → slice_get xs k ≡ Some x → p x ≡ false
none_passes p [] l k x e = absurd (none-some x e)
none_passes p (y ∷ ys) l k x e = by_test (p y) refl k e (λ h j f. none_passes p ys h j x f)
  where
    by_test : (b : Bool) → p y ≡ b → (k : ℕ) → slice_get (y ∷ ys) k ≡ Some x →
        (length ys ≤ position_or_len p ys → (j : ℕ) → slice_get ys j ≡ Some x → p x ≡ false) →
        p x ≡ false
    by_test true f k e more = let z : position_or_len p (y ∷ ys)
        ≡ 0 = ap (λ b. cond (not b) (1 + position_or_len p ys) 0) f in absurd (omega (arith, l, z))
    by_test false f zero e more = subst (λ z. p z ≡ false) (same_Some y x e) f
    by_test false f (suc k) e more = let z : position_or_len p (y ∷ ys)
        ≡ 1 + position_or_len p ys = ap (λ b. cond (not b) (1 + position_or_len p ys) 0) f in
        more (omega (arith, l, z)) k e

some_place : {X : Type 0} (p : X → Bool) (xs : List X) (x : X) → In x xs → p x ≡ true →
    (k : ℕ) × (position p xs ≡ Some k)
some_place p xs x m h = by_order (cases_lt (position_or_len p xs) (length xs))
  where
    by_order : (position_or_len p xs < length xs) ⊎ (length xs ≤ position_or_len p xs) →
        (k : ℕ) × (position p xs ≡ Some k)
    by_order (inl l) = (
      position_or_len p xs,
      ap (λ b. cond b (Some (position_or_len p xs)) None)
          (lt-ltb (position_or_len p xs) (length xs) l),
    )
    by_order (inr l) = let k = place_in xs x m in
        absurd (true≢false (sym h ∙ none_passes p xs l k.0 x k.1))

found_at : (a : measurements.Bit) (line : List measurements.Bit) → In a line →
    slice_get line (unwrap_or (position (same_bit a) line) 0) ≡ Some a
found_at a line m = by_place (position (same_bit a) line) refl
  where
    by_place : (o : Option ℕ) → position (same_bit a) line ≡ o →
        slice_get line (unwrap_or o 0) ≡ Some a
    by_place (Some v) e = let p = position_at (same_bit a) line v e in
        p.1 ∙ ap Some (bit_is a p.0 p.2)
    by_place None e = let k = some_place (same_bit a) line a m (bit_self a) in
        absurd (none-some k.0 (sym e ∙ k.1))

pub in_contains : {X : Type 0} (xs : List X) (x : X) → Contains xs x → In x xs
in_contains xs x c = in_at xs c.0 x (slice_get-get_or xs c.0 x c.1 ∙ ap Some c.2)

parity_on : {X : Type 0} (p q : X → Bool) (xs : List X) → ((x : X) → In x xs → p x ≡ q x) →
    parity p xs ≡ parity q xs
parity_on p q [] h = refl
parity_on p q (x ∷ xs) h =
    ap (λ b. b ⊕ parity p xs) (h x (inl refl))
    ∙ ap (λ b. q x ⊕ b) (parity_on p q xs (λ y m. h y (inr m)))

-- ---- observables

module _ (s : Schedule) (a : IsAccepted s) (o : Observable) (known : In o (observables s)) where
  made : (m : Measurement) → In m o.bits → In m.bit (bits_of_slot s m.slot)
  made m i = in_contains (bits_of_slot s m.slot) m.bit
      (all_at (IsMade s) o.bits m (all_at (λ (x : Observable). All (IsMade s) x.bits)
      (observables s) o (observable_bits_law s a) known) i)

  same_slot : (m : Measurement) → In m o.bits → m.slot ≡ o.slot
  same_slot m i =
      all_at (λ (x : Measurement). x.slot ≡ o.slot) o.bits m
      (all_at (λ (x : Observable). All (λ (y : Measurement). y.slot ≡ x.slot) x.bits)
      (observables s) o (observables_law s) known) i

  -- the parity at its places is that of its bits
  pub observable_odd : (f : Effect) → IsMechanism s (error_in f) → IsEffect s f →
      (line : List measurements.Bit) → line ≡ bits_of_slot s o.slot →
      parity (sees_place f o.slot line) (map (place_of s) o.bits)
      ≡ parity (flips_bit s (error_in f)) o.bits
  observable_odd f i shown line h = parity-map (sees_place f o.slot line) (place_of s) o.bits
      ∙ parity_on _ (flips_bit s (error_in f)) o.bits each
    where
      each : (m : Measurement) → In m o.bits →
          sees_place f o.slot line (place_of s m) ≡ flips_bit s (error_in f) m
      each m k =
          let slot = same_slot m k in
          ap (λ l. sees_place f o.slot l (place_of s m)) (h ∙ ap (bits_of_slot s) (sym slot))
          ∙ ap (λ x. option_map_or (λ bit. sees f o.slot bit) x false)
          (found_at m.bit (bits_of_slot s m.slot) (made m k))
          ∙ ap (λ u. sees f u m.bit) (sym slot)
          ∙ sees_is s (sound s a) f i shown m.slot m.bit (made m k)

  -- its places are those of its slot's line
  pub places_within : (line : List measurements.Bit) → line ≡ bits_of_slot s o.slot → (k : ℕ) →
      In k (map (place_of s) o.bits) → k < length line
  places_within line h k m =
      let x = in_map (place_of s) o.bits k m in
      let slot = same_slot x.0 x.1 in
      subst (λ n. n < length line) x.2 (slice_get_within line (place_of s x.0) x.0.bit
      (ap (λ l. slice_get l (place_of s x.0)) (h ∙ ap (bits_of_slot s) (sym slot))
      ∙ found_at x.0.bit (bits_of_slot s x.0.slot) (made x.0 x.1)))

-- the observable of a number
pub placed_at : (s : Schedule) (n : ℕ) (x : PlacedObservable) → n < length (map_of s).observables →
    x ≡ get_or (map_of s).observables n x →
    (o : Observable) × (slice_get (observables s) n ≡ Some o) × (x ≡ placed_observable s o)
unfolding map_of
placed_at s n x l at = mapped_at (placed_observable s) (observables s) n x
    (slice_get_read (map (placed_observable s) (observables s))
    (length (map (placed_observable s) (observables s))) n x refl l at)
