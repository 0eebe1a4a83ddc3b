-- A search for a detector by halves.
use Rattle.std.proofs.Common.{◌≡◌, ℕ, ◌+◌, ◌<◌, ◌≤◌, ◌==◌, ⊎_elim, Bool, true, false, ◌&&◌, ◌||◌, refl, sym, ap, ◌∙◌, arith, subst, length, Option, Some, None, List, [], ◌∷◌, slice_get, get_or}
use Rattle.std.specs.List.{position}
use Rattle.std.specs.Prelude.{nat_lt}
use Rattle.std.proofs.lemmas.Bool.{cases_eq, cases_lt, true≢false}
use Rattle.std.proofs.lemmas.Bool.Decides.{nat_tests}
use Rattle.std.proofs.lemmas.Option.{same_Some, slice_get-get_or, slice_get_within, slice_get_read}
use Rattle.surface_model.specs.Layout.{Place}
use Rattle.measure_map.specs.Placed.{IsFirstOf, PlacedDetector}
use Rattle.error_map.specs.Spots.{Spot, is_at}
use Rattle.error_map.specs.Ends.{goes_before, place_of, is_earlier, AreInOrder, IsCut}
use Rattle.error_map.proofs.Ordered.{position_at, position_is}

passes_on : (a b t x y u v w z : ℕ) →
    (nat_lt t u || (t == u && (nat_lt a x || (a == x && nat_lt b y)))) ≡ true →
    (nat_lt u v || (u == v && (nat_lt x w || (x == w && nat_lt y z)))) ≡ true →
    (nat_lt t v || (t == v && (nat_lt a w || (a == w && nat_lt b z)))) ≡ true
passes_on a b t x y u v w z h k = grind (arith, nat_tests)

before_trans : (k l m : Spot) → goes_before k l ≡ true → goes_before l m ≡ true →
    goes_before k m ≡ true
before_trans k l m h g =
    passes_on k.corner.row k.corner.column k.slot l.corner.row l.corner.column l.slot m.slot
    m.corner.row m.corner.column h g

not_before_self : (t a b u x y : ℕ) → (u == t && (x == a && y == b)) ≡ true →
    (nat_lt u t || (u == t && (nat_lt x a || (x == a && nat_lt y b)))) ≡ true → ⊥
not_before_self t a b u x y h k = grind (arith, nat_tests)

pub at_not_earlier : (k : Spot) (d : PlacedDetector) → is_at k d ≡ true → is_earlier k d ≡ true → ⊥
at_not_earlier k d h g =
    not_before_self k.slot k.corner.row k.corner.column d.tag.slot d.corner.row d.corner.column h g

module _ (ds : List PlacedDetector) (order : AreInOrder ds) (k : Spot) (low high middle : ℕ)
    (c : IsCut ds k low high) (l : low ≤ middle) (h : middle < high) (d : PlacedDetector)
    (at : d ≡ get_or ds middle d) where
  read : slice_get ds middle ≡ Some d
  read = slice_get_read ds (length ds) middle d refl (let w = c.within in omega (arith, w, h)) at

  pub cut_up : is_earlier k d ≡ true → IsCut ds k (middle + 1) high
  cut_up e = record {
    within = (omega (arith, h), c.within.1);
    below = λ i x m f. ⊎_elim
        (λ s. subst (λ z. is_earlier k z ≡ true) (same_Some d x (sym read
        ∙ ap (slice_get ds) (sym s) ∙ f)) e)
        (λ ne. before_trans (place_of x) (place_of d) k
        (order i middle x d (omega (arith, m, ne)) f read) e) (cases_eq i middle);
    above = c.above;
  }

  pub cut_down : is_earlier k d ≡ false → IsCut ds k low middle
  cut_down e = record {
    within = (l, omega (arith, h, c.within.1));
    below = c.below;
    above = λ i x m f. ⊎_elim
        (λ s. subst (λ z. is_earlier k z ≡ false) (same_Some d x (sym read
        ∙ ap (slice_get ds) (sym s) ∙ f)) e)
        (λ ne. no_such (is_earlier k x)
        (λ g. true≢false
        (sym (before_trans (place_of d) (place_of x) k
        (order middle i d x (omega (arith, m, ne)) read f) g) ∙ e))) (cases_eq i middle);
  }
    where
      no_such : (b : Bool) → (b ≡ true → ⊥) → b ≡ false
      no_such true h = absurd (h refl)
      no_such false h = refl

no_such : (b : Bool) → (b ≡ true → ⊥) → b ≡ false
no_such true h = absurd (h refl)
no_such false h = refl

-- ---- the bounds of a search

-- those of a slot
module _ (ds : List PlacedDetector) (t low high : ℕ) (first : IsFirstOf ds t low)
    (next : IsFirstOf ds (t + 1) high) (c : Place) where
  comes_before : (u x y a b : ℕ) → u < t →
      (nat_lt u t || (u == t && (nat_lt x a || (x == a && nat_lt y b)))) ≡ true
  comes_before u x y a b l = grind (arith, nat_tests)

  comes_after : (u x y a b : ℕ) → t + 1 ≤ u →
      (nat_lt u t || (u == t && (nat_lt x a || (x == a && nat_lt y b)))) ≡ false
  comes_after u x y a b l = grind (arith, nat_tests)

  ordered : low ≤ high
  ordered = ⊎_elim (λ l. absurd (out l (found ds high (omega (arith, l, first.within))))) (λ l. l)
      (cases_lt high low)
    where
      found : (xs : List PlacedDetector) (i : ℕ) → i < length xs →
          (d : PlacedDetector) × (slice_get xs i ≡ Some d)
      found [] i l = absurd (omega arith)
      found (x ∷ xs) i l = (get_or (x ∷ xs) i x, slice_get-get_or (x ∷ xs) i x l)

      out : high < low → (d : PlacedDetector) × (slice_get ds high ≡ Some d) → ⊥
      out l d = let a = first.below high d.0 l d.1 in
          let b = next.above high d.0 (omega arith) d.1 in omega (arith, a, b)

  pub cut_slot : IsCut ds (record { slot = t; corner = c }) low high
  cut_slot = record {
    within = (ordered, next.within);
    below = λ i d l f. comes_before d.tag.slot d.corner.row d.corner.column c.row c.column
        (first.below i d l f);
    above = λ i d l f. comes_after d.tag.slot d.corner.row d.corner.column c.row c.column
        (next.above i d l f);
  }

pub cut_found : (ds : List PlacedDetector) (k : Spot) (n : ℕ) (d : PlacedDetector) →
    IsCut ds k n n → n < length ds → d ≡ get_or ds n d → is_at k d ≡ true →
    Some n ≡ position (is_at k) ds
cut_found ds k n d c l at h =
    sym (position_is (is_at k) ds n d (slice_get_read ds (length ds) n d refl l at) h
    (λ i m. no_such (is_at k (get_or ds i d))
    (λ g. at_not_earlier k (get_or ds i d) g
    (c.below i (get_or ds i d) m (slice_get-get_or ds i d (omega (arith, m, l)))))))

-- two detectors don't stand at one spot, so the number of one that does is the first
one_there : (t a b u x y p q r : ℕ) → (u == t && (x == a && y == b)) ≡ true →
    (p == t && (q == a && r == b)) ≡ true →
    (nat_lt p u || (p == u && (nat_lt q x || (q == x && nat_lt r y)))) ≡ true → ⊥
one_there t a b u x y p q r h g k = grind (arith, nat_tests)

pub found_there : (ds : List PlacedDetector) → AreInOrder ds → (k : Spot) (n : ℕ)
    (d : PlacedDetector) → n < length ds → d ≡ get_or ds n d → is_at k d ≡ true →
    position (is_at k) ds ≡ Some n
found_there ds order k n d l at h =
    let here = slice_get_read ds (length ds) n d refl l at in
    position_is (is_at k) ds n d here h
    (λ i m. no_such (is_at k (get_or ds i d))
    (λ g. let x = get_or ds i d in
    one_there k.slot k.corner.row k.corner.column d.tag.slot d.corner.row d.corner.column x.tag.slot
    x.corner.row x.corner.column h g
    (order i n x d m (slice_get-get_or ds i d (omega (arith, m, l))) here)))

pub cut_none : (ds : List PlacedDetector) (order : AreInOrder ds) (k : Spot) (n : ℕ) →
    IsCut ds k n n → (n < length ds → (d : PlacedDetector) → slice_get ds n ≡ Some d →
    is_at k d ≡ false) → None ≡ position (is_at k) ds
cut_none ds order k n c h = by_place (position (is_at k) ds) refl
  where
    by_place : (o : Option ℕ) → position (is_at k) ds ≡ o → None ≡ o
    by_place None e = refl
    by_place (Some v) e =
        let p = position_at (is_at k) ds v e in
        let w : v < length ds = slice_get_within ds v p.0 p.1 in
        ⊎_elim (λ b. absurd (at_not_earlier k p.0 p.2 (c.below v p.0 b p.1)))
        (λ a. ⊎_elim
        (λ s. absurd
        (true≢false (sym p.2
        ∙ h (omega (arith, w, s)) p.0 (subst (λ i. slice_get ds i ≡ Some p.0) s p.1))))
        (λ ne. let f = get_or ds n p.0 in
        let g : slice_get ds n ≡ Some f = slice_get-get_or ds n p.0 (omega (arith, w, a)) in
        let b : goes_before (place_of f) (place_of p.0) ≡ true =
        order n v f p.0 (omega (arith, a, ne)) g p.1 in
        absurd (true≢false (sym (same_end f p.0 b p.2) ∙ c.above n f (omega arith) g)))
        (cases_eq v n)) (cases_lt v n)
      where
        ends_there : (t a b u x y p q r : ℕ) → (u == t && (x == a && y == b)) ≡ true →
            (nat_lt p u || (p == u && (nat_lt q x || (q == x && nat_lt r y)))) ≡ true →
            (nat_lt p t || (p == t && (nat_lt q a || (q == a && nat_lt r b)))) ≡ true
        ends_there t a b u x y p q r h g = grind (arith, nat_tests)

        same_end : (f d : PlacedDetector) → goes_before (place_of f) (place_of d) ≡ true →
            is_at k d ≡ true → is_earlier k f ≡ true
        same_end f d b h =
            ends_there k.slot k.corner.row k.corner.column d.tag.slot d.corner.row d.corner.column
            f.tag.slot f.corner.row f.corner.column h b
