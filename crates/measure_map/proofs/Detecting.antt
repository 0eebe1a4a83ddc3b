-- A corner's detector by the lines of its slot and of the slot before.
use Rattle.std.proofs.Common.{◌≡◌, ℕ, zero, suc, ◌+◌, ◌-◌, Bool, true, false, cond, not, ◌&&◌, ◌||◌, refl, sym, ap, ◌∙◌, arith, subst, List, [], ◌∷◌, ◌++◌, map, filter, length, Option, Some, None}
use Rattle.std.specs.Prelude.{position, option_map, unwrap_or, is_some, nat_lt}
use Rattle.std.specs.List.{list_any, cons_option, position_or_len}
use Rattle.std.proofs.lemmas.Bool.{false≢true, true≢false, lt-ltb}
use Rattle.std.proofs.lemmas.Bool.Decides.{nat_tests}
use Rattle.std.proofs.lemmas.Option.{none-some, same_Some}
use Rattle.surface_model.specs.Schedules.{Schedule}
use Rattle.surface_model.specs.Layout.{Place, covered, covered_in, is_check, is_check_at, is_supported_at}
use Rattle.surface_model.specs.Measurements.{Bit, Readout, Outcome, Measurement, same_bit, bits_of_slot, outcome, is_read_at, was_check, was_supported, earlier_outcome, readouts, is_prepared, is_finished, detector_bits, going_on}
use Rattle.surface_model.specs.Accepted.{IsAccepted}
use Rattle.surface_laws.proofs.Sound.{Sound}
use Rattle.surface_laws.proofs.Acceptance.{sound}
use Rattle.surface_laws.proofs.Spots.{Lone, active_any}
use Rattle.surface_laws.proofs.Flips.{finished_is}
use Rattle.surface_laws.proofs.Grounded.{alone_before}
use Rattle.measure_map.specs.Placed.{place_of}
use Rattle.slot_bits.specs.Lines.{bits_before}
use Rattle.measure_map.specs.Slots.{found_places, one_place, places_round, is_watched}
use Rattle.slot_bits.proofs.Lines.{slot_readout, slot_outcome}
use Rattle.measure_map.proofs.Around.{around, going_readouts, last_readouts, first_readouts}
use Rattle.std.proofs.lemmas.List.{map-append, append_assoc, append-nil}

-- three tests one after the other
pub any_three : {X : Type 0} (p q r : X → Bool) (xs : List X) →
    list_any (λ x. p x && (q x && r x)) xs ≡ list_any (λ x. (p x && q x) && r x) xs
any_three p q r [] = refl
any_three p q r (x ∷ xs) = ap (λ t. t || list_any (λ x. p x && (q x && r x)) xs) (joined (p x))
    ∙ ap (λ t. ((p x && q x) && r x) || t) (any_three p q r xs)
  where
    joined : (a : Bool) → (a && (q x && r x)) ≡ ((a && q x) && r x)
    joined true = refl
    joined false = refl

less : (a b : ℕ) → nat_lt (1 + a) (suc b) ≡ nat_lt a b
less a b = grind (arith, nat_tests)

-- a position is there where some element passes
test_len : {X : Type 0} (p : X → Bool) (xs : List X) →
    nat_lt (position_or_len p xs) (length xs) ≡ list_any p xs
test_len p [] = refl
test_len p (x ∷ xs) = by_test (p x) (test_len p xs)
  where
    by_test : (t : Bool) → nat_lt (position_or_len p xs) (length xs) ≡ list_any p xs →
        nat_lt (cond (not t) (1 + position_or_len p xs) 0) (suc (length xs)) ≡ t || list_any p xs
    by_test true e = lt-ltb 0 (suc (length xs)) (omega arith)
    by_test false e = less (position_or_len p xs) (length xs) ∙ e

some_len : {X : Type 0} (b : Bool) (x : X) → is_some (cond b (Some x) None) ≡ b
some_len true x = refl
some_len false x = refl

pub some_position : {X : Type 0} (p : X → Bool) (xs : List X) →
    is_some (position p xs) ≡ list_any p xs
some_position p xs = some_len (nat_lt (position_or_len p xs) (length xs)) (position_or_len p xs)
    ∙ test_len p xs

one_there : (t : ℕ) (o : Option ℕ) → is_some o ≡ true → one_place t o ≡ (t, unwrap_or o 0) ∷ []
one_there t (Some k) h = refl
one_there t None h = absurd (false≢true h)

one_missing : (t : ℕ) (o : Option ℕ) → is_some o ≡ false → one_place t o ≡ []
one_missing t (Some k) h = absurd (true≢false h)
one_missing t None h = refl

-- the places of readouts, over lists end to end
found-append : (t : ℕ) (line : List Bit) (ps qs : List Place) →
    found_places t line (ps ++ qs) ≡ found_places t line ps ++ found_places t line qs
found-append t line [] qs = refl
found-append t line (p ∷ ps) qs =
    by_place (option_map (λ k. (t, k)) (position (same_bit (Readout p)) line))
    (found-append t line ps qs)
  where
    by_place : (o : Option (ℕ × ℕ)) →
        found_places t line (ps ++ qs) ≡ found_places t line ps ++ found_places t line qs →
        cons_option o (found_places t line (ps ++ qs)) ≡ cons_option o (found_places t line ps)
        ++ found_places t line qs
    by_place (Some x) e = ap (λ zs. x ∷ zs) e
    by_place None e = e

pub two_rows : (t : ℕ) (line : List Bit) (i j : ℕ) (start first all : List (ℕ × ℕ)) → (i ≡ 0 → ⊥) →
    first ≡ start ++ found_places t line (covered_in (i - 1) j) →
    all ≡ first ++ found_places t line (covered_in i j) →
    all ≡ start ++ found_places t line (covered (record { row = i; column = j }))
two_rows t line zero j start first all h e f = absurd (h refl)
two_rows t line (suc i) j start first all h e f =
    let n : suc i - 1 ≡ i = omega arith in
    f ∙ ap (λ zs. zs ++ found_places t line (covered_in (suc i) j)) (e
    ∙ ap (λ k. start ++ found_places t line (covered_in k j)) n)
    ∙ append_assoc start (found_places t line (covered_in i j))
    (found_places t line (covered_in (suc i) j))
    ∙ ap (λ zs. start ++ zs)
    (ap (λ zs. found_places t line (covered_in i j) ++ found_places t line zs)
    (sym (append-nil (covered_in (suc i) j)))
    ∙ sym (found-append t line (covered_in i j) (covered_in (suc i) j ++ [])))

-- a measurement by its slot and the place of its bit
abbrev pub located : Schedule → Measurement → ℕ × ℕ
located s m = (m.slot, place_of s m)

module _ (s : Schedule) (a : IsAccepted s) (t : ℕ) where
  ok : Sound s
  ok = sound s a

  abbrev line : List Bit
  line = bits_of_slot s t

  read_found : (q : Place) → is_some (position (same_bit (Readout q)) line) ≡ is_read_at s t q
  read_found q = some_position (same_bit (Readout q)) line ∙ slot_readout s ok t q

  found_step : (q : Place) (qs : List Place) (o : Option ℕ) (r : Bool) → is_some o ≡ r →
      position (same_bit (Readout q)) line ≡ o → (rest : List (ℕ × ℕ)) (kept : List Place) →
      map (located s) (map (λ x. record { slot = t; bit = Readout x }) kept) ≡ rest →
      map (located s) (map (λ x. record { slot = t; bit = Readout x }) (cond r (q ∷ kept) kept))
      ≡ cons_option (option_map (λ k. (t, k)) o) rest
  found_step q qs (Some k) true h e rest kept i =
      ap (λ p. (t, unwrap_or p 0)
      ∷ map (located s) (map (λ x. record { slot = t; bit = Readout x }) kept)) e
      ∙ ap (λ zs. (t, k) ∷ zs) i
  found_step q qs (Some k) false h e rest kept i = absurd (true≢false h)
  found_step q qs None true h e rest kept i = absurd (false≢true h)
  found_step q qs None false h e rest kept i = i

  found_as : (qs : List Place) →
      map (located s) (map (λ x. record { slot = t; bit = Readout x }) (filter (is_read_at s t) qs))
      ≡ found_places t line qs
  found_as [] = refl
  found_as (q ∷ qs) =
      found_step q qs (position (same_bit (Readout q)) line) (is_read_at s t q) (read_found q) refl
      (found_places t line qs) (filter (is_read_at s t) qs) (found_as qs)

  module _ (c : Place) where
    abbrev now : Option ℕ
    now = position (same_bit (Outcome c)) line

    abbrev before : Option ℕ
    before = position (same_bit (Outcome c)) (bits_before s t)

    now_is : is_some now ≡ is_check_at s t c
    now_is = some_position (same_bit (Outcome c)) line ∙ slot_outcome s ok t c

    was_at : (u : ℕ) → is_some (position (same_bit (Outcome c)) (bits_before s u)) ≡ was_check s u c
    was_at zero = refl
    was_at (suc u) = some_position (same_bit (Outcome c)) (bits_of_slot s u) ∙ slot_outcome s ok u c

    earlier_at : (u : ℕ) → was_check s u c ≡ true →
        map (located s) (earlier_outcome u c)
        ≡ one_place (u - 1) (position (same_bit (Outcome c)) (bits_before s u))
    earlier_at zero h = absurd (false≢true h)
    earlier_at (suc u) h = let e : suc u - 1 ≡ u = omega arith in
        sym (ap (λ n. one_place n (position (same_bit (Outcome c)) (bits_of_slot s u))) e
        ∙ one_there u (position (same_bit (Outcome c)) (bits_of_slot s u)) (was_at (suc u) ∙ h))

    pub finished_at : (u : ℕ) → is_finished s u c ≡ true → was_check s u c ≡ true
    finished_at zero h = let l = finished_is s 0 c h in
        absurd (omega (
          arith,
          ok.lives l.line.patch (ok.read_known l.line l.known),
          ok.read_is l.line l.known,
          l.slot,
        ))
    finished_at (suc u) h =
        let l = finished_is s (suc u) c h in
        active_any s ok u (λ r. is_check r c) (Lone l.line.patch) (ok.read_known l.line l.known)
        (alone_before s ok l.line.patch u (ok.read_known l.line l.known)
        (ok.read_is l.line l.known ∙ l.slot)) l.check

    -- whether there is a detector
    some_by : (x y d f : Bool) (going first last : List Measurement) → (f ≡ true → y ≡ true) →
        is_some (cond (x && y) (Some going) (cond (x && d) (Some first) (cond f (Some last) None)))
        ≡ cond x (y || d) (y && f)
    some_by true true d f g i l h = refl
    some_by true false true f g i l h = refl
    some_by true false false true g i l h = absurd (false≢true (h refl))
    some_by true false false false g i l h = refl
    some_by false true d true g i l h = refl
    some_by false true d false g i l h = refl
    some_by false false d true g i l h = absurd (false≢true (h refl))
    some_by false false d false g i l h = refl

    pub watched_as : is_watched s t c ≡ cond (is_some now) (is_some before || is_prepared s t c)
        (is_some before && is_finished s t c)
    watched_as =
        some_by (is_check_at s t c) (was_check s t c) (is_prepared s t c) (is_finished s t c) _ _ _
        (finished_at t)
        ∙ ap (λ x. cond x (was_check s t c || is_prepared s t c)
        (was_check s t c && is_finished s t c)) (sym now_is)
        ∙ ap (λ y. cond (is_some now) (y || is_prepared s t c) (y && is_finished s t c))
        (sym (was_at t))

    pub when_now : is_some now ≡ true → is_watched s t c ≡ is_some before || is_prepared s t c
    when_now h =
        watched_as ∙ ap (λ x. cond x (is_some before || is_prepared s t c)
        (is_some before && is_finished s t c)) h

    pub when_gone : is_some now ≡ false → is_watched s t c ≡ is_some before && is_finished s t c
    when_gone h =
        watched_as ∙ ap (λ x. cond x (is_some before || is_prepared s t c)
        (is_some before && is_finished s t c)) h

    -- its bits, by their places
    abbrev Located : List Measurement → Type 0
    Located bits = map (located s) bits ≡ places_round t (bits_before s t) line c

    now_place : is_check_at s t c ≡ true → (located s (outcome t c) ∷ []) ≡ one_place t now
    now_place h = sym (one_there t now (now_is ∙ h))

    no_place : is_check_at s t c ≡ false → [] ≡ one_place t now
    no_place h = sym (one_missing t now (now_is ∙ h))

    none_before : was_check s t c ≡ false → [] ≡ one_place (t - 1) before
    none_before h = sym (one_missing (t - 1) before (was_at t ∙ h))

    joined : (xs ys zs : List (ℕ × ℕ)) → xs ++ (ys ++ zs) ≡ (xs ++ ys) ++ zs
    joined [] ys zs = refl
    joined (x ∷ xs) ys zs = ap (λ ws. x ∷ ws) (joined xs ys zs)

    -- the places of what comes from the slot before, and round the corner
    rest_of : was_check s t c ≡ true → (rs : List Measurement) → rs ≡ around s a t c →
        map (located s) (earlier_outcome t c ++ rs) ≡ one_place (t - 1) before
        ++ found_places t line (covered c)
    rest_of w rs e =
        map-append (located s) (earlier_outcome t c) rs
        ∙ ap (λ zs. zs ++ map (located s) rs) (earlier_at t w)
        ∙ ap (λ xs. one_place (t - 1) before ++ map (located s) xs) e
        ∙ ap (λ zs. one_place (t - 1) before ++ zs) (found_as (covered c))

    going_places : is_check_at s t c ≡ true → was_check s t c ≡ true → Located (going_on s t c)
    going_places h w =
        ap (λ zs. located s (outcome t c) ∷ zs)
        (rest_of w (readouts s t (λ q. was_supported s t c q && not (is_supported_at s t c q)))
        (going_readouts s a t c w))
        ∙ ap (λ zs. zs ++ (one_place (t - 1) before ++ found_places t line (covered c)))
        (now_place h)
        ∙ joined (one_place t now) (one_place (t - 1) before) (found_places t line (covered c))

    first_places : is_check_at s t c ≡ true → was_check s t c ≡ false → is_prepared s t c ≡ true →
        Located (outcome t c ∷ [])
    first_places h w d =
        now_place h ∙ sym (append-nil (one_place t now))
        ∙ ap (λ zs. one_place t now ++ zs) (none_before w)
        ∙ sym (append-nil (one_place t now ++ one_place (t - 1) before))
        ∙ ap (λ zs. (one_place t now ++ one_place (t - 1) before) ++ zs)
        (sym (ap (map (located s)) (first_readouts s a t c d)) ∙ found_as (covered c))

    last_places : is_check_at s t c ≡ false → was_check s t c ≡ true →
        Located (earlier_outcome t c ++ readouts s t (was_supported s t c))
    last_places h w =
        rest_of w (readouts s t (was_supported s t c)) (last_readouts s a t c w)
        ∙ ap (λ zs. (zs ++ one_place (t - 1) before) ++ found_places t line (covered c))
        (no_place h)

    pub places_as : (bits : List Measurement) → detector_bits s t c ≡ Some bits → Located bits
    places_as bits e =
        by_parts (is_check_at s t c) refl (was_check s t c) refl (is_prepared s t c) refl
        (is_finished s t c) refl e
      where
        by_parts : (x : Bool) → is_check_at s t c ≡ x → (y : Bool) → was_check s t c ≡ y →
            (d : Bool) → is_prepared s t c ≡ d → (f : Bool) → is_finished s t c ≡ f →
            cond (x && y) (Some (going_on s t c))
            (cond (x && d) (Some (outcome t c ∷ []))
            (cond f (Some (earlier_outcome t c ++ readouts s t (was_supported s t c))) None))
            ≡ Some bits → Located bits
        by_parts true h true w d p f g k =
            subst Located (same_Some (going_on s t c) bits k) (going_places h w)
        by_parts true h false w true p f g k =
            subst Located (same_Some (outcome t c ∷ []) bits k) (first_places h w p)
        by_parts true h false w false p true g k = absurd (false≢true (sym w ∙ finished_at t g))
        by_parts true h false w false p false g k = absurd (none-some bits k)
        by_parts false h y w d p true g k =
            subst Located (same_Some (earlier_outcome t c ++ readouts s t (was_supported s t c))
            bits k) (last_places h (finished_at t g))
        by_parts false h y w d p false g k = absurd (none-some bits k)
