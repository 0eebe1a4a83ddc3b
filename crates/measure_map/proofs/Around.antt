-- The qubits round a corner, and which of them are read.
use Rattle.std.proofs.Common.{◌≡◌, ℕ, zero, suc, ◌+◌, ◌<◌, ◌≤◌, ◌==◌, ⊎_elim, Bool, true, false, cond, not, ◌&&◌, ◌||◌, refl, sym, ap, ◌∙◌, arith, List, [], ◌∷◌, map, filter, length}
use Rattle.std.specs.Prelude.{nat_lt}
use Rattle.std.proofs.lemmas.Bool.{false≢true, true≢false, cases_Bool}
use Rattle.std.proofs.lemmas.Bool.Decides.{nat_tests}
use Rattle.graph_model.proofs.Orders.{rises_filter}
use Rattle.surface_model.specs.declared.Basis.{Basis}
use Rattle.surface_model.specs.Schedules.{MergeLine, Schedule}
use Rattle.surface_model.specs.Layout.{Place, covers, covered, has_qubit, board, board_height, board_width, is_check_at, is_active_at, is_supported_at, readings_at}
use Rattle.surface_model.specs.Measurements.{Bit, Readout, Outcome, Measurement, same_place, is_read_at, readouts, was_check, was_supported, is_prepared}
use Rattle.surface_model.specs.Accepted.{IsAccepted}
use Rattle.surface_model.specs.Limits.{last_named_slot, longest_merge}
use Rattle.graph_model.proofs.Elements.{any_in, all_at}
use Rattle.surface_laws.proofs.Sound.{Sound}
use Rattle.surface_laws.proofs.Acceptance.{sound}
use Rattle.surface_laws.proofs.Spots.{Pair, active_any}
use Rattle.surface_laws.proofs.Regions.{Reading, of_patch, of_seam, reading_of, read_inactive, living_active, supported_as, seam_is, fresh}
use Rattle.surface_laws.proofs.Flips.{prepared_is}
use Rattle.slot_bits.specs.Order.{precedes, has_bit}
use Rattle.slot_bits.proofs.Rising.{rising_same}
use Rattle.slot_bits.proofs.Places.{has_place, has-filter, Ascends, area_ascends, readouts_rise, has_readouts, no_readouts}
use Rattle.slot_bits.proofs.Lines.{read_on_board}

-- ---- the four places round a corner

covers_far : (x y i j : ℕ) →
    ((x == i && y == j)
    || ((x == i && y == suc j)
    || ((x == suc i && y == j) || ((x == suc i && y == suc j) || false))))
    ≡ ((x == suc i || x + 1 == suc i) && (y == suc j || y + 1 == suc j))
covers_far x y i j = grind (arith, nat_tests)

covers_left : (x y i : ℕ) → ((x == i && y == 0) || ((x == suc i && y == 0) || false))
    ≡ ((x == suc i || x + 1 == suc i) && (y == 0 || y + 1 == 0))
covers_left x y i = grind (arith, nat_tests)

covers_top : (x y j : ℕ) → ((x == 0 && y == j) || ((x == 0 && y == suc j) || false))
    ≡ ((x == 0 || x + 1 == 0) && (y == suc j || y + 1 == suc j))
covers_top x y j = grind (arith, nat_tests)

covers_first : (x y : ℕ) →
    ((x == 0 && y == 0) || false) ≡ ((x == 0 || x + 1 == 0) && (y == 0 || y + 1 == 0))
covers_first x y = grind (arith, nat_tests)

has_covered_at : (i j : ℕ) (q : Place) → has_place (covered (record { row = i; column = j })) q
    ≡ covers (record { row = i; column = j }) q
has_covered_at zero zero q = covers_first q.row q.column
has_covered_at zero (suc j) q = covers_top q.row q.column j
has_covered_at (suc i) zero q = covers_left q.row q.column i
has_covered_at (suc i) (suc j) q = covers_far q.row q.column i j

pub has_covered : (c q : Place) → has_place (covered c) q ≡ covers c q
has_covered c q = has_covered_at c.row c.column q

beside : (i j : ℕ) → (nat_lt i i || (i == i && nat_lt j (suc j))) ≡ true
beside i j = grind (arith, nat_tests)

below : (i j k : ℕ) → (nat_lt i (suc i) || (i == suc i && nat_lt j k)) ≡ true
below i j k = grind (arith, nat_tests)

covered_ascends_at : (i j : ℕ) → Ascends (covered (record { row = i; column = j }))
covered_ascends_at zero zero = (tt, tt)
covered_ascends_at zero (suc j) = ((beside 0 j, tt), (tt, tt))
covered_ascends_at (suc i) zero = ((below i 0 0, tt), (tt, tt))
covered_ascends_at (suc i) (suc j) = (
  (beside i j, (below i j j, (below i j (suc j), tt))),
  ((below i (suc j) j, (below i (suc j) (suc j), tt)), ((beside (suc i) j, tt), (tt, tt))),
)

pub covered_ascends : (c : Place) → Ascends (covered c)
covered_ascends c = covered_ascends_at c.row c.column

-- ---- what is read was active

module _ (s : Schedule) (a : IsAccepted s) where
  ok : Sound s
  ok = sound s a

  read_was : (u : ℕ) (q : Place) (basis : Basis) → Reading s (suc u) q basis →
      is_active_at s u q ≡ true
  read_was u q basis (of_patch line m e h b) =
      let k = ok.lives line.patch (ok.read_known line m) in let r = ok.read_is line m in
      living_active s ok u line.patch q (ok.read_known line m) (omega (arith, k, r, e))
      (omega (arith, r, e)) h
  read_was u q basis (of_seam m i e h b) =
      let r = all_at (λ (x : MergeLine). (x.one < length s.patches) × (x.two < length s.patches)
      × (x.slot ≤ last_named_slot) × (1 ≤ x.count) × (x.count ≤ longest_merge)) s.merges m
      a.ranges.merges i in
      active_any s ok u (λ r. has_qubit r q) (Pair m) i (omega (arith, e, r.3), omega (arith, e))
      (seam_is s m q h).merged

  pub read_earlier : (u : ℕ) (q : Place) → is_read_at s (suc u) q ≡ true → is_active_at s u q ≡ true
  read_earlier u q h = let k = any_in (λ (b : Basis). true) (readings_at s (suc u) q) h in
      read_was u q k.0 (reading_of s (suc u) q k.0 k.1)

  first_reading : (q : Place) (basis : Basis) → Reading s 0 q basis → ⊥
  first_reading q basis (of_patch line m e h b) =
      omega (arith, ok.lives line.patch (ok.read_known line m), ok.read_is line m, e)
  first_reading q basis (of_seam m i e h b) =
      let r = all_at (λ (x : MergeLine). (x.one < length s.patches) × (x.two < length s.patches)
      × (x.slot ≤ last_named_slot) × (1 ≤ x.count) × (x.count ≤ longest_merge)) s.merges m
      a.ranges.merges i in
      omega (arith, e, r.3)

  none_first : (q : Place) → is_read_at s 0 q ≡ true → ⊥
  none_first q h = let k = any_in (λ (b : Basis). true) (readings_at s 0 q) h in
      first_reading q k.0 (reading_of s 0 q k.0 k.1)

  leaving_by : (check active covered_by : Bool) → check ≡ true → active ≡ true →
      check && (active && covered_by) ≡ covered_by
  leaving_by true true v h k = refl
  leaving_by true false v h k = absurd (false≢true k)
  leaving_by false active v h k = absurd (false≢true h)

  leaving : (u : ℕ) (c q : Place) → is_check_at s u c ≡ true → is_read_at s (suc u) q ≡ true →
      is_supported_at s u c q ≡ covers c q
  leaving u c q h k =
      supported_as s ok u c q
      ∙ leaving_by (is_check_at s u c) (is_active_at s u q) (covers c q) h (read_earlier u q k)

  inactive : (t : ℕ) (q : Place) → is_read_at s t q ≡ true → is_active_at s t q ≡ false
  inactive t q h = let k = any_in (λ (b : Basis). true) (readings_at s t q) h in
      ⊎_elim (λ e. absurd (read_inactive s ok t q k.0 (reading_of s t q k.0 k.1) e)) (λ e. e)
      (cases_Bool (is_active_at s t q))

  staying_by : (check active covered_by : Bool) → active ≡ false →
      check && (active && covered_by) ≡ false
  staying_by true true v h = absurd (true≢false h)
  staying_by true false v h = refl
  staying_by false active v h = refl

  staying : (t : ℕ) (c q : Place) → is_read_at s t q ≡ true → is_supported_at s t c q ≡ false
  staying t c q h =
      supported_as s ok t c q
      ∙ staying_by (is_check_at s t c) (is_active_at s t q) (covers c q) (inactive t q h)

  -- ---- the readouts of a detector

  abbrev as_bits : ℕ → Bit → Measurement
  as_bits t b = record { slot = t; bit = b }

  map-map : (t : ℕ) (ps : List Place) →
      map (as_bits t) (map Readout ps) ≡ map (λ q. record { slot = t; bit = Readout q }) ps
  map-map t [] = refl
  map-map t (p ∷ ps) =
      ap (λ (ms : List Measurement). record { slot = t; bit = Readout p } ∷ ms) (map-map t ps)

  has_by : (read test on around : Bool) → (read ≡ true → on ≡ true) →
      (read ≡ true → test ≡ around) → (read && test) && on ≡ read && around
  has_by true test on around h k = ap (λ x. (true && test) && x) (h refl) ∙ by_test test ∙ k refl
    where
      by_test : (b : Bool) → (true && b) && true ≡ b
      by_test true = refl
      by_test false = refl
  has_by false test on around h k = refl

  readouts_have_same : (t : ℕ) (c : Place) (test : Place → Bool) →
      ((q : Place) → is_read_at s t q ≡ true → test q ≡ covers c q) → (b : Bit) →
      has_bit (map Readout (filter (λ q. is_read_at s t q && test q) (board s))) b
      ≡ has_bit (map Readout (filter (is_read_at s t) (covered c))) b
  readouts_have_same t c test h (Readout q) =
      has_readouts (filter (λ q. is_read_at s t q && test q) (board s)) q
      ∙ has-filter (λ q. is_read_at s t q && test q) (board s) q
      ∙ has_by (is_read_at s t q) (test q) (has_place (board s) q) (covers c q)
      (read_on_board s ok t q) (h q)
      ∙ sym (has_readouts (filter (is_read_at s t) (covered c)) q
      ∙ has-filter (is_read_at s t) (covered c) q
      ∙ ap (λ x. is_read_at s t q && x) (has_covered c q))
  readouts_have_same t c test h (Outcome q) =
      no_readouts (filter (λ q. is_read_at s t q && test q) (board s)) q
      ∙ sym (no_readouts (filter (is_read_at s t) (covered c)) q)

  abbrev pub around : ℕ → Place → List Measurement
  around t c = map (λ q. record { slot = t; bit = Readout q }) (filter (is_read_at s t) (covered c))

  readouts_are : (t : ℕ) (c : Place) (test : Place → Bool) →
      ((q : Place) → is_read_at s t q ≡ true → test q ≡ covers c q) → readouts s t test ≡ around t c
  readouts_are t c test h =
      sym (map-map t (filter (λ q. is_read_at s t q && test q) (board s)))
      ∙ ap (map (as_bits t))
      (rising_same (map Readout (filter (λ q. is_read_at s t q && test q) (board s)))
      (map Readout (filter (is_read_at s t) (covered c)))
      (readouts_rise (filter (λ q. is_read_at s t q && test q) (board s))
      (rises_filter precedes (λ q. is_read_at s t q && test q) (board s)
      (area_ascends 0 0 (board_height s) (board_width s))))
      (readouts_rise (filter (is_read_at s t) (covered c))
      (rises_filter precedes (is_read_at s t) (covered c) (covered_ascends c)))
      (readouts_have_same t c test h))
      ∙ map-map t (filter (is_read_at s t) (covered c))

  and_not : (b c d : Bool) → b ≡ d → c ≡ false → b && not c ≡ d
  and_not true true d e f = absurd (true≢false f)
  and_not true false d e f = e
  and_not false c d e f = e

  pub going_readouts : (t : ℕ) (c : Place) → was_check s t c ≡ true →
      readouts s t (λ q. was_supported s t c q && not (is_supported_at s t c q)) ≡ around t c
  going_readouts zero c h = absurd (false≢true h)
  going_readouts (suc u) c h =
      readouts_are (suc u) c (λ q. was_supported s (suc u) c q
      && not (is_supported_at s (suc u) c q))
      (λ q k. and_not (is_supported_at s u c q) (is_supported_at s (suc u) c q) (covers c q)
      (leaving u c q h k) (staying (suc u) c q k))

  pub last_readouts : (t : ℕ) (c : Place) → was_check s t c ≡ true →
      readouts s t (was_supported s t c) ≡ around t c
  last_readouts zero c h = absurd (false≢true h)
  last_readouts (suc u) c h =
      readouts_are (suc u) c (was_supported s (suc u) c) (λ q k. leaving u c q h k)

  none_kept : (p : Place → Bool) (qs : List Place) →
      ((q : Place) → has_place qs q ≡ true → p q ≡ true → ⊥) → filter p qs ≡ []
  none_kept p [] h = refl
  none_kept p (q ∷ qs) h =
      by_test (p q) refl
      (none_kept p qs (λ x m k. h x (or_rest (same_place x q) (has_place qs x) m) k))
    where
      or_rest : (x y : Bool) → y ≡ true → x || y ≡ true
      or_rest true y e = refl
      or_rest false y e = e

      own : (i j : ℕ) (b : Bool) → ((i == i && j == j) || b) ≡ true
      own i j b = grind (arith, nat_tests)

      by_test : (b : Bool) → p q ≡ b → filter p qs ≡ [] →
          cond b (q ∷ filter p qs) (filter p qs) ≡ []
      by_test true e k = absurd (h q (own q.row q.column (has_place qs q)) e)
      by_test false e k = k

  pub first_readouts : (t : ℕ) (c : Place) → is_prepared s t c ≡ true → around t c ≡ []
  first_readouts t c h =
      ap (map (λ q. record { slot = t; bit = Readout q }))
      (none_kept (is_read_at s t) (covered c) (λ q m k. never t q h (sym (has_covered c q) ∙ m) k))
    where
      never : (t : ℕ) (q : Place) → is_prepared s t c ≡ true → covers c q ≡ true →
          is_read_at s t q ≡ true → ⊥
      never zero q h v k = none_first q k
      never (suc u) q h v k = let l = prepared_is s (suc u) c h in
          fresh s ok u l.line c q l.known l.slot l.check v (read_earlier u q k)
