-- Places by row and column: the bits of an area rise, and are those of the places in it.
use Rattle.std.proofs.Common.{◌≡◌, ℕ, zero, suc, ◌+◌, ◌<◌, ◌≤◌, ◌==◌, Bool, true, false, ◌&&◌, ◌||◌, refl, sym, ap, ◌∙◌, arith, List, [], ◌∷◌, ◌++◌, map, filter}
use Rattle.std.specs.Prelude.{nat_lt, nat_le}
use Rattle.std.specs.List.{list_any, range_with_len}
use Rattle.std.proofs.lemmas.Bool.{or_right}
use Rattle.std.proofs.lemmas.Bool.Decides.{nat_tests}
use Rattle.std.proofs.lemmas.List.{map-append, append_assoc}
use Rattle.graph_model.specs.Orders.{ComesFirst, Rises}
use Rattle.graph_model.proofs.Orders.{first_append, rises_filter, any_filter}
use Rattle.surface_model.specs.Layout.{Place, Region, is_check, is_among, area, checks}
use Rattle.surface_model.specs.Measurements.{Bit, Readout, Outcome, same_place}
use Rattle.surface_laws.proofs.Flips.{same_place_is}
use Rattle.surface_laws.proofs.Geometry.{check_is}
use Rattle.patch_layout.proofs.Areas.{line, line_more}
use Rattle.slot_bits.specs.Order.{precedes, comes_before, IsBefore, IsRising, has_bit, is_readout_in, is_outcome_in}

-- ---- one more readout of a row

pub readouts_more : (before : List Place) (row low high : ℕ) → low ≤ high →
    map Readout (before ++ line row low (high + 1)) ≡ map Readout (before ++ line row low high)
    ++ Readout (record { row = row; column = high }) ∷ []
readouts_more before row low high l =
    ap (λ zs. map Readout (before ++ zs)) (line_more row low high l)
    ∙ ap (map Readout)
    (sym (append_assoc before (line row low high) (record { row = row; column = high } ∷ [])))
    ∙ map-append Readout (before ++ line row low high) (record { row = row; column = high } ∷ [])

-- ---- places in order

abbrev pub Precedes : Place → List Place → Type 0
Precedes p qs = ComesFirst precedes p qs

abbrev pub Ascends : List Place → Type 0
Ascends ps = Rises precedes ps

ascends-append : (ps qs : List Place) → Ascends ps → Ascends qs →
    ((p : Place) → list_any (same_place p) ps ≡ true → Precedes p qs) → Ascends (ps ++ qs)
ascends-append [] qs h k c = k
ascends-append (p ∷ ps) qs h k c = (
  first_append precedes p ps qs h.0 (c p (own p.row p.column (list_any (same_place p) ps))),
  ascends-append ps qs h.1 k
      (λ x m. c x (or_right (same_place x p) (list_any (same_place x) ps) m)),
)
  where
    own : (i j : ℕ) (b : Bool) → ((i == i && j == j) || b) ≡ true
    own i j b = grind (arith, nat_tests)

abbrev pub has_place : List Place → Place → Bool
has_place ps p = list_any (same_place p) ps

pub has-filter : (t : Place → Bool) (ps : List Place) (p : Place) →
    has_place (filter t ps) p ≡ t p && has_place ps p
has-filter t ps p = any_filter same_place same_place_is t ps p

-- ---- an area

precedes_row : (i c a w : ℕ) → c < a →
    Precedes (record { row = i; column = c })
    (map (λ j. record { row = i; column = j }) (range_with_len a w))
precedes_row i c a zero h = tt
precedes_row i c a (suc w) h = (same_row i c a h, precedes_row i c (a + 1) w (omega (arith, h)))
  where
    same_row : (i c a : ℕ) → c < a → (nat_lt i i || (i == i && nat_lt c a)) ≡ true
    same_row i c a h = grind (arith, nat_tests)

row_ascends : (i a w : ℕ) → Ascends (map (λ j. record { row = i; column = j }) (range_with_len a w))
row_ascends i a zero = tt
row_ascends i a (suc w) = (precedes_row i a (a + 1) w (omega arith), row_ascends i (a + 1) w)

has_row_step : (x y i a w : ℕ) →
    ((x == i && y == a) || (x == i && (nat_le (a + 1) y && nat_lt y (a + 1 + w))))
    ≡ (x == i && (nat_le a y && nat_lt y (a + suc w)))
has_row_step x y i a w = grind (arith, nat_tests)

has_row_none : (x y i a : ℕ) → false ≡ (x == i && (nat_le a y && nat_lt y (a + 0)))
has_row_none x y i a = grind (arith, nat_tests)

has_row : (i a w : ℕ) (q : Place) →
    has_place (map (λ j. record { row = i; column = j }) (range_with_len a w)) q ≡ q.row == i
    && is_among a (a + w) q.column
has_row i a zero q = has_row_none q.row q.column i a
has_row i a (suc w) q = ap (λ m. (q.row == i && q.column == a) || m) (has_row i (a + 1) w q)
    ∙ has_row_step q.row q.column i a w

below_row : (p : Place) (k a w : ℕ) → p.row < k →
    Precedes p (map (λ j. record { row = k; column = j }) (range_with_len a w))
below_row p k a zero h = tt
below_row p k a (suc w) h = (by_row p.row p.column k a h, below_row p k (a + 1) w h)
  where
    by_row : (i j k l : ℕ) → i < k → (nat_lt i k || (i == k && nat_lt j l)) ≡ true
    by_row i j k l h = grind (arith, nat_tests)

below_rows : (p : Place) (r h c w : ℕ) → p.row < r → Precedes p (area r c h w)
below_rows p r zero c w l = tt
below_rows p r (suc h) c w l =
    first_append precedes p (map (λ j. record { row = r; column = j }) (range_with_len c w))
    (area (r + 1) c h w) (below_row p r c w l) (below_rows p (r + 1) h c w (omega (arith, l)))

pub area_ascends : (r c h w : ℕ) → Ascends (area r c h w)
area_ascends r c zero w = tt
area_ascends r c (suc h) w =
    ascends-append (map (λ j. record { row = r; column = j }) (range_with_len c w))
    (area (r + 1) c h w) (row_ascends r c w) (area_ascends (r + 1) c h w)
    (λ p m. below_rows p (r + 1) h c w
    (row_of p.row r (is_among c (c + w) p.column) (sym (has_row r c w p) ∙ m)))
  where
    row_of : (x r : ℕ) (b : Bool) → (x == r && b) ≡ true → x < r + 1
    row_of x r b h = grind (arith, nat_tests)

has_place-append : (ps qs : List Place) (p : Place) →
    has_place (ps ++ qs) p ≡ has_place ps p || has_place qs p
has_place-append [] qs p = refl
has_place-append (x ∷ ps) qs p = by_test (same_place p x) (has_place-append ps qs p)
  where
    by_test : (t : Bool) → has_place (ps ++ qs) p ≡ has_place ps p || has_place qs p →
        t || has_place (ps ++ qs) p ≡ (t || has_place ps p) || has_place qs p
    by_test true e = refl
    by_test false e = e

has_area_step : (x r h : ℕ) (b : Bool) →
    ((x == r && b) || ((nat_le (r + 1) x && nat_lt x (r + 1 + h)) && b))
    ≡ ((nat_le r x && nat_lt x (r + suc h)) && b)
has_area_step x r h b = grind (arith, nat_tests)

has_area_none : (x r : ℕ) (b : Bool) → false ≡ ((nat_le r x && nat_lt x (r + 0)) && b)
has_area_none x r b = grind (arith, nat_tests)

pub has_area : (r c h w : ℕ) (q : Place) →
    has_place (area r c h w) q ≡ is_among r (r + h) q.row && is_among c (c + w) q.column
has_area r c zero w q = has_area_none q.row r (is_among c (c + w) q.column)
has_area r c (suc h) w q =
    has_place-append (map (λ j. record { row = r; column = j }) (range_with_len c w))
    (area (r + 1) c h w) q
    ∙ ap (λ m. m || has_place (area (r + 1) c h w) q) (has_row r c w q)
    ∙ ap (λ m. (q.row == r && is_among c (c + w) q.column) || m) (has_area (r + 1) c h w q)
    ∙ has_area_step q.row r h (is_among c (c + w) q.column)

-- ---- places as bits

before_map : (f : Place → Bit) (keeps : (p q : Place) → precedes p q ≡ true →
    comes_before (f p) (f q) ≡ true) (p : Place) (qs : List Place) → Precedes p qs →
    IsBefore (f p) (map f qs)
before_map f keeps p [] h = tt
before_map f keeps p (q ∷ qs) h = (keeps p q h.0, before_map f keeps p qs h.1)

rising_map : (f : Place → Bit) (keeps : (p q : Place) → precedes p q ≡ true →
    comes_before (f p) (f q) ≡ true) (ps : List Place) → Ascends ps → IsRising (map f ps)
rising_map f keeps [] h = tt
rising_map f keeps (p ∷ ps) h = (before_map f keeps p ps h.0, rising_map f keeps ps h.1)

pub readouts_rise : (ps : List Place) → Ascends ps → IsRising (map Readout ps)
readouts_rise ps h = rising_map Readout (λ p q e. e) ps h

pub outcomes_rise : (ps : List Place) → Ascends ps → IsRising (map Outcome ps)
outcomes_rise ps h = rising_map Outcome (λ p q e. e) ps h

pub has_readouts : (ps : List Place) (q : Place) →
    has_bit (map Readout ps) (Readout q) ≡ has_place ps q
has_readouts [] q = refl
has_readouts (p ∷ ps) q = ap (λ m. same_place q p || m) (has_readouts ps q)

pub no_readouts : (ps : List Place) (q : Place) → has_bit (map Readout ps) (Outcome q) ≡ false
no_readouts [] q = refl
no_readouts (p ∷ ps) q = no_readouts ps q

pub has_outcomes : (ps : List Place) (q : Place) →
    has_bit (map Outcome ps) (Outcome q) ≡ has_place ps q
has_outcomes [] q = refl
has_outcomes (p ∷ ps) q = ap (λ m. same_place q p || m) (has_outcomes ps q)

pub no_outcomes : (ps : List Place) (q : Place) → has_bit (map Outcome ps) (Readout q) ≡ false
no_outcomes [] q = refl
no_outcomes (p ∷ ps) q = no_outcomes ps q

pub readouts_rising : (r : Region) → IsRising (map Readout (area r.row r.column r.height r.width))
readouts_rising r =
    readouts_rise (area r.row r.column r.height r.width)
    (area_ascends r.row r.column r.height r.width)

pub readouts_have : (r : Region) (b : Bit) →
    has_bit (map Readout (area r.row r.column r.height r.width)) b ≡ is_readout_in r b
readouts_have r (Readout q) = has_readouts (area r.row r.column r.height r.width) q
    ∙ has_area r.row r.column r.height r.width q
readouts_have r (Outcome c) = no_readouts (area r.row r.column r.height r.width) c

pub outcomes_rising : (r : Region) → IsRising (map Outcome (checks r))
outcomes_rising r =
    outcomes_rise (checks r)
    (rises_filter precedes (is_check r) (area r.row r.column (r.height + 1) (r.width + 1))
    (area_ascends r.row r.column (r.height + 1) (r.width + 1)))

within : (r h c w i j : ℕ) → r ≤ i → i ≤ r + h → c ≤ j → j ≤ c + w →
    ((nat_le r i && nat_lt i (r + (h + 1))) && (nat_le c j && nat_lt j (c + (w + 1)))) ≡ true
within r h c w i j a b d e = grind (arith, nat_tests)

check_within : (r : Region) (c : Place) (t : Bool) → is_check r c ≡ t →
    t && has_place (area r.row r.column (r.height + 1) (r.width + 1)) c ≡ t
check_within r c true e = let k = check_is r c e in
    has_area r.row r.column (r.height + 1) (r.width + 1) c
    ∙ within r.row r.height r.column r.width c.row c.column k.low k.high k.left k.right
check_within r c false e = refl

pub outcomes_have : (r : Region) (b : Bit) → has_bit (map Outcome (checks r)) b ≡ is_outcome_in r b
outcomes_have r (Readout q) = no_outcomes (checks r) q
outcomes_have r (Outcome c) =
    has_outcomes (checks r) c
    ∙ has-filter (is_check r) (area r.row r.column (r.height + 1) (r.width + 1)) c
    ∙ check_within r c (is_check r c) refl
