-- The lines of all slots, and what they give slot by slot.
use Rattle.std.proofs.Common.{◌≡◌, ◌^◌, ◌<◌, ◌≤◌, ℕ, zero, suc, ◌+◌, ◌-◌, List, [], ◌∷◌, ◌++◌, length, map, refl, sym, ap, ◌∙◌, arith, get_or}
use Rattle.std.specs.List.{filter_map, flat_map, range_with_len}
use Rattle.std.specs.Prelude.{Some, slice_get}
use Rattle.std.proofs.lemmas.List.{append_assoc, append-nil, length-append, length-map, map-append}
use Rattle.std.proofs.lemmas.Option.{get_or_from_slice_get}
use Rattle.std.proofs.lemmas.List.FromFn.{length-map-range_with_len, get_or-map-range_with_len, map-range_with_len_more}
use Rattle.surface_model.specs.Schedules.{Schedule}
use Rattle.surface_model.specs.Layout.{board}
use Rattle.surface_model.specs.Measurements.{Bit, bits_of_slot, detector_at}
use Rattle.surface_model.specs.Accepted.{IsInRange}
use Rattle.timetable.proofs.Timed.{row_is}
use Rattle.measure_map.specs.Placed.{before_slot}
use Rattle.slot_bits.specs.Lines.{bits_before, most_on_board}
use Rattle.slot_bits.proofs.Widths.{few_bits, few_mapped, few_on_board}
use Rattle.graph_model.proofs.Ranges.{flat_map_next}

-- one more line
pub more_lines : {Y : Type 0} (f : ℕ → Y) (lines all : List Y) (line : Y) (n : ℕ) →
    all ≡ lines ++ line ∷ [] → lines ≡ map f (range_with_len 0 n) → line ≡ f n →
    all ≡ map f (range_with_len 0 (n + 1))
more_lines f lines all line n a e g =
    a ∙ ap (λ zs. zs ++ line ∷ []) e ∙ ap (λ z. map f (range_with_len 0 n) ++ z ∷ []) g
    ∙ sym (map-range_with_len_more f 0 n n (omega arith))

-- what one more slot gives
pub more_detectors : {X Y : Type 0} (g : X → Y) (f : ℕ → List X) (so_far all : List Y) (n : ℕ) →
    so_far ≡ map g (flat_map f (range_with_len 0 n)) → all ≡ so_far ++ map g (f n) →
    all ≡ map g (flat_map f (range_with_len 0 (n + 1)))
more_detectors g f so_far all n e a =
    a ∙ ap (λ zs. zs ++ map g (f n)) e ∙ sym (map-append g (flat_map f (range_with_len 0 n)) (f n))
    ∙ ap (map g) (sym (flat_map_next f n))

pub more_counted : {X : Type 0} (f : ℕ → List X) (count n : ℕ) →
    count ≡ length (flat_map f (range_with_len 0 n)) →
    count + length (f n) ≡ length (flat_map f (range_with_len 0 (n + 1)))
more_counted f count n e =
    let a = length-append (flat_map f (range_with_len 0 n)) (f n) in
    let b = ap length (flat_map_next f n) in
    omega (arith, a, b, e)

-- ---- the lines of a slot and of the one before

pub earlier_line : (lines : List (List Bit)) (t : ℕ) (line : List Bit) → 0 < t →
    slice_get lines (t - 1) ≡ Some line → line ≡ before_slot lines t
earlier_line lines zero line h e = absurd (omega (arith, h))
earlier_line lines (suc t) line h e = let k : suc t - 1 ≡ t = omega arith in
    sym (get_or_from_slice_get lines t line [] (ap (slice_get lines) (sym k) ∙ e))

module _ (s : Schedule) (n : ℕ) (lines : List (List Bit)) (given : lines
    ≡ map (bits_of_slot s) (range_with_len 0 n)) where
  pub many_lines : length lines ≡ n
  many_lines = ap length given ∙ length-map-range_with_len (bits_of_slot s) 0 n

  at : (t : ℕ) → t < n → get_or lines t [] ≡ bits_of_slot s t
  at t l = ap (λ ls. get_or ls t []) given
      ∙ get_or-map-range_with_len (bits_of_slot s) 0 n t t [] l (omega arith)

  pub line_at : (t : ℕ) (line : List Bit) → slice_get lines t ≡ Some line → line ≡ bits_of_slot s t
  line_at t line e = row_is (bits_of_slot s) n t lines line given e

  pub before_at : (t : ℕ) → t < n → before_slot lines t ≡ bits_before s t
  before_at zero l = refl
  before_at (suc t) l = at t (omega (arith, l))

  -- the last of them
  pub last_line : 0 < n → get_or lines (length lines - 1) [] ≡ bits_before s n
  last_line l = ap (λ k. get_or lines (k - 1) []) many_lines ∙ by_count n l (λ t h. at t h)
    where
      by_count : (m : ℕ) → 0 < m → ((t : ℕ) → t < m → get_or lines t [] ≡ bits_of_slot s t) →
          get_or lines (m - 1) [] ≡ bits_before s m
      by_count zero l h = absurd (omega (arith, l))
      by_count (suc m) l h = let k : suc m - 1 ≡ m = omega arith in ap (λ i. get_or lines i []) k
          ∙ h m (omega arith)

pub length_seen : {X : Type 0} (f : X → Bit) (xs : List X) (bits : List Bit) → map f xs ≡ bits →
    length xs ≡ length bits
length_seen f xs bits e = sym (length-map xs f) ∙ ap length e

pub line_next : (s : Schedule) (t : ℕ) → bits_before s (t + 1) ≡ bits_of_slot s t
line_next s t = let k : t + 1 ≡ suc t = omega arith in ap (bits_before s) k

pub few_in_line : {X : Type 0} (f : X → Bit) (s : Schedule) → IsInRange s → (t : ℕ) (xs : List X) →
    map f xs ≡ bits_of_slot s t → length xs < 2 ^ 32
few_in_line f s range t xs e =
    let a = length-map xs f in
    let b = ap length e in
    let c = few_bits s range t in
    omega (arith, a, b, c)

pub few_before : {X : Type 0} (f : X → Bit) (s : Schedule) → IsInRange s → (t : ℕ) (xs : List X) →
    map f xs ≡ bits_before s t → length xs < 2 ^ 32
few_before f s range zero xs e =
    let a = length-map xs f in
    let b : length (map f xs) ≡ 0 = ap length e in
    omega (arith, a, b)
few_before f s range (suc t) xs e = few_in_line f s range t xs e

pub few_at : (s : Schedule) → IsInRange s → (t : ℕ) →
    length (filter_map (detector_at s t) (board s)) ≤ most_on_board
few_at s range t =
    let a = few_mapped (detector_at s t) (board s) in
    let b = few_on_board s range in
    omega (arith, a, b)
