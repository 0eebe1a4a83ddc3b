-- How much a slot can hold: its board has at most sixteen by sixteen tiles of twelve by twelve
-- places.
use Rattle.std.proofs.Common.{◌≡◌, ◌≤◌, ℕ, zero, suc, ◌+◌, ◌*◌, max, Bool, not, List, [], ◌∷◌, length, map, filter, fold, refl, arith, Option, Some, None}
use Rattle.std.specs.List.{filter_map, cons_option, range_with_len}
use Rattle.std.proofs.Math.Nat.{mul-le-mul_left}
use Rattle.std.proofs.lemmas.List.{length-append, length-map}
use Rattle.std.proofs.lemmas.List.Filters.{length-filter_both}
use Rattle.std.proofs.lemmas.List.FromFn.{length-map-range_with_len}
use Rattle.graph_model.proofs.Elements.{no_higher}
use Rattle.surface_model.specs.Schedules.{PatchLine, Schedule}
use Rattle.surface_model.specs.Layout.{Place, area, board, board_height, board_width, is_check_at}
use Rattle.surface_model.specs.Measurements.{Readout, Outcome, bits_of_slot, is_read_at}
use Rattle.surface_model.specs.Accepted.{IsInRange}
use Rattle.surface_model.specs.Limits.{last_tile, most_distance}
use Rattle.slot_bits.specs.Lines.{most_in_line, most_on_board, most_on_side}

-- each of some numbers is at most this one, so the greatest is

few_places : (row column h w : ℕ) → w ≤ most_on_side →
    length (area row column h w) ≤ h * most_on_side
few_places row column zero w l = omega arith
few_places row column (suc h) w l =
    let here : List Place = map (λ j. record { row = row; column = j }) (range_with_len column w) in
    let a = length-append here (area (row + 1) column h w) in
    let b : length here ≡ w =
    length-map-range_with_len (λ j. record { row = row; column = j }) column w in
    let k = few_places (row + 1) column h w l in
    omega (arith, a, b, k, l)

few_kept : {X : Type 0} (test : X → Bool) (xs : List X) → length (filter test xs) ≤ length xs
few_kept test xs = let k = length-filter_both test (λ x. not (test x)) (λ x. refl) xs in
    omega (arith, k)

pub few_mapped : {X Y : Type 0} (f : X → Option Y) (xs : List X) →
    length (filter_map f xs) ≤ length xs
few_mapped f [] = omega arith
few_mapped {Y = Y} f (x ∷ xs) = by_value (f x) (few_mapped f xs)
  where
    by_value : (o : Option Y) → length (filter_map f xs) ≤ length xs →
        length (cons_option o (filter_map f xs)) ≤ suc (length xs)
    by_value (Some y) l = omega (arith, l)
    by_value None l = omega (arith, l)

most_side : (tiles distance : ℕ) → tiles ≤ last_tile → distance ≤ most_distance →
    (tiles + 1) * (distance + 1) ≤ most_on_side
most_side tiles distance l d =
    let step : distance + 1 ≤ most_distance + 1 = omega (arith, d) in
    let k = mul-le-mul_left (tiles + 1) step in
    omega (arith, k, l)

pub few_on_board : (s : Schedule) → IsInRange s → length (board s) ≤ most_on_board
few_on_board s range =
    let rows = no_higher (λ (p : PatchLine). p.row) last_tile 0 s.patches (omega arith)
    (λ i d l. (range.tiles i d l).0) in
    let columns =
    no_higher (λ (p : PatchLine). p.column) last_tile 0 s.patches (omega arith)
    (λ i d l. (range.tiles i d l).1) in
    let high = most_side (fold max 0 (map (λ (p : PatchLine). p.row) s.patches)) s.distance rows
    range.greatest in
    let wide = most_side (fold max 0 (map (λ (p : PatchLine). p.column) s.patches)) s.distance
    columns range.greatest in
    let places = few_places 0 0 (board_height s) (board_width s) wide in
    omega (arith, places, high)

pub few_bits : (s : Schedule) → IsInRange s → (t : ℕ) → length (bits_of_slot s t) ≤ most_in_line
few_bits s range t =
    let places = few_on_board s range in
    let read = few_kept (is_read_at s t) (board s) in
    let checked = few_kept (is_check_at s t) (board s) in
    let a = length-append (map Readout (filter (is_read_at s t) (board s)))
    (map Outcome (filter (is_check_at s t) (board s))) in
    let b = length-map (filter (is_read_at s t) (board s)) Readout in
    let c = length-map (filter (is_check_at s t) (board s)) Outcome in
    omega (arith, a, b, c, read, checked, places)
