-- The lines of a map, and the mechanisms that they and the active qubits give.
use Rattle.std.proofs.Common.{◌≡◌, ℕ, ◌+◌, ◌<◌, Option, Some, None, List, [], ◌∷◌, ◌++◌, refl, sym, ap, ◌∙◌, arith, length, map, filter, flat_map, get_or, slice_get}
use Rattle.std.specs.List.{range_with_len, filter_map, cons_option}
use Rattle.std.proofs.lemmas.Option.{same_Some, slice_get-get_or}
use Rattle.std.proofs.lemmas.List.FromFn.{length-map-range_with_len, get_or-map-range_with_len}
use Rattle.std.proofs.lemmas.List.Elements.{filter_map-append}
use Rattle.surface_model.specs.Schedules.{Schedule}
use Rattle.surface_model.specs.Layout.{Place, last_slot, board, is_active_at, is_check_at}
use Rattle.surface_model.specs.Measurements as measurements
use Rattle.surface_model.specs.Measurements.{is_read_at, bits_of_slot, Detector, detectors}
use Rattle.surface_model.specs.Errors.{ReadoutError, SpaceX, SpaceZ, OutcomeError, Mechanism, of_class, mechanisms_at}
use Rattle.slot_bits.specs.declared.bits.Bit.{Bit}
use Rattle.slot_bits.specs.declared.bits.Bit.TheVariants.{Readout, Outcome}
use Rattle.slot_bits.specs.Seen.{bit_of}
use Rattle.measure_map.specs.Placed.{map_of, placed_detector}
use Rattle.error_map.specs.Lines.{readout_place, outcome_place, readout_places, outcome_places, mechanisms_with}
use Rattle.graph_model.proofs.Ranges.{flat_map_next}
use Rattle.std.proofs.lemmas.List.{append-nil}

pub lines_count : (s : Schedule) → length (map_of s).lines ≡ last_slot s + 1
unfolding map_of
lines_count s = length-map-range_with_len (bits_of_slot s) 0 (last_slot s + 1)

pub line_at : (s : Schedule) (t : ℕ) (line : List measurements.Bit) → t < length (map_of s).lines →
    slice_get (map_of s).lines t ≡ Some line → line ≡ bits_of_slot s t
unfolding map_of
line_at s t line l e =
    let within : t < last_slot s + 1 =
    omega (arith, l, length-map-range_with_len (bits_of_slot s) 0 (last_slot s + 1)) in
    sym (same_Some (bits_of_slot s t) line
    (sym (slice_get-get_or (map_of s).lines t (bits_of_slot s t) l
    ∙ ap Some (get_or-map-range_with_len (bits_of_slot s) 0 (last_slot s + 1) t t
    (bits_of_slot s t) within (omega arith))) ∙ e))

pub line_is : (s : Schedule) (t : ℕ) → t < last_slot s + 1 →
    get_or (map_of s).lines t [] ≡ bits_of_slot s t
unfolding map_of
line_is s t l =
    get_or-map-range_with_len (bits_of_slot s) 0 (last_slot s + 1) t t [] l (omega arith)

-- ---- the places of a line's readouts and outcomes

read_in : measurements.Bit → Option Place
read_in (measurements.Readout q) = Some q
read_in (measurements.Outcome c) = None

measured_in : measurements.Bit → Option Place
measured_in (measurements.Readout q) = None
measured_in (measurements.Outcome c) = Some c

through : {X Y Z : Type 0} (h : Y → Option Z) (f : X → Y) (g : X → Option Z) (xs : List X) →
    ((x : X) → g x ≡ h (f x)) → filter_map g xs ≡ filter_map h (map f xs)
through h f g [] e = refl
through h f g (x ∷ xs) e =
    ap (λ o. cons_option o (filter_map g xs)) (e x)
    ∙ ap (cons_option (h (f x))) (through h f g xs e)

all_kept : {X Z : Type 0} (h : Z → Option X) (f : X → Z) (xs : List X) →
    ((x : X) → h (f x) ≡ Some x) → filter_map h (map f xs) ≡ xs
all_kept h f [] e = refl
all_kept h f (x ∷ xs) e = ap (λ o. cons_option o (filter_map h (map f xs))) (e x)
    ∙ ap (λ ys. x ∷ ys) (all_kept h f xs e)

none_kept : {X Y Z : Type 0} (h : Z → Option Y) (f : X → Z) (xs : List X) →
    ((x : X) → h (f x) ≡ None) → filter_map h (map f xs) ≡ []
none_kept h f [] e = refl
none_kept h f (x ∷ xs) e = ap (λ o. cons_option o (filter_map h (map f xs))) (e x)
    ∙ none_kept h f xs e

pub read_places : (s : Schedule) (t : ℕ) (line : List Bit) → map bit_of line ≡ bits_of_slot s t →
    readout_places line ≡ filter (is_read_at s t) (board s)
unfolding read_in
read_places s t line e =
    let qs = filter (is_read_at s t) (board s) in let cs = filter (is_check_at s t) (board s) in
    through read_in bit_of readout_place line same ∙ ap (filter_map read_in) e
    ∙ filter_map-append read_in (map measurements.Readout qs) (map measurements.Outcome cs)
    ∙ ap (λ ys. filter_map read_in (map measurements.Readout qs) ++ ys)
    (none_kept read_in measurements.Outcome cs (λ c. refl))
    ∙ append-nil (filter_map read_in (map measurements.Readout qs))
    ∙ all_kept read_in measurements.Readout qs (λ q. refl)
  where
    same : (b : Bit) → readout_place b ≡ read_in (bit_of b)
    same (Readout q) = refl
    same (Outcome c) = refl

pub check_places : (s : Schedule) (t : ℕ) (line : List Bit) → map bit_of line ≡ bits_of_slot s t →
    outcome_places line ≡ filter (is_check_at s t) (board s)
unfolding measured_in
check_places s t line e =
    let qs = filter (is_read_at s t) (board s) in let cs = filter (is_check_at s t) (board s) in
    through measured_in bit_of outcome_place line same ∙ ap (filter_map measured_in) e
    ∙ filter_map-append measured_in (map measurements.Readout qs) (map measurements.Outcome cs)
    ∙ ap (λ ys. ys ++ filter_map measured_in (map measurements.Outcome cs))
    (none_kept measured_in measurements.Readout qs (λ c. refl))
    ∙ all_kept measured_in measurements.Outcome cs (λ q. refl)
  where
    same : (b : Bit) → outcome_place b ≡ measured_in (bit_of b)
    same (Readout q) = refl
    same (Outcome c) = refl

pub listed : (s : Schedule) (t : ℕ) (line : List Bit) (qubits : List Place) →
    t < length (map_of s).lines → slice_get (map_of s).lines t ≡ Some (map bit_of line) →
    qubits ≡ filter (is_active_at s t) (board s) → mechanisms_with t line qubits ≡ mechanisms_at s t
listed s t line qubits l e h =
    let k = line_at s t (map bit_of line) l e in
    ap (λ ps. of_class t ReadoutError ps ++ of_class t SpaceX qubits ++ of_class t SpaceZ qubits
    ++ of_class t OutcomeError (outcome_places line)) (read_places s t line k)
    ∙ ap (λ ps. of_class t ReadoutError (filter (is_read_at s t) (board s)) ++ of_class t SpaceX ps
    ++ of_class t SpaceZ ps ++ of_class t OutcomeError (outcome_places line)) h
    ∙ ap (λ ps. of_class t ReadoutError (filter (is_read_at s t) (board s))
    ++ of_class t SpaceX (filter (is_active_at s t) (board s))
    ++ of_class t SpaceZ (filter (is_active_at s t) (board s)) ++ of_class t OutcomeError ps)
    (check_places s t line k)

-- one more slot
pub listed_more : (s : Schedule) (t : ℕ) (line : List Bit) (qubits : List Place)
    (old new : List Mechanism) → t < length (map_of s).lines →
    slice_get (map_of s).lines t ≡ Some (map bit_of line) →
    qubits ≡ filter (is_active_at s t) (board s) →
    old ≡ flat_map (mechanisms_at s) (range_with_len 0 t) →
    new ≡ old ++ mechanisms_with t line qubits →
    new ≡ flat_map (mechanisms_at s) (range_with_len 0 (t + 1))
listed_more s t line qubits old new l e h o n =
    n ∙ ap (λ ms. ms ++ mechanisms_with t line qubits) o
    ∙ ap (λ ms. flat_map (mechanisms_at s) (range_with_len 0 t) ++ ms)
    (listed s t line qubits l e h) ∙ sym (flat_map_next (mechanisms_at s) t)

pub detectors_placed : (s : Schedule) → (map_of s).detectors ≡ map (placed_detector s) (detectors s)
unfolding map_of
detectors_placed s = refl
