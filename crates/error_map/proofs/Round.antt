-- The bits round a mechanism's place, of which it changes some, and where they stand in a line.
use Rattle.std.proofs.Common.{◌≡◌, ℕ, ◌+◌, ◌<◌, ◌==◌, ◌&&◌, ◌||◌, Bool, true, false, cond, refl, sym, ap, ◌∙◌, arith, subst, length, Option, Some, None, List, [], ◌∷◌, ◌++◌, map, filter, take, get_or}
use Rattle.std.specs.Prelude.{option_to_list, position}
use Rattle.std.specs.List.{list_any, range_with_len, filter_map, cons_option}
use Rattle.std.proofs.lemmas.Bool.{and_parts, false≢true, true≢false}
use Rattle.std.proofs.lemmas.Bool.Decides.{nat_tests}
use Rattle.std.proofs.lemmas.List.{append_assoc, map-append, take_more}
use Rattle.std.proofs.lemmas.List.Elements.{filter_map-append}
use Rattle.surface_model.specs.declared.Basis.{Basis}
use Rattle.surface_model.specs.declared.Basis.TheVariants.{Z, X}
use Rattle.surface_model.specs.Schedules.{Schedule}
use Rattle.surface_model.specs.Layout.{Place, board, covers, is_check_at}
use Rattle.surface_model.specs.Measurements.{Bit, Readout, Outcome, bits_of_slot, is_read_at, same_bit, same_place}
use Rattle.surface_model.specs.Errors.{ErrorClass, ReadoutError, SpaceX, SpaceZ, OutcomeError}
use Rattle.surface_laws.specs.LayoutLaws.{corners}
use Rattle.graph_model.proofs.Elements.{any_in, in_any, filter_in, in_filter, in_map}
use Rattle.surface_laws.proofs.Regions.{same_tests}
use Rattle.slot_bits.specs.declared.bits.Bit as types
use Rattle.slot_bits.specs.Order.{comes_before}
use Rattle.slot_bits.specs.Seen.{bit_of, bits_of}
use Rattle.slot_bits.proofs.Rising.{before_self, not_both, same_bit_is}
use Rattle.error_map.specs.declared.types.Effect.{Effect}
use Rattle.error_map.specs.Ends.{is_before}
use Rattle.error_map.specs.Seen.{error_in, next_in, shown_in}
use Rattle.error_map.specs.Sees.{bits_near, changed_among, changed_place, class_sees, sees, sees_place, space_sees}
use Rattle.error_map.proofs.Found.{sorted_board, sorted_corners}
use Rattle.error_map.proofs.Ordered.{AreSorted, numbers_of_keys, sorted-append, sorted-filter, sorted-map}

-- ---- lines, and the bits round a place, rise

readouts_first : (qs cs : List Place) → AreSorted is_before qs → AreSorted is_before cs →
    AreSorted comes_before (map Readout qs ++ map Outcome cs)
readouts_first qs cs a b =
    sorted-append comes_before (map Readout qs) (map Outcome cs)
    (sorted-map is_before comes_before Readout qs a (λ p q h. h))
    (sorted-map is_before comes_before Outcome cs b (λ p q h. h))
    (λ x y m n. let k = in_map Readout qs x m in let l = in_map Outcome cs y n in
    subst (λ z. comes_before z y ≡ true) k.2
    (subst (λ z. comes_before (Readout k.0) z ≡ true) l.2 refl))

sorted_line : (s : Schedule) (t : ℕ) → AreSorted comes_before (bits_of_slot s t)
sorted_line s t =
    readouts_first (filter (is_read_at s t) (board s)) (filter (is_check_at s t) (board s))
    (sorted-filter is_before (is_read_at s t) (board s) (sorted_board s))
    (sorted-filter is_before (is_check_at s t) (board s) (sorted_board s))

sorted_near : (q : Place) → AreSorted comes_before (bits_near q)
sorted_near q = readouts_first (q ∷ []) (corners q) (λ y m. absurd m, tt) (sorted_corners q)

-- ---- only they change

own_place : (p q : Place) (rest : Bool) → same_place p q ≡ true → (same_place q p || rest) ≡ true
own_place p q rest h = by_numbers p.row p.column q.row q.column rest h
  where
    by_numbers : (i j a b : ℕ) (r : Bool) → (i == a && j == b) ≡ true →
        ((a == i && b == j) || r) ≡ true
    by_numbers i j a b r h = grind (arith, nat_tests)

covered_near : (c q : Place) → covers c q ≡ true →
    list_any (λ k. same_bit k (Outcome c)) (bits_near q) ≡ true
covered_near c q h = by_numbers c.row c.column q.row q.column h
  where
    by_numbers : (i j a b : ℕ) → ((a == i || a + 1 == i) && (b == j || b + 1 == j)) ≡ true →
        ((a == i && b == j)
        || ((a == i && b + 1 == j)
        || ((a + 1 == i && b == j) || ((a + 1 == i && b + 1 == j) || false)))) ≡ true
    by_numbers i j a b h = grind (arith, nat_tests)

near_space : (basis : Basis) (t : ℕ) (q : Place) (n : ℕ) (shown : Bool) (u : ℕ) (bit : Bit) →
    space_sees basis t q n shown u bit ≡ true → list_any (λ k. same_bit k bit) (bits_near q) ≡ true
near_space basis t q n shown u (Readout p) h =
    own_place p q false (and_parts (same_place p q) _ (and_parts _ shown h).0).0
near_space basis t q n shown u (Outcome c) h = covered_near c q (and_parts _ (covers c q) h).1

near_class : (class : ErrorClass) (t : ℕ) (q : Place) (n : ℕ) (shown : Bool) (u : ℕ) (bit : Bit) →
    class_sees class t q n shown u bit ≡ true → list_any (λ k. same_bit k bit) (bits_near q) ≡ true
near_class ReadoutError t q n shown u (Readout p) h = own_place p q false (and_parts (u == t) _ h).1
near_class ReadoutError t q n shown u (Outcome c) h =
    absurd (false≢true (and_parts (u == t) false h).1)
near_class SpaceX t q n shown u bit h = near_space Z t q n shown u bit h
near_class SpaceZ t q n shown u bit h = near_space X t q n shown u bit h
near_class OutcomeError t q n shown u (Readout p) h =
    absurd (false≢true (and_parts (u == t) false h).1)
near_class OutcomeError t q n shown u (Outcome c) h = own_place c q _ (and_parts (u == t) _ h).1

near_seen : (f : Effect) (u : ℕ) (bit : Bit) →
    sees f u bit ≡ list_any (λ k. same_bit k bit) (filter (sees f u) (bits_near (error_in f).place))
near_seen f u bit = same_tests (sees f u bit) _ there back
  where
    near : List Bit
    near = bits_near (error_in f).place

    there : sees f u bit ≡ true → list_any (λ k. same_bit k bit) (filter (sees f u) near) ≡ true
    there h =
        let k = any_in (λ k. same_bit k bit) near (near_class (error_in f).class (error_in f).slot
        (error_in f).place (next_in f) (shown_in f) u bit h) in
        in_any (λ k. same_bit k bit) (filter (sees f u) near) k.0
        (filter_in (sees f u) near k.0 k.1
        (subst (λ b. sees f u b ≡ true) (sym (same_bit_is k.0 bit k.2)) h)) k.2

    back : list_any (λ k. same_bit k bit) (filter (sees f u) near) ≡ true → sees f u bit ≡ true
    back m = let k = any_in (λ k. same_bit k bit) (filter (sees f u) near) m in
        subst (λ b. sees f u b ≡ true) (same_bit_is k.0 bit k.2)
        (in_filter (sees f u) near k.0 k.1).1

-- ---- so the places of those that change are all places that change

places_kept : {X : Type 0} (p : X → Bool) (g : X → Option ℕ) (xs : List X) →
    filter_map (λ x. cond (p x) (g x) None) xs ≡ filter_map g (filter p xs)
places_kept p g [] = refl
places_kept p g (x ∷ xs) = by_test (p x) (places_kept p g xs)
  where
    by_test : (b : Bool) → filter_map (λ x. cond (p x) (g x) None) xs ≡ filter_map g (filter p xs) →
        cons_option (cond b (g x) None) (filter_map (λ x. cond (p x) (g x) None) xs)
        ≡ filter_map g (cond b (x ∷ filter p xs) (filter p xs))
    by_test true e = ap (cons_option (g x)) e
    by_test false e = e

pub near_places : (s : Schedule) (f : Effect) (t : ℕ) →
    filter_map (changed_place f t (bits_of_slot s t)) (bits_near (error_in f).place)
    ≡ filter (sees_place f t (bits_of_slot s t)) (range_with_len 0 (length (bits_of_slot s t)))
near_places s f t =
    let near = bits_near (error_in f).place in
    places_kept (sees f t) (λ b. position (same_bit b) (bits_of_slot s t)) near
    ∙ sym (numbers_of_keys same_bit comes_before comes_before once not_both keyed (bits_of_slot s t)
    (sorted_line s t) (filter (sees f t) near)
    (sorted-filter comes_before (sees f t) near (sorted_near (error_in f).place))
    (sees f t) (λ b m. near_seen f t b))
  where
    once : (k x y : Bit) → comes_before x y ≡ true → same_bit k x ≡ true → same_bit k y ≡ true → ⊥
    once k x y h a b =
        let e : x ≡ y = sym (same_bit_is k x a) ∙ same_bit_is k y b in
        true≢false (sym h ∙ ap (comes_before x) (sym e) ∙ before_self x)

    keyed : (k l x y : Bit) → comes_before k l ≡ true → same_bit k x ≡ true → same_bit l y ≡ true →
        comes_before x y ≡ true
    keyed k l x y h a b =
        subst (λ z. comes_before z y ≡ true) (same_bit_is k x a)
        (subst (λ z. comes_before k z ≡ true) (same_bit_is l y b) h)

-- one more of the bits
pub near_turn : (f : Effect) (u : ℕ) (line : List Bit) (before : List (ℕ × ℕ))
    (bits : List types.Bit) (i : ℕ) (x : types.Bit) → i < length bits → x ≡ get_or bits i x →
    (o : Option ℕ) → o ≡ changed_place f u line (bit_of x) →
    (old new : List (ℕ × ℕ)) → old ≡ before ++ changed_among f u line (bits_of (take i bits)) →
    new ≡ old ++ map (λ k. (u, k)) (option_to_list o) →
    new ≡ before ++ changed_among f u line (bits_of (take (i + 1) bits))
near_turn f u line before bits i x l at o is old new e n =
    let first = bits_of (take i bits) in
    n ∙ ap (λ ys. ys ++ map (λ k. (u, k)) (option_to_list o)) e
    ∙ append_assoc before (changed_among f u line first) (map (λ k. (u, k)) (option_to_list o))
    ∙ ap (λ ys. before ++ (changed_among f u line first ++ ys))
    (ap (λ v. map (λ k. (u, k)) (option_to_list v)) is
    ∙ one (changed_place f u line (bit_of x)))
    ∙ ap (λ ys. before ++ ys)
    (sym (ap (λ ys. changed_among f u line (bits_of ys)) (take_more bits i x l
    ∙ ap (λ z. take i bits ++ z ∷ []) (sym at))
    ∙ ap (changed_among f u line) (map-append bit_of (take i bits) (x ∷ []))
    ∙ ap (map (λ k. (u, k))) (filter_map-append (changed_place f u line) first (bit_of x ∷ []))
    ∙ map-append (λ k. (u, k)) (filter_map (changed_place f u line) first)
    (filter_map (changed_place f u line) (bit_of x ∷ []))))
  where
    one : (o : Option ℕ) → map {A = ℕ} {B = ℕ × ℕ} (λ k. (u, k)) (option_to_list o)
        ≡ map {A = ℕ} {B = ℕ × ℕ} (λ k. (u, k)) (cons_option o [])
    one (Some k) = refl
    one None = refl
