-- The line of a slot, as the bits that the schedule's lines put into it.
use Rattle.std.proofs.Common.{◌≡◌, ℕ, zero, suc, ◌+◌, ◌*◌, ◌==◌, ◌⊎◌, inl, inr, Bool, true, false, cond, not, ◌&&◌, ◌||◌, refl, sym, ap, ◌∙◌, arith, subst, List, [], ◌∷◌, map, filter}
use Rattle.std.specs.Prelude.{min, nat_lt, nat_le}
use Rattle.std.specs.List.{list_any}
use Rattle.std.proofs.lemmas.Bool.Decides.{nat_tests}
use Rattle.std.proofs.lemmas.List.Folds.{list_any-append}
use Rattle.graph_model.proofs.Orders.{rises_filter}
use Rattle.surface_model.specs.declared.Basis.{Basis}
use Rattle.surface_model.specs.declared.Basis.TheVariants.{Z, X}
use Rattle.surface_model.specs.Schedules.{MergeLine, ReadLine, Schedule}
use Rattle.surface_model.specs.Layout.{Place, is_check, has_qubit, patch_at, region_of_patch, merged_region, is_beside, is_seam, split_slot, board, board_height, board_width, is_check_at, readings_at, regions_at}
use Rattle.surface_model.specs.Measurements.{Bit, Readout, Outcome, same_place, is_read_at, bits_of_slot}
use Rattle.surface_model.specs.Accepted.{IsAccepted}
use Rattle.graph_model.specs.Members.{In}
use Rattle.graph_model.proofs.Elements.{any_in, in_any, any_same}
use Rattle.graph_model.proofs.Truths.{or_false}
use Rattle.surface_laws.proofs.Sound.{Sound}
use Rattle.surface_laws.proofs.Acceptance.{sound}
use Rattle.surface_laws.proofs.Geometry.{check_is, has_is}
use Rattle.surface_laws.proofs.Flips.{same_place_self}
use Rattle.surface_laws.proofs.Spots.{Lone, Pair, region, found}
use Rattle.surface_laws.proofs.Regions.{Reading, of_patch, of_seam, reading_of, seam_is, sides}
use Rattle.surface_laws.proofs.Walks.{on_board}
use Rattle.slot_bits.specs.Order.{precedes, IsBefore, IsRising, has_bit}
use Rattle.patch_layout.specs.Regions.{seam_region}
use Rattle.slot_bits.specs.Lines.{in_read, in_split, in_line, bits_before}
use Rattle.slot_bits.proofs.Rising.{AreBefore, rising-append, has-append, rising_same}
use Rattle.slot_bits.proofs.Places.{has_place, has-filter, area_ascends, readouts_rise, outcomes_rise, has_readouts, no_readouts, has_outcomes, no_outcomes}

-- ---- tests over lists

any_map_filter : {X Y : Type 0} (test : Y → Bool) (f : X → Y) (p : X → Bool) (xs : List X) →
    list_any test (map f (filter p xs)) ≡ list_any (λ x. p x && test (f x)) xs
any_map_filter test f p [] = refl
any_map_filter test f p (x ∷ xs) = by_test (p x) (any_map_filter test f p xs)
  where
    by_test : (t : Bool) →
        list_any test (map f (filter p xs)) ≡ list_any (λ x. p x && test (f x)) xs →
        list_any test (map f (cond t (x ∷ filter p xs) (filter p xs))) ≡ (t && test (f x))
        || list_any (λ x. p x && test (f x)) xs
    by_test true e = ap (λ m. test (f x) || m) e
    by_test false e = e

any_never : {X : Type 0} (p : X → Bool) (xs : List X) → list_any (λ x. p x && false) xs ≡ false
any_never p [] = refl
any_never p (x ∷ xs) = by_test (p x) (any_never p xs)
  where
    by_test : (t : Bool) → list_any (λ x. p x && false) xs ≡ false →
        (t && false) || list_any (λ x. p x && false) xs ≡ false
    by_test true e = e
    by_test false e = e

none_passes : {X : Type 0} (xs : List X) → list_any (λ (x : X). false) xs ≡ false
none_passes [] = refl
none_passes (x ∷ xs) = none_passes xs

all_true : (b : Bool) → b ≡ b && true
all_true true = refl
all_true false = refl

-- ---- the seam

abbrev among : ℕ → ℕ → ℕ → Bool
among low high n = nat_le low n && nat_lt n high

-- two patches leave one column of the region that they make together
across : (r c e d i j : ℕ) → e ≡ c + d + 1 →
    ((among r (r + d) i && among c (c + (2 * d + 1)) j)
    && not (among r (r + d) i && among c (c + d) j))
    && not (among r (r + d) i && among e (e + d) j)
    ≡ (among r (r + d) i && among (c + d) (c + d + 1) j)
across r c e d i j h = grind (arith, nat_tests)

-- and one above the other one row
along : (r s c d i j : ℕ) → s ≡ r + d + 1 →
    ((among r (r + (2 * d + 1)) i && among c (c + d) j)
    && not (among r (r + d) i && among c (c + d) j))
    && not (among s (s + d) i && among c (c + d) j)
    ≡ (among (r + d) (r + d + 1) i && among c (c + d) j)
along r s c d i j h = grind (arith, nat_tests)

swapped : (a b c : Bool) → ((a && not b) && not c) ≡ ((a && not c) && not b)
swapped false b c = refl
swapped true true true = refl
swapped true true false = refl
swapped true false true = refl
swapped true false false = refl

seam_by : (d r c r' c' : ℕ) (beside : Bool) →
    (beside ≡ true → (r ≡ r') × ((c' ≡ c + d + 1) ⊎ (c ≡ c' + d + 1))) →
    (beside ≡ false → (c ≡ c') × ((r' ≡ r + d + 1) ⊎ (r ≡ r' + d + 1))) → (q : Place) →
    (has_qubit (record {
      row = min r r';
      column = min c c';
      height = cond beside d (2 * d + 1);
      width = cond beside (2 * d + 1) d;
    }) q
    && not (has_qubit (record { row = r; column = c; height = d; width = d }) q))
    && not (has_qubit (record { row = r'; column = c'; height = d; width = d }) q)
    ≡ has_qubit (cond beside (record {
      row = min r r';
      column = min c c' + d;
      height = d;
      width = 1;
    }) (record { row = min r r' + d; column = min c c'; height = 1; width = d })) q
seam_by d r c r' c' true beside above q = by_side (beside refl).1
  where
    goal : ℕ → ℕ → ℕ → Type 0
    goal row low top =
        (((among low (low + d) q.row && among top (top + (2 * d + 1)) q.column)
        && not (among r (r + d) q.row && among c (c + d) q.column))
        && not (among row (row + d) q.row && among c' (c' + d) q.column))
        ≡ (among low (low + d) q.row && among (top + d) (top + d + 1) q.column)

    from : (top : ℕ) → top ≡ min c c' → goal r r top → goal r' (min r r') (min c c')
    from top least h =
        let low : r ≡ min r r' = omega (arith, (beside refl).0) in
        subst (λ n. goal r' n (min c c')) low (subst (λ n. goal r' r n) least
        (subst (λ n. goal n r top) (beside refl).0 h))

    by_side : (c' ≡ c + d + 1) ⊎ (c ≡ c' + d + 1) → goal r' (min r r') (min c c')
    by_side (inl e) = from c (omega (arith, e)) (across r c c' d q.row q.column e)
    by_side (inr e) = from c' (omega (arith, e)) (swapped _ _ _
        ∙ across r c' c d q.row q.column e)
seam_by d r c r' c' false beside above q = by_side (above refl).1
  where
    goal : ℕ → ℕ → ℕ → Type 0
    goal column low top =
        (((among top (top + (2 * d + 1)) q.row && among low (low + d) q.column)
        && not (among r (r + d) q.row && among c (c + d) q.column))
        && not (among r' (r' + d) q.row && among column (column + d) q.column))
        ≡ (among (top + d) (top + d + 1) q.row && among low (low + d) q.column)

    from : (top : ℕ) → top ≡ min r r' → goal c c top → goal c' (min c c') (min r r')
    from top least h =
        let low : c ≡ min c c' = omega (arith, (above refl).0) in
        subst (λ n. goal c' n (min r r')) low (subst (λ n. goal c' c n) least
        (subst (λ n. goal n c top) (above refl).0 h))

    by_side : (r' ≡ r + d + 1) ⊎ (r ≡ r' + d + 1) → goal c' (min c c') (min r r')
    by_side (inl e) = from r (omega (arith, e)) (along r r' c d q.row q.column e)
    by_side (inr e) = from r' (omega (arith, e)) (swapped _ _ _
        ∙ along r' r c d q.row q.column e)

pub seam_same : (s : Schedule) → Sound s → (m : MergeLine) → In m s.merges → (q : Place) →
    is_seam s m q ≡ has_qubit (seam_region s m) q
seam_same s ok m i q =
    let a = patch_at s m.one in let b = patch_at s m.two in let d = s.distance in
    let k = sides d a.row a.column b.row b.column (is_beside s m) refl (ok.neighbours m i) in
    seam_by d (a.row * (d + 1)) (a.column * (d + 1)) (b.row * (d + 1)) (b.column * (d + 1))
    (is_beside s m)
    (λ h. let x = k.across h in (ap (λ n. n * (d + 1)) x.0, x.1)) (λ h. let x = k.along h in
    (ap (λ n. n * (d + 1)) x.0, x.1)) q

-- ---- readouts and checks are on the board

on : (s : Schedule) (p : Place) → In p (board s) → has_place (board s) p ≡ true
on s p m = in_any (same_place p) (board s) p m (same_place_self p)

pub read_on_board : (s : Schedule) → Sound s → (t : ℕ) (q : Place) → is_read_at s t q ≡ true →
    has_place (board s) q ≡ true
read_on_board s ok t q h = let k = any_in (λ (b : Basis). true) (readings_at s t q) h in
    by_reading k.0 (reading_of s t q k.0 k.1)
  where
    by_reading : (basis : Basis) → Reading s t q basis → has_place (board s) q ≡ true
    by_reading basis (of_patch line m e h b) = let k = has_is (region_of_patch s line.patch) q h in
        on s q (on_board s ok (Lone line.patch) (ok.read_known line m) q (omega (arith, k.high))
        (omega (arith, k.right)))
    by_reading basis (of_seam m i e h b) = let k = has_is (merged_region s m) q
        (seam_is s m q h).merged in
        on s q (on_board s ok (Pair m) i q (omega (arith, k.high)) (omega (arith, k.right)))

pub check_on_board : (s : Schedule) → Sound s → (t : ℕ) (c : Place) → is_check_at s t c ≡ true →
    has_place (board s) c ≡ true
check_on_board s ok t c h =
    let f = found s ok t (λ r. is_check r c) h in
    let k = check_is (region s f.spot) c f.passes in
    on s c (on_board s ok f.spot f.known c k.high k.right)

-- a test that only places of the board pass
pub on_board_test : (t on : Bool) → (t ≡ true → on ≡ true) → t && on ≡ t
on_board_test true on h = h refl
on_board_test false on h = refl

-- ---- the line

before_outcomes : (p : Place) (qs : List Place) → IsBefore (Readout p) (map Outcome qs)
before_outcomes p [] = tt
before_outcomes p (q ∷ qs) = (refl, before_outcomes p qs)

are_before : (ps qs : List Place) → AreBefore (map Readout ps) (map Outcome qs)
are_before [] qs = tt
are_before (p ∷ ps) qs = (before_outcomes p qs, are_before ps qs)

pub slot_rising : (s : Schedule) (t : ℕ) → IsRising (bits_of_slot s t)
slot_rising s t =
    rising-append (map Readout (filter (is_read_at s t) (board s)))
    (map Outcome (filter (is_check_at s t) (board s)))
    (readouts_rise (filter (is_read_at s t) (board s))
    (rises_filter precedes (is_read_at s t) (board s)
    (area_ascends 0 0 (board_height s) (board_width s))))
    (outcomes_rise (filter (is_check_at s t) (board s))
    (rises_filter precedes (is_check_at s t) (board s)
    (area_ascends 0 0 (board_height s) (board_width s))))
    (are_before (filter (is_read_at s t) (board s)) (filter (is_check_at s t) (board s)))

-- a readout of the line
pub slot_readout : (s : Schedule) → Sound s → (t : ℕ) (q : Place) →
    has_bit (bits_of_slot s t) (Readout q) ≡ is_read_at s t q
slot_readout s ok t q =
    has-append (map Readout (filter (is_read_at s t) (board s)))
    (map Outcome (filter (is_check_at s t) (board s))) (Readout q)
    ∙ ap (λ m. has_bit (map Readout (filter (is_read_at s t) (board s))) (Readout q) || m)
    (no_outcomes (filter (is_check_at s t) (board s)) q)
    ∙ or_false (has_bit (map Readout (filter (is_read_at s t) (board s))) (Readout q))
    ∙ has_readouts (filter (is_read_at s t) (board s)) q
    ∙ has-filter (is_read_at s t) (board s) q
    ∙ on_board_test (is_read_at s t q) (has_place (board s) q) (read_on_board s ok t q)

-- an outcome of the line
pub slot_outcome : (s : Schedule) → Sound s → (t : ℕ) (c : Place) →
    has_bit (bits_of_slot s t) (Outcome c) ≡ is_check_at s t c
slot_outcome s ok t c =
    has-append (map Readout (filter (is_read_at s t) (board s)))
    (map Outcome (filter (is_check_at s t) (board s))) (Outcome c)
    ∙ ap (λ m. m || has_bit (map Outcome (filter (is_check_at s t) (board s))) (Outcome c))
    (no_readouts (filter (is_read_at s t) (board s)) c)
    ∙ has_outcomes (filter (is_check_at s t) (board s)) c ∙ has-filter (is_check_at s t) (board s) c
    ∙ on_board_test (is_check_at s t c) (has_place (board s) c) (check_on_board s ok t c)

pub read_as : (s : Schedule) → Sound s → (t : ℕ) (q : Place) →
    is_read_at s t q ≡ list_any (in_read s t (Readout q)) s.reads
    || list_any (in_split s t (Readout q)) s.merges
read_as s ok t q =
    list_any-append (λ (b : Basis). true)
    (map (λ (line : ReadLine). line.basis)
    (filter (λ (line : ReadLine). line.slot == t && has_qubit (region_of_patch s line.patch) q)
    s.reads))
    (map (λ (m : MergeLine). cond (is_beside s m) Z X)
    (filter (λ (m : MergeLine). split_slot m == t && is_seam s m q) s.merges))
    ∙ ap (λ x. x || list_any (λ (b : Basis). true)
    (map (λ (m : MergeLine). cond (is_beside s m) Z X)
    (filter (λ (m : MergeLine). split_slot m == t && is_seam s m q) s.merges)))
    (any_map_filter (λ (b : Basis). true) (λ (line : ReadLine). line.basis)
    (λ (line : ReadLine). line.slot == t && has_qubit (region_of_patch s line.patch) q) s.reads
    ∙ any_same (λ (line : ReadLine). (line.slot == t && has_qubit (region_of_patch s line.patch) q)
    && true) (in_read s t (Readout q)) s.reads
    (λ line m. sym (all_true (in_read s t (Readout q) line))))
    ∙ ap (λ x. list_any (in_read s t (Readout q)) s.reads || x)
    (any_map_filter (λ (b : Basis). true) (λ (m : MergeLine). cond (is_beside s m) Z X)
    (λ (m : MergeLine). split_slot m == t && is_seam s m q) s.merges
    ∙ any_same (λ (m : MergeLine). (split_slot m == t && is_seam s m q) && true)
    (in_split s t (Readout q)) s.merges
    (λ m i. sym (all_true (split_slot m == t && is_seam s m q))
    ∙ ap (λ x. split_slot m == t && x) (seam_same s ok m i q)))

pub slot_has : (s : Schedule) → Sound s → (t : ℕ) (b : Bit) →
    has_bit (bits_of_slot s t) b ≡ in_line s t b
slot_has s ok t (Readout q) =
    slot_readout s ok t q ∙ read_as s ok t q
    ∙ sym (ap (λ x. (list_any (in_read s t (Readout q)) s.reads
    || list_any (in_split s t (Readout q)) s.merges) || x) (none_passes (regions_at s t))
    ∙ or_false (list_any (in_read s t (Readout q)) s.reads
    || list_any (in_split s t (Readout q)) s.merges))
slot_has s ok t (Outcome c) =
    slot_outcome s ok t c
    ∙ sym (ap (λ x. (x || list_any (in_split s t (Outcome c)) s.merges) || is_check_at s t c)
    (any_never (λ (r : ReadLine). r.slot == t) s.reads)
    ∙ ap (λ x. x || is_check_at s t c) (any_never (λ (m : MergeLine). split_slot m == t) s.merges))

pub line_is : (s : Schedule) → IsAccepted s → (t : ℕ) (bits : List Bit) → IsRising bits →
    ((b : Bit) → has_bit bits b ≡ in_line s t b) → bits ≡ bits_of_slot s t
line_is s a t bits r h =
    rising_same bits (bits_of_slot s t) r (slot_rising s t) (λ b. h b
    ∙ sym (slot_has s (sound s a) t b))

pub before_rising : (s : Schedule) (t : ℕ) → IsRising (bits_before s t)
before_rising s zero = tt
before_rising s (suc t) = slot_rising s t
