-- The bits of an observable, by their places in a slot's line.
use Rattle.std.proofs.Common.{◌≡◌, ℕ, zero, suc, ◌+◌, ◌^◌, ◌<◌, ◌≤◌, ◌==◌, inl, inr, Bool, true, false, cond, not, ◌&&◌, refl, sym, ap, ◌∙◌, arith, subst, eq-eqb, List, [], ◌∷◌, map, filter, length, get_or, slice_get, Some, Contains}
use Rattle.std.specs.Prelude.{nat_lt, nat_le}
use Rattle.std.specs.List.{range_with_len}
use Rattle.std.proofs.lemmas.Bool.{false≢true}
use Rattle.std.proofs.lemmas.Bool.Decides.{nat_tests}
use Rattle.graph_model.proofs.Orders.{rises_filter}
use Rattle.surface_model.specs.declared.Basis.{Basis}
use Rattle.surface_model.specs.declared.Basis.TheVariants.{Z, X}
use Rattle.surface_model.specs.Schedules.{MergeLine, ReadLine, Schedule}
use Rattle.surface_model.specs.Layout.{Place, Region, area, checks, is_check, has_qubit, is_beside, is_seam, is_seam_check, board, board_height, board_width, merged_region, region_of_patch, split_slot, last_slot, read_slot, readings_at}
use Rattle.surface_model.specs.Measurements.{Bit, Readout, Outcome, outcome, readouts, first_line, is_read_at, bits_of_slot}
use Rattle.surface_model.specs.Accepted.{IsAccepted}
use Rattle.surface_model.specs.Limits.{last_named_slot, longest_merge}
use Rattle.graph_model.specs.Members.{In}
use Rattle.graph_model.proofs.Elements.{in_any, append_left, append_right, map_in, filter_in, greatest_in, get_in, all_at}
use Rattle.surface_laws.proofs.Sound.{Sound}
use Rattle.surface_laws.proofs.Acceptance.{sound}
use Rattle.surface_laws.proofs.Geometry.{check_is}
use Rattle.surface_laws.proofs.Flips.{same_place_self}
use Rattle.surface_laws.proofs.Spots.{Pair}
use Rattle.surface_laws.proofs.Walks.{on_board}
use Rattle.std.proofs.lemmas.List.{length-map}
use Rattle.std.proofs.lemmas.List.FromFn.{get_or-map-range_with_len, length-map-range_with_len}
use Rattle.std.proofs.lemmas.Option.{get_or_from_slice_get, slice_get_within}
use Rattle.slot_bits.specs.Order.{precedes, has_bit}
use Rattle.slot_bits.specs.Observed.{place_of}
use Rattle.slot_bits.specs.Seen.{bit_of, bits_of}
use Rattle.slot_bits.specs.declared.bits.Bit as declared
use Rattle.slot_bits.specs.Watched.{place_in, seam_start, first_side, own_bits, seam_bits, read_bits}
use Rattle.slot_bits.proofs.Rising.{rising_same}
use Rattle.slot_bits.proofs.Places.{has_place, has-filter, area_ascends, readouts_rise, outcomes_rise, has_readouts, no_readouts, has_outcomes, no_outcomes, readouts_rising, readouts_have, outcomes_have}
use Rattle.slot_bits.proofs.Lines.{seam_same, read_on_board, on_board_test}
use Rattle.slot_bits.proofs.Widths.{few_bits}

both : (a b : Bool) → a ≡ true → b ≡ true → a && b ≡ true
both a b h k = ap (λ x. x && b) h ∙ k

first_of : (a b : Bool) → a && b ≡ true → a ≡ true
first_of true b h = refl
first_of false b h = absurd (false≢true h)

abbrev start_of : Region → Region
start_of r = record { row = r.row; column = r.column; height = 1; width = 1 }

abbrev pub places_in : Region → List Place
places_in r = area r.row r.column r.height r.width

-- a test that holds wherever the next does
dropped : (read seam first : Bool) → (seam ≡ true → read ≡ true) →
    read && (seam && first) ≡ seam && first
dropped read true first h = ap (λ x. x && first) (h refl)
dropped true false first h = refl
dropped false false first h = refl

-- ---- the places of readouts and outcomes

readouts_placed : (s : Schedule) (t : ℕ) (qs : List Place) →
    map (place_of s) (map (λ q. record { slot = t; bit = Readout q }) qs)
    ≡ map (place_in (bits_of_slot s t)) (map Readout qs)
readouts_placed s t [] = refl
readouts_placed s t (q ∷ qs) =
    ap (λ (ns : List ℕ). place_in (bits_of_slot s t) (Readout q) ∷ ns) (readouts_placed s t qs)

outcomes_placed : (s : Schedule) (t : ℕ) (cs : List Place) →
    map (place_of s) (map (outcome t) cs) ≡ map (place_in (bits_of_slot s t)) (map Outcome cs)
outcomes_placed s t [] = refl
outcomes_placed s t (c ∷ cs) =
    ap (λ (ns : List ℕ). place_in (bits_of_slot s t) (Outcome c) ∷ ns) (outcomes_placed s t cs)

module _ (s : Schedule) (a : IsAccepted s) where
  ok : Sound s
  ok = sound s a

  readouts_at : (t : ℕ) (test : Place → Bool) (r : Region) →
      ((q : Place) → is_read_at s t q && test q ≡ has_qubit r q) →
      map (place_of s) (readouts s t test) ≡ map (place_in (bits_of_slot s t))
      (map Readout (area r.row r.column r.height r.width))
  readouts_at t test r h =
      readouts_placed s t kept
      ∙ ap (map (place_in (bits_of_slot s t)))
      (rising_same (map Readout kept) (map Readout (area r.row r.column r.height r.width))
      (readouts_rise kept (rises_filter precedes (λ q. is_read_at s t q && test q) (board s)
      (area_ascends 0 0 (board_height s) (board_width s)))) (readouts_rising r) same)
    where
      kept : List Place
      kept = filter (λ q. is_read_at s t q && test q) (board s)

      same : (b : Bit) →
          has_bit (map Readout kept) b
          ≡ has_bit (map Readout (area r.row r.column r.height r.width)) b
      same (Readout q) =
          has_readouts kept q ∙ has-filter (λ q. is_read_at s t q && test q) (board s) q
          ∙ on_board_test (is_read_at s t q && test q) (has_place (board s) q)
          (λ e. read_on_board s ok t q (first_of (is_read_at s t q) (test q) e))
          ∙ h q ∙ sym (readouts_have r (Readout q))
      same (Outcome c) =
          no_readouts kept c ∙ sym (no_readouts (area r.row r.column r.height r.width) c)

  -- ---- a merge's seam

  seam_read : (m : MergeLine) → In m s.merges → (q : Place) → is_seam s m q ≡ true →
      is_read_at s (split_slot m) q ≡ true
  seam_read m i q h =
      let p : MergeLine → Bool = λ n. split_slot n == split_slot m && is_seam s n q in
      let f : MergeLine → Basis = λ n. cond (is_beside s n) Z X in
      let g : ReadLine → Basis = λ line. line.basis in
      let l : List Basis =
      map g (filter (λ line. line.slot == split_slot m
      && has_qubit (region_of_patch s line.patch) q) s.reads) in
      in_any (λ (b : Basis). true) (readings_at s (split_slot m) q) (f m)
      (append_right l (map f (filter p s.merges)) (f m)
      (map_in f (filter p s.merges) m
      (filter_in p s.merges m i (both (split_slot m == split_slot m) (is_seam s m q)
      (eq-eqb (split_slot m) (split_slot m) refl) h)))) refl

  start_row : (r c d i j : ℕ) → 3 ≤ d →
      (((nat_le r i && nat_lt i (r + d)) && (nat_le c j && nat_lt j (c + 1))) && i == r)
      ≡ ((nat_le r i && nat_lt i (r + 1)) && (nat_le c j && nat_lt j (c + 1)))
  start_row r c d i j h = grind (arith, nat_tests)

  start_column : (r c d i j : ℕ) → 3 ≤ d →
      (((nat_le r i && nat_lt i (r + 1)) && (nat_le c j && nat_lt j (c + d))) && j == c)
      ≡ ((nat_le r i && nat_lt i (r + 1)) && (nat_le c j && nat_lt j (c + 1)))
  start_column r c d i j h = grind (arith, nat_tests)

  start_by : (beside : Bool) (r c d : ℕ) → 3 ≤ d → (q : Place) →
      has_qubit (cond beside (record { row = r; column = c + d; height = d; width = 1 })
      (record { row = r + d; column = c; height = 1; width = d })) q && cond beside (q.row == r)
      (q.column == c)
      ≡ has_qubit (start_of (cond beside (record { row = r; column = c + d; height = d; width = 1 })
      (record { row = r + d; column = c; height = 1; width = d }))) q
  start_by true r c d h q = start_row r (c + d) d q.row q.column h
  start_by false r c d h q = start_column (r + d) c d q.row q.column h

  pub seam_bits_at : (m : MergeLine) → In m s.merges →
      map (place_of s) (seam_bits s m) ≡ map (place_in (bits_of_slot s (split_slot m)))
      (map Readout (area (seam_start s m).row (seam_start s m).column 1 1))
  seam_bits_at m i =
      readouts_at (split_slot m)
      (λ q. is_seam s m q && cond (is_beside s m) (q.row == (merged_region s m).row)
      (q.column == (merged_region s m).column)) (seam_start s m)
      (λ q. dropped (is_read_at s (split_slot m) q) (is_seam s m q)
      (cond (is_beside s m) (q.row == (merged_region s m).row)
      (q.column == (merged_region s m).column)) (seam_read m i q)
      ∙ ap (λ b. b && cond (is_beside s m) (q.row == (merged_region s m).row)
      (q.column == (merged_region s m).column)) (seam_same s ok m i q)
      ∙ start_by (is_beside s m) (merged_region s m).row (merged_region s m).column s.distance
      a.ranges.least q)

  -- ---- a reading

  patch_read : (line : ReadLine) → In line s.reads → (q : Place) →
      has_qubit (region_of_patch s line.patch) q ≡ true → is_read_at s line.slot q ≡ true
  patch_read line i q h =
      let p : ReadLine → Bool =
      λ x. x.slot == line.slot && has_qubit (region_of_patch s x.patch) q in
      let f : MergeLine → Basis = λ n. cond (is_beside s n) Z X in
      let g : ReadLine → Basis = λ x. x.basis in
      let l : List Basis =
      map f (filter (λ m. split_slot m == line.slot && is_seam s m q) s.merges) in
      in_any (λ (b : Basis). true) (readings_at s line.slot q) (g line)
      (append_left (map g (filter p s.reads)) l (g line)
      (map_in g (filter p s.reads) line
      (filter_in p s.reads line i
      (both (line.slot == line.slot) (has_qubit (region_of_patch s line.patch) q)
      (eq-eqb line.slot line.slot refl) h)))) refl

  side_row : (r c h w i j : ℕ) → 3 ≤ h →
      (((nat_le r i && nat_lt i (r + h)) && (nat_le c j && nat_lt j (c + w))) && i == r)
      ≡ ((nat_le r i && nat_lt i (r + 1)) && (nat_le c j && nat_lt j (c + w)))
  side_row r c h w i j l = grind (arith, nat_tests)

  side_column : (r c h w i j : ℕ) → 3 ≤ w →
      (((nat_le r i && nat_lt i (r + h)) && (nat_le c j && nat_lt j (c + w))) && j == c)
      ≡ ((nat_le r i && nat_lt i (r + h)) && (nat_le c j && nat_lt j (c + 1)))
  side_column r c h w i j l = grind (arith, nat_tests)

  side_by : (basis : Basis) (r : Region) → 3 ≤ r.height → 3 ≤ r.width → (q : Place) →
      has_qubit r q && first_line basis r q ≡ has_qubit (first_side basis r) q
  side_by Z r h w q = side_row r.row r.column r.height r.width q.row q.column h
  side_by X r h w q = side_column r.row r.column r.height r.width q.row q.column w

  pub read_bits_at : (line : ReadLine) → In line s.reads →
      map (place_of s) (read_bits s line) ≡ map (place_in (bits_of_slot s line.slot))
      (map Readout (places_in (first_side line.basis (region_of_patch s line.patch))))
  read_bits_at line i =
      let r = region_of_patch s line.patch in
      readouts_at line.slot (λ q. has_qubit r q && first_line line.basis r q)
      (first_side line.basis r)
      (λ q. dropped (is_read_at s line.slot q) (has_qubit r q) (first_line line.basis r q)
      (patch_read line i q) ∙ side_by line.basis r a.ranges.least a.ranges.least q)

  -- ---- the seam checks of a merge

  merged_check : (m : MergeLine) (c : Place) → is_seam_check s m c ≡ true →
      is_check (merged_region s m) c ≡ true
  merged_check m c h =
      let u = is_check (merged_region s m) c in
      let v = not (is_check (region_of_patch s m.one) c) in
      let w = not (is_check (region_of_patch s m.two) c) in
      first_of u v (first_of (u && v) w (first_of ((u && v) && w) _ h))

  seam_on_board : (m : MergeLine) → In m s.merges → (c : Place) → is_seam_check s m c ≡ true →
      has_place (board s) c ≡ true
  seam_on_board m i c h =
      let k = check_is (merged_region s m) c (merged_check m c h) in
      in_any (λ p. _) (board s) c (on_board s ok (Pair m) i c k.high k.right) (same_place_self c)

  pub own_bits_at : (m : MergeLine) → In m s.merges →
      map (place_of s) (own_bits s m) ≡ map (place_in (bits_of_slot s m.slot))
      (map Outcome (filter (is_seam_check s m) (checks (merged_region s m))))
  own_bits_at m i =
      outcomes_placed s m.slot (filter test (board s))
      ∙ ap (map (place_in (bits_of_slot s m.slot)))
      (rising_same (map Outcome (filter test (board s))) (map Outcome (filter test (checks r)))
      (outcomes_rise (filter test (board s))
      (rises_filter precedes test (board s) (area_ascends 0 0 (board_height s) (board_width s))))
      (outcomes_rise (filter test (checks r))
      (rises_filter precedes test (checks r)
      (rises_filter precedes (is_check r) (area r.row r.column (r.height + 1) (r.width + 1))
      (area_ascends r.row r.column (r.height + 1) (r.width + 1)))))
      same)
    where
      r : Region
      r = merged_region s m

      test : Place → Bool
      test = is_seam_check s m

      same : (b : Bit) → has_bit (map Outcome (filter test (board s))) b
          ≡ has_bit (map Outcome (filter test (checks r))) b
      same (Readout q) =
          no_outcomes (filter test (board s)) q ∙ sym (no_outcomes (filter test (checks r)) q)
      same (Outcome c) =
          has_outcomes (filter test (board s)) c ∙ has-filter test (board s) c
          ∙ on_board_test (test c) (has_place (board s) c) (seam_on_board m i c)
          ∙ sym (has_outcomes (filter test (checks r)) c ∙ has-filter test (checks r) c
          ∙ on_board_test (test c) (has_place (checks r) c)
          (λ e. sym (has_outcomes (checks r) c) ∙ outcomes_have r (Outcome c)
          ∙ merged_check m c e))

-- ---- members

-- ---- a slot has few bits

pub bits_few : (s : Schedule) → IsAccepted s → (t : ℕ) (bits : List declared.Bit) →
    bits_of bits ≡ bits_of_slot s t → length bits < 2 ^ 32
bits_few s a t bits e =
    let k = few_bits s a.ranges t in
    let l = length-map bits bit_of in
    let m = ap length e in
    omega (arith, k, l, m)

-- ---- the slots of merges and readings

pub read_last : (s : Schedule) (line : ReadLine) → In line s.reads → line.slot ≤ last_slot s
read_last s line i =
    greatest_in 0 (map (λ (x : ReadLine). x.slot) s.reads) line.slot
    (map_in (λ (x : ReadLine). x.slot) s.reads line i)

pub record IsMerge (s : Schedule) (m : MergeLine) : Type 0 where
  pub one : m.one < length s.patches
  pub two : m.two < length s.patches
  pub slot : m.slot ≤ last_named_slot
  pub count : m.count ≤ longest_merge
  pub last : split_slot m ≤ last_slot s

pub merge_is : (s : Schedule) → IsAccepted s → (m : MergeLine) → In m s.merges → IsMerge s m
merge_is s a m i =
    let ok = sound s a in
    let r = all_at (λ (x : MergeLine). (x.one < length s.patches) × (x.two < length s.patches)
    × (x.slot ≤ last_named_slot) × (1 ≤ x.count) × (x.count ≤ longest_merge)) s.merges m
    a.ranges.merges i in
    let w = ok.one m i in let f = ok.finished m.one w.known in
    let e = ok.read_is f.0 f.1 in let e' = ap (read_slot s) f.2 in let l = read_last s f.0 f.1 in
    let b = w.before in
    record { one = r.0; two = r.1; slot = r.2; count = r.4; last = omega (arith, e, e', l, b) }

-- ---- the bits of a slot

pub bits_at : (s : Schedule) (all : List (List Bit)) (t : ℕ) (bits : List Bit) →
    all ≡ map (bits_of_slot s) (range_with_len 0 (last_slot s + 1)) → slice_get all t ≡ Some bits →
    bits ≡ bits_of_slot s t
bits_at s all t bits e h =
    let l = slice_get_within all t bits h in
    let k = ap length e ∙ length-map-range_with_len (bits_of_slot s) 0 (last_slot s + 1) in
    sym (get_or_from_slice_get all t bits [] h) ∙ ap (λ ls. get_or ls t []) e
    ∙ get_or-map-range_with_len (bits_of_slot s) 0 (last_slot s + 1) t t [] (omega (arith, l, k))
    (omega arith)

pub slot_within : (s : Schedule) (all : List (List Bit)) (t : ℕ) →
    all ≡ map (bits_of_slot s) (range_with_len 0 (last_slot s + 1)) → t ≤ last_slot s →
    t < length all
slot_within s all t e l = let b = ap length e in
    let c = length-map-range_with_len (bits_of_slot s) 0 (last_slot s + 1) in omega (arith, b, c, l)

pub placed : (s : Schedule) (t u : ℕ) (bits bits' : List Bit) (ns ms : List ℕ) →
    ns ≡ map (place_in (bits_of_slot s t)) bits → t ≡ u → bits ≡ bits' →
    ms ≡ map (place_in (bits_of_slot s u)) bits' → ns ≡ ms
placed s t u bits bits' ns ms h e f k = h ∙ ap (λ v. map (place_in (bits_of_slot s v)) bits) e
    ∙ ap (map (place_in (bits_of_slot s u))) f ∙ sym k

-- ---- members

pub contains_at : {X : Type 0} (xs ys : List X) (k : ℕ) (x : X) → xs ≡ ys → k < length xs →
    x ≡ get_or xs k x → Contains ys x
contains_at xs ys k x e l h = subst (λ zs. Contains zs x) e (k, l, sym h)

pub in_of : {X : Type 0} (xs : List X) (x : X) → Contains xs x → In x xs
in_of xs x (k, l, e) = subst (λ y. In y xs) e (get_in xs k x l)
