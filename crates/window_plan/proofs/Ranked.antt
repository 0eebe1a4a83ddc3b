-- Keys that rise, and the cells that they name.
use Rattle.std.proofs.Common.{◌≡◌, ℕ, ◌+◌, ◌<◌, ◌≤◌, ◌==◌, ⊎_elim, Bool, true, List, [], ◌∷◌, refl, sym, ap, ◌∙◌, arith, length, map, get_or, Contains, All, AllPairs, subst, slice_get, Some, option_map}
use Rattle.std.specs.List.{dedup}
use Rattle.std.specs.List.Sorted.{IsPermutation, IsSorted, IsStrictlySortedBy, IsPartitionPoint, IsNonDecreasingBy}
use Rattle.std.specs.Cmp.{IsEquivalence, IsTotalOrder, and_equiv, both_tied, nat_cmp_total, nat_eq_equiv, on_equiv, on_total, then_total, unsigned_ties}
use Rattle.std.specs.FinMap.{nat_cmp-IsAntisymmetric}
use Rattle.std.specs.Ordering.{nat_cmp, is_lt, ordering_index, ordering_reverse, is_eq, eq_of_both, on, ordering_then}
use Rattle.std.specs.declared.cmp.Ordering.{Ordering}
use Rattle.std.specs.declared.cmp.Ordering.TheVariants.{Less, Equal, Greater}
use Rattle.std.specs.Prelude.{◌%◌, slice_index, nat_eq}
use Rattle.std.proofs.lemmas.Bool.{cases_lt}
use Rattle.std.proofs.lemmas.Cmp.{tied_itself}
use Rattle.std.proofs.lemmas.List.{get_or-map, length-map, get_or_default}
use Rattle.std.proofs.lemmas.List.Kept.{AllPairs-cons, IsStrictlySortedBy-dedup, Contains-dedup, Contains-from_dedup}
use Rattle.std.proofs.lemmas.List.Sorted.{Contains-permutation, IsPermutation-sym, searchable_from_sorted}
use Rattle.std.proofs.lemmas.Map.Keys.{sorted_tail}
use Rattle.std.proofs.lemmas.Map.Views.{All-after_first}
use Rattle.std.proofs.lemmas.Option.{slice_get-map, slice_get-get_or, slice_get_within, same_Some}
use Rattle.graph_model.specs.declared.Tag.{Tag}
use Rattle.window_model.specs.Cells.{Cell, CellOrder, Sliding, Parallel, IsRankedBelow, AreWindowCells, AreHomes, cell_of}
use Rattle.window_plan.specs.Ranks.{AreRanks, AreRising, AreHomesByKey, compare, key_of, key_cell, tag_key}
use Rattle.window_plan.specs.declared.cells.RankKey.{RankKey}

-- ---- the order of keys
both_equal : (o p : Ordering) → ordering_then o p ≡ Equal → (o ≡ Equal) × (p ≡ Equal)
both_equal Less p h = (h, cc)
both_equal Equal p h = (refl, h)
both_equal Greater p h = (h, cc)

-- keys that tie are equal
same_key : (k l : RankKey) → compare k l ≡ Equal → k ≡ l
same_key k l e =
    let a = both_equal (nat_cmp k.parity l.parity) _ e in
    let b = both_equal (nat_cmp k.colour l.colour) _ a.1 in
    let c = both_equal (nat_cmp k.block l.block) _ b.1 in
    let d = both_equal (nat_cmp k.row l.row) (nat_cmp k.col l.col) c.1 in
    let parity = nat_cmp-IsAntisymmetric k.parity l.parity a.0 in
    let colour = nat_cmp-IsAntisymmetric k.colour l.colour b.0 in
    let block = nat_cmp-IsAntisymmetric k.block l.block c.0 in
    let row = nat_cmp-IsAntisymmetric k.row l.row d.0 in
    let col = nat_cmp-IsAntisymmetric k.col l.col d.1 in
    λ i. record { parity = parity i; colour = colour i; block = block i; row = row i; col = col i }

compare_total : IsTotalOrder compare
compare_total =
    then_total (on_total (λ (k : RankKey). k.parity) nat_cmp_total)
    (then_total (on_total (λ (k : RankKey). k.colour) nat_cmp_total)
    (then_total (on_total (λ (k : RankKey). k.block) nat_cmp_total)
    (then_total (on_total (λ (k : RankKey). k.row) nat_cmp_total)
    (on_total (λ (k : RankKey). k.col) nat_cmp_total))))

-- the test of equal keys, field by field
abbrev pub alike : RankKey → RankKey → Bool
alike =
    eq_of_both (on (λ k. k.parity) nat_eq)
    (eq_of_both (on (λ k. k.colour) nat_eq)
    (eq_of_both (on (λ k. k.block) nat_eq)
    (eq_of_both (on (λ k. k.row) nat_eq) (on (λ k. k.col) nat_eq))))

alike_ties : (k l : RankKey) → alike k l ≡ is_eq (compare k l)
alike_ties k l =
    let col = unsigned_ties k.col l.col in
    let row = both_tied (k.row == l.row) _ (nat_cmp k.row l.row) _ (unsigned_ties k.row l.row)
    col in
    let block = both_tied (k.block == l.block) _ (nat_cmp k.block l.block) _
    (unsigned_ties k.block l.block) row in
    let colour =
    both_tied (k.colour == l.colour) _ (nat_cmp k.colour l.colour) _
    (unsigned_ties k.colour l.colour) block in
    both_tied (k.parity == l.parity) _ (nat_cmp k.parity l.parity) _
    (unsigned_ties k.parity l.parity) colour

alike_equiv : IsEquivalence alike
alike_equiv =
    and_equiv (on_equiv (λ (k : RankKey). k.parity) nat_eq_equiv)
    (and_equiv (on_equiv (λ (k : RankKey). k.colour) nat_eq_equiv)
    (and_equiv (on_equiv (λ (k : RankKey). k.block) nat_eq_equiv)
    (and_equiv (on_equiv (λ (k : RankKey). k.row) nat_eq_equiv)
    (on_equiv (λ (k : RankKey). k.col) nat_eq_equiv))))

same_when_equal : (k l : RankKey) → alike k l ≡ true → k ≡ l
same_when_equal k l e = same_key k l (tied (compare k l) (sym (alike_ties k l) ∙ e))
  where
    tied : (o : Ordering) → is_eq o ≡ true → o ≡ Equal
    tied Less h = cc
    tied Equal h = refl
    tied Greater h = cc

abbrev pub no_key : RankKey
no_key = record { parity = 0; colour = 0; block = 0; row = 0; col = 0 }

-- ---- what a sort and a `dedup` leave
pairs_rise : (keys : List RankKey) → IsStrictlySortedBy compare keys → AreRising keys
pairs_rise [] h = λ i j d l b. absurd (omega arith)
pairs_rise (k ∷ ks) h =
    AllPairs-cons (λ one two. compare one two ≡ Less) k ks (All-after_first compare k ks h)
    (pairs_rise ks (sorted_tail compare k ks h))

pub distinct_ranks : (order : CellOrder) (commit : ℕ) (tags : List Tag)
    (keys once sorted : List RankKey) → keys ≡ map (tag_key order commit) tags →
    once ≡ dedup alike keys → IsPermutation once sorted → IsSorted compare sorted →
    AreRanks order commit tags (dedup alike sorted)
distinct_ranks order commit tags keys once sorted is once_is moved up = record {
  rising = pairs_rise (dedup alike sorted)
      (IsStrictlySortedBy-dedup compare_total alike_ties sorted up);
  complete = λ key m. kept sorted key
      (Contains-permutation once sorted key moved
      (subst (λ ks. Contains ks key) (sym once_is)
      (kept keys key (subst (λ ks. Contains ks key) (sym is) m))));
  inhabited = λ key m.
      let early = subst (λ ks. Contains ks key) once_is
      (Contains-permutation sorted once key (IsPermutation-sym once sorted moved)
      (Contains-from_dedup alike sorted key m)) in
      subst (λ ks. Contains ks key) is (Contains-from_dedup alike keys key early);
}
  where
    kept : (ks : List RankKey) (key : RankKey) → Contains ks key → Contains (dedup alike ks) key
    kept = Contains-dedup alike_equiv same_when_equal

-- ---- what a binary search finds
pub key_found : (keys : List RankKey) (key : RankKey) (i : ℕ) → i < length keys →
    ((d : RankKey) → compare (get_or keys i d) key ≡ Equal) → slice_get keys i ≡ Some key
key_found keys key i l found =
    slice_get-get_or keys i no_key l ∙ ap Some (same_key (get_or keys i no_key) key (found no_key))

pub key_same : (keys : List RankKey) (key : RankKey) (i : ℕ) → i < length keys →
    alike (get_or keys i no_key) key ≡ true → slice_get keys i ≡ Some key
key_same keys key i l e =
    slice_get-get_or keys i no_key l ∙ ap Some (same_when_equal (get_or keys i no_key) key e)

rising_sorted : (keys : List RankKey) → AreRising keys → IsSorted compare keys
rising_sorted keys up k d low high =
    ap is_lt (compare_total.antisymm (get_or keys (k + 1) d) (get_or keys k d))
    ∙ ap (λ o. is_lt (ordering_reverse o)) (up k (k + 1) d (omega arith) high)

pub key_missed : (keys : List RankKey) (key : RankKey) (i : ℕ) → AreRising keys →
    Contains keys key →
    (IsNonDecreasingBy (λ y. ordering_index (compare y key)) keys →
    IsPartitionPoint (λ y. compare y key ≡ Less) (λ y. compare y key ≡ Greater) keys i) → ⊥
key_missed keys key i up (k, l, e) found =
    let point = found (searchable_from_sorted compare_total (λ (y : RankKey). y) keys key
    (rising_sorted keys up)) in
    let tie : compare (get_or keys k key) key ≡ Equal = ap (λ y. compare y key) e
    ∙ tied_itself compare_total key in
    ⊎_elim
    (λ (below : k < i). let r = point.0 k key (omega arith) below in cc)
    (λ (above : i ≤ k). let r = point.1 k key above l in cc)
    (cases_lt k i)

-- ---- the cells
named : (order : CellOrder) (cell : Cell) → key_cell (key_of order cell) ≡ cell
named Sliding cell = refl
named Parallel cell = refl

then_equal : (o : Ordering) → ordering_then o Equal ≡ o
then_equal Less = refl
then_equal Equal = refl
then_equal Greater = refl

ranked_by : (order : CellOrder) (one two : Cell) →
    compare (key_of order one) (key_of order two) ≡ Less →
    IsRankedBelow order one two
ranked_by Sliding one two h =
    ap (λ o. ordering_then (nat_cmp one.block two.block)
    (ordering_then (nat_cmp one.row two.row) o))
    (then_equal (nat_cmp one.column two.column)) ∙ h
ranked_by Parallel one two h =
    ap (λ o. ordering_then (nat_cmp (one.block % 2) (two.block % 2))
    (ordering_then (nat_cmp ((one.row + one.column) % 2) ((two.row + two.column) % 2))
    (ordering_then (nat_cmp one.block two.block) (ordering_then (nat_cmp one.row two.row) o))))
    (then_equal (nat_cmp one.column two.column)) ∙ h

no_tag : Tag
no_tag = record { slot = 0; tile_row = 0; tile_col = 0 }

module _ (order : CellOrder) (commit : ℕ) (tags : List Tag) where
  -- a key is that of a tag
  from_tag : (key : RankKey) → Contains (map (tag_key order commit) tags) key →
      (k : ℕ) × (k < length tags) × (tag_key order commit (get_or tags k no_tag) ≡ key)
  from_tag key (k, l, e) =
      let within : k < length tags = omega (arith, l, length-map tags (tag_key order commit)) in
      (k, within, sym (get_or-map (tag_key order commit) tags k no_tag key within) ∙ e)

  to_tag : (k : ℕ) (tag : Tag) → k < length tags → get_or tags k no_tag ≡ tag →
      Contains (map (tag_key order commit) tags) (tag_key order commit tag)
  to_tag k tag l e = (
    k,
    omega (arith, l, length-map tags (tag_key order commit)),
    get_or-map (tag_key order commit) tags k no_tag (tag_key order commit tag) l
        ∙ ap (tag_key order commit) e,
  )

  module _ (ranks : List RankKey) (h : AreRanks order commit tags ranks) where
    read : (i : ℕ) (d : Cell) → i < length ranks →
        get_or (map key_cell ranks) i d ≡ key_cell (get_or ranks i no_key)
    read i d l = get_or-map key_cell ranks i no_key d l

    -- the key at a place, as that of a tag
    of_tag : (i : ℕ) → i < length ranks → (k : ℕ) × (k < length tags)
        × (tag_key order commit (get_or tags k no_tag) ≡ get_or ranks i no_key)
    of_tag i l =
        from_tag (get_or ranks i no_key) (h.inhabited (get_or ranks i no_key) (
          i,
          l,
          get_or_default ranks i (get_or ranks i no_key) no_key l,
        ))

    cell_is : (i : ℕ) (d : Cell) (l : i < length ranks) →
        get_or (map key_cell ranks) i d ≡ cell_of commit (get_or tags (of_tag i l).0 no_tag)
    cell_is i d l =
        read i d l ∙ ap key_cell (sym (of_tag i l).2)
        ∙ named order (cell_of commit (get_or tags (of_tag i l).0 no_tag))

    pub cells_are : AreWindowCells order commit tags (map key_cell ranks)
    cells_are = record { ranked = rise; complete = complete; inhabited = inhabited }
      where
        rise : AllPairs (IsRankedBelow order) (map key_cell ranks)
        rise i j d l b =
            let m = length-map ranks key_cell in
            let two : j < length ranks = omega (arith, b, m) in
            let one : i < length ranks = omega arith in
            let keys : compare (tag_key order commit (get_or tags (of_tag i one).0 no_tag))
            (tag_key order commit (get_or tags (of_tag j two).0 no_tag)) ≡ Less =
            ap (λ x. compare x (tag_key order commit (get_or tags (of_tag j two).0 no_tag)))
            (of_tag i one).2 ∙ ap (compare (get_or ranks i no_key)) (of_tag j two).2
            ∙ h.rising i j no_key l two in
            subst (λ x. IsRankedBelow order x (get_or (map key_cell ranks) j d))
            (sym (cell_is i d one))
            (subst (λ x. IsRankedBelow order (cell_of commit (get_or tags (of_tag i one).0 no_tag))
            x) (sym (cell_is j d two))
            (ranked_by order (cell_of commit (get_or tags (of_tag i one).0 no_tag))
            (cell_of commit (get_or tags (of_tag j two).0 no_tag)) keys))

        complete : All (λ tag. Contains (map key_cell ranks) (cell_of commit tag)) tags
        complete k d l =
            let tag = get_or tags k d in
            let place = h.complete (tag_key order commit tag)
            (to_tag k tag l (get_or_default tags k no_tag d l)) in (
              place.0,
              omega (arith, place.1, length-map ranks key_cell),
              get_or-map key_cell ranks place.0 (tag_key order commit tag) (cell_of commit tag)
                  place.1 ∙ ap key_cell place.2 ∙ named order (cell_of commit tag),
            )

        inhabited : All (λ cell. Contains (map (cell_of commit) tags) cell) (map key_cell ranks)
        inhabited j d l =
            let within : j < length ranks = omega (arith, l, length-map ranks key_cell) in
            let from = of_tag j within in (
              from.0,
              omega (arith, from.1, length-map tags (cell_of commit)),
              get_or-map (cell_of commit) tags from.0 no_tag (get_or (map key_cell ranks) j d)
                  from.1 ∙ sym (cell_is j d within),
            )

    pub homes_are : (homes : List ℕ) → AreHomesByKey order commit tags ranks homes →
        AreHomes commit tags (map key_cell ranks) homes
    homes_are homes by_key = record { each_one = each_one; home = home }
      where
        each_one : length homes ≡ length tags
        each_one = sym (length-map homes (slice_get ranks)) ∙ ap length by_key
            ∙ length-map tags (λ tag. Some (tag_key order commit tag))

        key_at : (v : ℕ) (tag : Tag) → slice_get tags v ≡ Some tag →
            slice_get ranks (slice_index homes v) ≡ Some (tag_key order commit tag)
        key_at v tag at =
            let within : v < length homes = let k = slice_get_within tags v tag at in
            omega (arith, k, each_one) in
            same_Some (slice_get ranks (get_or homes v 0)) (Some (tag_key order commit tag))
            (sym (ap (option_map (slice_get ranks)) (slice_get-get_or homes v 0 within))
            ∙ sym (slice_get-map (slice_get ranks) homes v)
            ∙ ap (λ xs. slice_get xs v) by_key
            ∙ slice_get-map (λ tag. Some (tag_key order commit tag)) tags v
            ∙ ap (option_map (λ tag. Some (tag_key order commit tag))) at)

        home : (v : ℕ) (tag : Tag) → slice_get tags v ≡ Some tag →
            slice_get (map key_cell ranks) (slice_index homes v) ≡ Some (cell_of commit tag)
        home v tag at =
            slice_get-map key_cell ranks (slice_index homes v)
            ∙ ap (option_map key_cell) (key_at v tag at)
            ∙ ap Some (named order (cell_of commit tag))

    pub key_in : (v : ℕ) (d : Tag) → v < length tags →
        Contains ranks (tag_key order commit (get_or tags v d))
    key_in v d l =
        h.complete (tag_key order commit (get_or tags v d))
        (to_tag v (get_or tags v d) l (get_or_default tags v no_tag d l))
