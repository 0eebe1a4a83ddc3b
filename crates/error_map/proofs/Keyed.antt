-- Keys that rise, and what a search among them finds.
use Rattle.std.proofs.Common.{◌≡◌, ℕ, ◌+◌, ◌<◌, ◌≤◌, ◌==◌, ◌&&◌, ◌||◌, ⊎_elim, inl, inr, ◌≢◌, Option, None, Bool, true, false, cond, List, [], ◌∷◌, ◌++◌, refl, sym, ap, ◌∙◌, arith, length, map, flat_map, get_or, Contains, subst, slice_get, Some}
use Rattle.std.specs.Prelude.{nat_lt, unwrap_or}
use Rattle.std.specs.List.{dedup, range_with_len}
use Rattle.std.specs.List.Sorted.{IsPermutation, IsSorted, IsStrictlySortedBy, IsPartitionPoint, IsNonDecreasingBy}
use Rattle.std.specs.Cmp.{IsEquivalence, IsTotalOrder, and_equiv, both_tied, nat_cmp_total, nat_eq_equiv, on_equiv, on_total, then_total, unsigned_ties}
use Rattle.std.specs.FinMap.{nat_cmp-IsAntisymmetric}
use Rattle.std.specs.Ordering.{nat_cmp, is_lt, ordering_index, ordering_reverse, is_eq, eq_of_both, on, ordering_then}
use Rattle.std.specs.declared.cmp.Ordering.{Ordering}
use Rattle.std.specs.declared.cmp.Ordering.TheVariants.{Less, Equal, Greater}
use Rattle.std.specs.Prelude.{nat_eq}
use Rattle.std.proofs.lemmas.Bool.{cases_eq, cases_lt}
use Rattle.std.proofs.lemmas.Bool.Decides.{nat_tests}
use Rattle.std.proofs.lemmas.List.{append_assoc, map-append}
use Rattle.std.proofs.lemmas.List.Kept.{AllPairs-cons, IsStrictlySortedBy-dedup, Contains-dedup, Contains-from_dedup}
use Rattle.std.proofs.lemmas.List.Sorted.{Contains-permutation, IsPermutation-sym, searchable_from_sorted}
use Rattle.std.proofs.lemmas.Map.Keys.{sorted_tail}
use Rattle.std.proofs.lemmas.Map.Views.{All-after_first}
use Rattle.std.proofs.lemmas.Option.{same_Some, slice_get-get_or, slice_get_within, get_or_from_slice_get}
use Rattle.surface_model.specs.Layout.{Place}
use Rattle.error_map.specs.Keys.{AreDistinct, AreKeys, AreRising, IsFirst, IsNextKey, IsNumberAt, compare, key_of}
use Rattle.error_map.specs.declared.keys.Key.{Key}
use Rattle.std.proofs.lemmas.List.Concat.{flat_map-append}
use Rattle.graph_model.proofs.Ranges.{range_more}

-- ---- the order of keys

both_equal : (o p : Ordering) → ordering_then o p ≡ Equal → (o ≡ Equal) × (p ≡ Equal)
both_equal Less p h = (h, cc)
both_equal Equal p h = (refl, h)
both_equal Greater p h = (h, cc)

-- keys that tie are equal
same_key : (k l : Key) → compare k l ≡ Equal → k ≡ l
same_key k l e =
    let a = both_equal (nat_cmp k.row l.row) _ e in
    let b = both_equal (nat_cmp k.col l.col) (nat_cmp k.number l.number) a.1 in
    let row = nat_cmp-IsAntisymmetric k.row l.row a.0 in
    let col = nat_cmp-IsAntisymmetric k.col l.col b.0 in
    let number = nat_cmp-IsAntisymmetric k.number l.number b.1 in
    λ i. record { row = row i; col = col i; number = number i }

pub compare_total : IsTotalOrder compare
compare_total =
    then_total (on_total (λ (k : Key). k.row) nat_cmp_total)
    (then_total (on_total (λ (k : Key). k.col) nat_cmp_total)
    (on_total (λ (k : Key). k.number) nat_cmp_total))

-- the test of equal keys, field by field
abbrev pub alike : Key → Key → Bool
alike =
    eq_of_both (on (λ k. k.row) nat_eq)
    (eq_of_both (on (λ k. k.col) nat_eq) (on (λ k. k.number) nat_eq))

alike_ties : (k l : Key) → alike k l ≡ is_eq (compare k l)
alike_ties k l =
    let number = unsigned_ties k.number l.number in
    let col = both_tied (k.col == l.col) _ (nat_cmp k.col l.col) _ (unsigned_ties k.col l.col)
    number in
    both_tied (k.row == l.row) _ (nat_cmp k.row l.row) _ (unsigned_ties k.row l.row) col

alike_equiv : IsEquivalence alike
alike_equiv =
    and_equiv (on_equiv (λ (k : Key). k.row) nat_eq_equiv)
    (and_equiv (on_equiv (λ (k : Key). k.col) nat_eq_equiv)
    (on_equiv (λ (k : Key). k.number) nat_eq_equiv))

same_when_equal : (k l : Key) → alike k l ≡ true → k ≡ l
same_when_equal k l e = same_key k l (tied (compare k l) (sym (alike_ties k l) ∙ e))
  where
    tied : (o : Ordering) → is_eq o ≡ true → o ≡ Equal
    tied Less h = cc
    tied Equal h = refl
    tied Greater h = cc

abbrev pub no_key : Key
no_key = record { row = 0; col = 0; number = 0 }

-- ---- what a sort and a `dedup` leave

pairs_rise : (keys : List Key) → IsStrictlySortedBy compare keys → AreRising keys
pairs_rise [] h = λ i j d l b. absurd (omega arith)
pairs_rise (k ∷ ks) h =
    AllPairs-cons (λ one two. compare one two ≡ Less) k ks (All-after_first compare k ks h)
    (pairs_rise ks (sorted_tail compare k ks h))

pub sorted_distinct : (keys sorted : List Key) → IsPermutation keys sorted →
    IsSorted compare sorted → AreDistinct keys (dedup alike sorted)
sorted_distinct keys sorted moved up = record {
  rising = pairs_rise (dedup alike sorted)
      (IsStrictlySortedBy-dedup compare_total alike_ties sorted up);
  complete = λ key m. Contains-dedup alike_equiv same_when_equal sorted key
      (Contains-permutation keys sorted key moved m);
  inhabited = λ key m. Contains-permutation sorted keys key (IsPermutation-sym keys sorted moved)
      (Contains-from_dedup alike sorted key m);
}

-- ---- what a binary search finds

pub rises : (keys : List Key) → AreRising keys → (i j : ℕ) (k l : Key) → i < j →
    slice_get keys i ≡ Some k → slice_get keys j ≡ Some l → compare k l ≡ Less
rises keys up i j k l m e f =
    ap (λ x. compare x l) (sym (get_or_from_slice_get keys i k no_key e))
    ∙ ap (compare (get_or keys i no_key)) (sym (get_or_from_slice_get keys j l no_key f))
    ∙ up i j no_key m (slice_get_within keys j l f)

below_not : (k l : Key) → compare k l ≡ Less → is_lt (compare l k) ≡ false
below_not k l h = ap is_lt (compare_total.antisymm l k) ∙ ap (λ o. is_lt (ordering_reverse o)) h

key_at : (keys : List Key) (key : Key) (i : ℕ) → i < length keys →
    ((d : Key) → compare (get_or keys i d) key ≡ Equal) → slice_get keys i ≡ Some key
key_at keys key i l found =
    slice_get-get_or keys i no_key l ∙ ap Some (same_key (get_or keys i no_key) key (found no_key))

pub first_found : (keys : List Key) (key : Key) (i : ℕ) → AreRising keys → i < length keys →
    ((d : Key) → compare (get_or keys i d) key ≡ Equal) → IsFirst keys key i
first_found keys key i up l found = record {
  within = omega (arith, l);
  below = λ j k m e. ap is_lt (rises keys up j i k key m e at);
  above = λ j k m e. ⊎_elim (λ (s : j ≡ i). ap (λ x. is_lt (compare x key)) (get_or_value s e)
      ∙ ap is_lt (found no_key))
      (λ ne. below_not key k (rises keys up i j key k (omega (arith, m, ne)) at e)) (cases_eq j i);
}
  where
    at : slice_get keys i ≡ Some key
    at = key_at keys key i l found

    get_or_value : {j : ℕ} {k : Key} → j ≡ i → slice_get keys j ≡ Some k → k ≡ get_or keys i no_key
    get_or_value {j} {k} s e =
        sym (get_or_from_slice_get keys i k no_key (subst (λ n. slice_get keys n ≡ Some k) s e))

sorted_keys : (keys : List Key) → AreRising keys → IsSorted compare keys
sorted_keys keys up k d low high =
    ap is_lt (compare_total.antisymm (get_or keys (k + 1) d) (get_or keys k d))
    ∙ ap (λ o. is_lt (ordering_reverse o)) (up k (k + 1) d (omega arith) high)

pub first_missed : (keys : List Key) (key : Key) (i : ℕ) → AreRising keys → i ≤ length keys →
    (IsNonDecreasingBy (λ y. ordering_index (compare y key)) keys →
    IsPartitionPoint (λ y. compare y key ≡ Less) (λ y. compare y key ≡ Greater) keys i) →
    IsFirst keys key i
first_missed keys key i up l found =
    let point = found (searchable_from_sorted compare_total (λ (y : Key). y) keys key
    (sorted_keys keys up)) in
    record {
      within = l;
      below = λ j k m e. ap (λ x. is_lt (compare x key))
          (sym (get_or_from_slice_get keys j k no_key e))
          ∙ ap is_lt (point.0 j no_key (omega arith) m);
      above = λ j k m e. ap (λ x. is_lt (compare x key))
          (sym (get_or_from_slice_get keys j k no_key e))
          ∙ ap is_lt (point.1 j no_key m (slice_get_within keys j k e));
    }

-- ---- the order of keys of places

less_is : (a x : ℕ) → is_lt (nat_cmp a x) ≡ nat_lt a x
less_is a x = by_test (nat_lt a x) (a == x)
  where
    by_test : (l e : Bool) → is_lt (cond l Less (cond e Equal Greater)) ≡ l
    by_test true e = refl
    by_test false true = refl
    by_test false false = refl

then_less : (o p : Ordering) → is_lt (ordering_then o p) ≡ (is_lt o || (is_eq o && is_lt p))
then_less Less p = refl
then_less Equal p = refl
then_less Greater p = refl

pub below_is : (a b c x y z : ℕ) →
    is_lt (compare (record { row = a; col = b; number = c }) (record {
      row = x;
      col = y;
      number = z;
    }))
    ≡ (nat_lt a x || (a == x && (nat_lt b y || (b == y && nat_lt c z))))
below_is a b c x y z =
    let inner : is_lt (ordering_then (nat_cmp b y) (nat_cmp c z))
    ≡ (nat_lt b y || (b == y && nat_lt c z)) =
    then_less (nat_cmp b y) (nat_cmp c z)
    ∙ (λ i. less_is b y i || (sym (unsigned_ties b y) i && less_is c z i)) in
    then_less (nat_cmp a x) (ordering_then (nat_cmp b y) (nat_cmp c z))
    ∙ (λ i. less_is a x i || (sym (unsigned_ties a x) i && inner i))

-- where a key stands
pub where_is : (keys : List Key) (key : Key) → Contains keys key →
    (j : ℕ) × (slice_get keys j ≡ Some key)
where_is keys key (j, l, e) = (j, slice_get-get_or keys j key l ∙ ap Some e)

pub is_there : (keys : List Key) (j : ℕ) (key : Key) → slice_get keys j ≡ Some key →
    Contains keys key
is_there keys j key e = (j, slice_get_within keys j key e, get_or_from_slice_get keys j key key e)

number_is : (n m : ℕ) (q : Place) (o : Option Key) → o ≡ Some (key_of n q) → o ≡ Some (key_of m q) →
    n ≡ m
number_is n m q o e f = ap (λ (k : Key). k.number) (same_Some (key_of n q) (key_of m q) (sym e ∙ f))

no_lower : (r c m t : ℕ) → (nat_lt r r || (r == r && (nat_lt c c || (c == c && nat_lt m t))))
    ≡ true → m < t
no_lower r c m t h = grind (arith, nat_tests)

not_lower : (r c m t : ℕ) → (nat_lt r r || (r == r && (nat_lt c c || (c == c && nat_lt m t))))
    ≡ false → t ≤ m
not_lower r c m t h = grind (arith, nat_tests)

between : (a b n r c m t : ℕ) → (nat_lt a r || (a == r && (nat_lt b c || (b == c && nat_lt n t))))
    ≡ false → (nat_lt a r || (a == r && (nat_lt b c || (b == c && nat_lt n m)))) ≡ true →
    (a ≡ r) × (b ≡ c)
between a b n r c m t h k = (grind (arith, nat_tests), grind (arith, nat_tests))

module _ (keys : List Key) (ok : AreKeys keys) (q : Place) (start i : ℕ)
    (above : (j : ℕ) (k : Key) → i ≤ j → slice_get keys j ≡ Some k →
    is_lt (compare k (key_of start q)) ≡ false) where
  -- numbers of later keys of the place are greater
  pub rising_numbers : (j k n m : ℕ) → j < k → slice_get keys j ≡ Some (key_of n q) →
      slice_get keys k ≡ Some (key_of m q) → n < m
  rising_numbers j k n m l e f =
      no_lower q.row q.column n m (sym (below_is q.row q.column n q.row q.column m)
      ∙ ap is_lt (rises keys ok.rising j k (key_of n q) (key_of m q) l e f))

  -- where the place has no key at i, it has none from there on
  pub none_after : ((n : ℕ) → slice_get keys i ≡ Some (key_of n q) → ⊥) → (j m : ℕ) → i ≤ j →
      slice_get keys j ≡ Some (key_of m q) → ⊥
  none_after none j m l e =
      ⊎_elim (λ (s : i ≡ j). none m (subst (λ k. slice_get keys k ≡ Some (key_of m q)) (sym s) e))
      later (cases_eq i j)
    where
      within : j < length keys
      within = slice_get_within keys j (key_of m q) e

      key : Key
      key = get_or keys i no_key

      at : slice_get keys i ≡ Some key
      at = slice_get-get_or keys i no_key (omega (arith, l, within))

      later : (i ≢ j) → ⊥
      later ne =
          let n = key.number in
          let p : Place = record { row = key.row; column = key.col } in
          let here : slice_get keys i ≡ Some (key_of n p) = at in
          let low = sym (below_is p.row p.column n q.row q.column start)
          ∙ above i (key_of n p) (omega arith) here in
          let high = sym (below_is p.row p.column n q.row q.column m)
          ∙ ap is_lt (rises keys ok.rising i j (key_of n p) (key_of m q) (omega (arith, l, ne))
          here e) in
          let same = between p.row p.column n q.row q.column m start low high in
          none n (here ∙ ap Some (λ h. record { row = same.0 h; col = same.1 h; number = n }))

module _ (keys : List Key) (ok : AreKeys keys) (q : Place) (start i : ℕ)
    (first : IsFirst keys (key_of (start + 1) q) i) where
  not_before : (m j : ℕ) → start < m → slice_get keys j ≡ Some (key_of m q) → i ≤ j
  not_before m j l e = ⊎_elim
      (λ b. let t = no_lower q.row q.column m (start + 1)
      (sym (below_is q.row q.column m q.row q.column (start + 1))
      ∙ first.below j (key_of m q) b e) in absurd (omega (arith, l, t)))
      (λ a. a) (cases_lt j i)

  pub next_some : (end n : ℕ) → slice_get keys i ≡ Some (key_of n q) → IsNextKey keys start q end n
  next_some end n e = record {
    least = λ m l c. let j = where_is keys (key_of m q) c in
        ⊎_elim (λ (s : i ≡ j.0). let t = number_is n m q (slice_get keys i) e
        (subst (λ k. slice_get keys k ≡ Some (key_of m q)) (sym s) j.1) in omega (arith, t))
        (λ ne. let b = not_before m j.0 l j.1 in
        let t = rising_numbers keys ok q (start + 1) i first.above i j.0 n m
        (omega (arith, b, ne)) e j.1 in omega (arith, t)) (cases_eq i j.0);
    found = let t =
        not_lower q.row q.column n (start + 1)
        (sym (below_is q.row q.column n q.row q.column (start + 1))
        ∙ first.above i (key_of n q) (omega arith) e) in
        inr (omega (arith, t), is_there keys i (key_of n q) e);
  }

  pub next_none : (end : ℕ) → ((n : ℕ) → slice_get keys i ≡ Some (key_of n q) → ⊥) →
      IsNextKey keys start q end end
  next_none end none = record {
    least = λ m l c. let j = where_is keys (key_of m q) c in
        absurd (none_after keys ok q (start + 1) i first.above none j.0 m (not_before m j.0 l j.1)
        j.1);
    found = inl refl;
  }

-- what is read at a place of the list
pub number_some : (keys : List Key) (at : ℕ) (q : Place) → at < length keys →
    (get_or keys at no_key).row ≡ q.row → (get_or keys at no_key).col ≡ q.column →
    slice_get keys at ≡ Some (key_of (get_or keys at no_key).number q)
number_some keys at q l f g =
    slice_get-get_or keys at no_key l
    ∙ ap Some (λ h. record { row = f h; col = g h; number = (get_or keys at no_key).number })

pub number_none : (keys : List Key) (at : ℕ) (q : Place) → at < length keys →
    ((get_or keys at no_key).row ≡ q.row → (get_or keys at no_key).col ≡ q.column → ⊥) → (n : ℕ) →
    slice_get keys at ≡ Some (key_of n q) → ⊥
number_none keys at q l other n h =
    let same : get_or keys at no_key ≡ key_of n q =
    same_Some (get_or keys at no_key) (key_of n q) (sym (slice_get-get_or keys at no_key l)
    ∙ h) in
    other (ap (λ (k : Key). k.row) same) (ap (λ (k : Key). k.col) same)

-- of a first key and the number that is read there, if any
pub next_is_number : (keys : List Key) → AreKeys keys →
    (q : Place) (start i end n : ℕ) (o : Option ℕ) → IsFirst keys (key_of (start + 1) q) i →
    IsNumberAt keys i q o → n ≡ unwrap_or o end → IsNextKey keys start q end n
next_is_number keys ok q start i end n (Some m) first at e =
    subst (IsNextKey keys start q end) (sym e) (next_some keys ok q start i first end m at)
next_is_number keys ok q start i end n None first at e =
    subst (IsNextKey keys start q end) (sym e) (next_none keys ok q start i first end at)

-- ---- the keys of a region

pub key_turn : (n : ℕ) (row column : ℕ) (before : List Key) (j : ℕ) (old new : List Key) →
    old ≡ before
    ++ map (key_of n) (map (λ k. record { row = row; column = k }) (range_with_len column j)) →
    new ≡ old ++ (record { row = row; col = column + j; number = n }) ∷ [] →
    new ≡ before
    ++ map (key_of n)
    (map (λ k. record { row = row; column = k }) (range_with_len column (j + 1)))
key_turn n row column before j old new e k =
    let f : ℕ → Place = λ k. record { row = row; column = k } in
    k ∙ ap (λ ks. ks ++ (record { row = row; col = column + j; number = n }) ∷ []) e
    ∙ append_assoc before (map (key_of n) (map f (range_with_len column j)))
    ((record { row = row; col = column + j; number = n }) ∷ [])
    ∙ ap (λ ks. before ++ ks) (sym (ap (λ xs. map (key_of n) (map f xs)) (range_more column j)
    ∙ ap (map (key_of n)) (map-append f (range_with_len column j) ((column + j) ∷ []))
    ∙ map-append (key_of n) (map f (range_with_len column j)) (f (column + j) ∷ [])))

pub row_of_keys : (n : ℕ) (f : ℕ → List Place) (row : ℕ) (before : List Key) (i : ℕ)
    (old new : List Key) → old ≡ before ++ map (key_of n) (flat_map f (range_with_len row i)) →
    new ≡ old ++ map (key_of n) (f (row + i)) →
    new ≡ before ++ map (key_of n) (flat_map f (range_with_len row (i + 1)))
row_of_keys n f row before i old new e k =
    k ∙ ap (λ ks. ks ++ map (key_of n) (f (row + i))) e
    ∙ append_assoc before (map (key_of n) (flat_map f (range_with_len row i)))
    (map (key_of n) (f (row + i)))
    ∙ ap (λ ks. before ++ ks) (sym (ap (λ xs. map (key_of n) (flat_map f xs)) (range_more row i)
    ∙ ap (map (key_of n)) (flat_map-append f (range_with_len row i) ((row + i) ∷ []))
    ∙ map-append (key_of n) (flat_map f (range_with_len row i)) (flat_map f ((row + i) ∷ []))
    ∙ ap (λ xs. map (key_of n) (flat_map f (range_with_len row i)) ++ map (key_of n) xs)
    (append_none (f (row + i)))))
  where
    append_none : {X : Type 0} (xs : List X) → xs ++ [] ≡ xs
    append_none [] = refl
    append_none (x ∷ xs) = ap (λ ys. x ∷ ys) (append_none xs)
