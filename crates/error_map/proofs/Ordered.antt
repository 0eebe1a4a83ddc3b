-- Lists in order, and the places in them of elements by their keys.
use Rattle.std.proofs.Common.{◌≡◌, ℕ, zero, suc, ◌+◌, ◌<◌, ◌≤◌, ◌==◌, ⊎_elim, inl, inr, Bool, true, false, cond, ◌||◌, refl, sym, ap, ◌∙◌, arith, eq-eqb, eqb-true, subst, length, Option, Some, None, List, [], ◌∷◌, ◌++◌, map, filter, flat_map, slice_get, get_or}
use Rattle.std.specs.List.{list_any, range_with_len, filter_map, cons_option, position, position_or_len}
use Rattle.std.specs.List.Sorted.{IsStrictlyIncreasing}
use Rattle.std.specs.Option.{option_map_or}
use Rattle.std.specs.Prelude.{nat_lt}
use Rattle.std.proofs.lemmas.Bool.{cases_eq, cases_lt, and_parts, false≢true, lt-ltb}
use Rattle.std.proofs.lemmas.Option.{none-some, same_Some, slice_get-get_or, get_or_from_slice_get, slice_get_within}
use Rattle.std.proofs.lemmas.List.Sums.{position_or_len_is}
use Rattle.std.proofs.lemmas.List.Quantifiers.{position-Some}
use Rattle.std.proofs.lemmas.List.Kept.{IsStrictlyIncreasing-filter}
use Rattle.graph_model.specs.Graph.{is_in}
use Rattle.graph_model.proofs.Members.{is_in_first, is_in_rest, is_in_cases, is_in-filter, is_in-range, is_in-below}
use Rattle.graph_model.proofs.Ascending.{increasing_rest, increasing_above, increasing_cons}
use Rattle.graph_model.proofs.Incidence.{increasing_range}
use Rattle.graph_model.specs.Members.{In}
use Rattle.graph_model.proofs.Elements.{any_in, in_map, in_append, in_filter, in_flat_map, in_filter_map, in_at, in_range}
use Rattle.surface_laws.proofs.Regions.{same_tests}

-- ---- each element before all later ones

abbrev pub AreSorted : {X : Type 0} → (X → X → Bool) → List X → Type 0
AreSorted {X} r [] = Unit {0}
AreSorted {X} r (x ∷ xs) = ((y : X) → In y xs → r x y ≡ true) × AreSorted r xs

pub sorted-append : {X : Type 0} (r : X → X → Bool) (xs ys : List X) → AreSorted r xs →
    AreSorted r ys → ((x y : X) → In x xs → In y ys → r x y ≡ true) → AreSorted r (xs ++ ys)
sorted-append r [] ys a b h = b
sorted-append r (x ∷ xs) ys a b h = (
  λ y m. ⊎_elim (λ i. a.0 y i) (λ i. h x y (inl refl) i) (in_append xs ys y m),
  sorted-append r xs ys a.1 b (λ z y m i. h z y (inr m) i),
)

pub sorted-flat_map : {X : Type 0} (r : X → X → Bool) (f : ℕ → List X) (a n : ℕ) →
    ((i : ℕ) → AreSorted r (f i)) → ((i j : ℕ) (x y : X) → i < j → In x (f i) → In y (f j) →
    r x y ≡ true) → AreSorted r (flat_map f (range_with_len a n))
sorted-flat_map r f a zero each apart = tt
sorted-flat_map r f a (suc n) each apart =
    sorted-append r (f a) (flat_map f (range_with_len (a + 1) n)) (each a)
    (sorted-flat_map r f (a + 1) n each apart)
    (λ x y m i. let k = in_flat_map f (range_with_len (a + 1) n) y i in
    apart a k.0 x y (omega (arith, (in_range (a + 1) n k.0 k.1).0)) m k.2)

pub sorted-map_range : {X : Type 0} (r : X → X → Bool) (f : ℕ → X) (a n : ℕ) →
    ((i j : ℕ) → i < j → r (f i) (f j) ≡ true) → AreSorted r (map f (range_with_len a n))
sorted-map_range r f a zero h = tt
sorted-map_range r f a (suc n) h = (
  λ y m. let k = in_map f (range_with_len (a + 1) n) y m in
      subst (λ z. r (f a) z ≡ true) k.2
      (h a k.0 (omega (arith, (in_range (a + 1) n k.0 k.1).0))),
  sorted-map_range r f (a + 1) n h,
)

pub sorted-filter_map : {X Y : Type 0} (r : X → X → Bool) (q : Y → Y → Bool) (f : X →
    Option Y) (xs : List X) → AreSorted r xs →
    ((x x' : X) (y y' : Y) → r x x' ≡ true → f x ≡ Some y → f x' ≡ Some y' → q y y' ≡ true) →
    AreSorted q (filter_map f xs)
sorted-filter_map r q f [] a h = tt
sorted-filter_map r q f (x ∷ xs) a h = by_value (f x) refl (sorted-filter_map r q f xs a.1 h)
  where
    by_value : (o : Option _) → f x ≡ o → AreSorted q (filter_map f xs) →
        AreSorted q (cons_option o (filter_map f xs))
    by_value None e k = k
    by_value (Some y) e k = (
      λ z m. let i = in_filter_map f xs z m in
          h x i.0 y z (a.0 i.0 i.1) e i.2,
      k,
    )

pub sorted-filter : {X : Type 0} (r : X → X → Bool) (p : X → Bool) (xs : List X) → AreSorted r xs →
    AreSorted r (filter p xs)
sorted-filter r p [] a = tt
sorted-filter r p (x ∷ xs) a = by_test (p x) (sorted-filter r p xs a.1)
  where
    by_test : (b : Bool) → AreSorted r (filter p xs) →
        AreSorted r (cond b (x ∷ filter p xs) (filter p xs))
    by_test true k = (λ y m. a.0 y (in_filter p xs y m).0, k)
    by_test false k = k

pub sorted-map : {X Y : Type 0} (r : X → X → Bool) (q : Y → Y → Bool) (f : X → Y) (xs : List X) →
    AreSorted r xs → ((x y : X) → r x y ≡ true → q (f x) (f y) ≡ true) → AreSorted q (map f xs)
sorted-map r q f [] a h = tt
sorted-map r q f (x ∷ xs) a h = (
  λ y m. let k = in_map f xs y m in
      subst (λ z. q (f x) z ≡ true) k.2 (h x k.0 (a.0 k.0 k.1)),
  sorted-map r q f xs a.1 h,
)

pub sorted_at : {X : Type 0} (r : X → X → Bool) (xs : List X) (i j : ℕ) (x y : X) → AreSorted r xs →
    slice_get xs i ≡ Some x → slice_get xs j ≡ Some y → i < j → r x y ≡ true
sorted_at r [] i j x y a e f l = absurd (none-some x e)
sorted_at r (z ∷ zs) i zero x y a e f l = absurd (omega arith)
sorted_at r (z ∷ zs) zero (suc j) x y a e f l =
    subst (λ w. r w y ≡ true) (same_Some z x e) (a.0 y (in_at zs j y f))
sorted_at r (z ∷ zs) (suc i) (suc j) x y a e f l = sorted_at r zs i j x y a.1 e f (omega arith)

-- ---- rising lists with the same members

pub same_rising : (xs ys : List ℕ) → IsStrictlyIncreasing xs → IsStrictlyIncreasing ys →
    ((v : ℕ) → is_in xs v ≡ is_in ys v) → xs ≡ ys
same_rising [] [] a b h = refl
same_rising [] (y ∷ ys) a b h = absurd (false≢true (h y ∙ is_in_first y ys))
same_rising (x ∷ xs) [] a b h = absurd (false≢true (sym (h x) ∙ is_in_first x xs))
same_rising (x ∷ xs) (y ∷ ys) a b h =
    let e : x ≡ y = heads in
    let tails : xs ≡ ys =
    same_rising xs ys (increasing_rest x xs a) (increasing_rest y ys b)
    (λ v. same_tests (is_in xs v) (is_in ys v) (there e v) (back e v)) in
    ap (λ z. z ∷ xs) e ∙ ap (λ zs. y ∷ zs) tails
  where
    heads : x ≡ y
    heads =
        ⊎_elim (λ e. e)
        (λ n. ⊎_elim (λ e. sym e)
        (λ m. absurd (omega (arith, increasing_above x xs a y n, increasing_above y ys b x m)))
        (is_in_cases y x ys (sym (h x) ∙ is_in_first x xs)))
        (is_in_cases x y xs (h y ∙ is_in_first y ys))

    there : x ≡ y → (v : ℕ) → is_in xs v ≡ true → is_in ys v ≡ true
    there e v m =
        let l = increasing_above x xs a v m in
        ⊎_elim (λ f. absurd (omega (arith, l, e, f))) (λ n. n) (is_in_cases y v ys (sym (h v)
        ∙ is_in_rest x v xs m))

    back : x ≡ y → (v : ℕ) → is_in ys v ≡ true → is_in xs v ≡ true
    back e v m =
        let l = increasing_above y ys b v m in
        ⊎_elim (λ f. absurd (omega (arith, l, e, f))) (λ n. n) (is_in_cases x v xs (h v
        ∙ is_in_rest y v ys m))

-- ---- the places of elements by their keys

-- whether the number is this one
abbrev pub is_number : Option ℕ → ℕ → Bool
is_number o v = option_map_or (λ n. n == v) o false

is_number_Some : (o : Option ℕ) (v : ℕ) → is_number o v ≡ true → o ≡ Some v
is_number_Some (Some n) v h = ap Some (eqb-true n v h)
is_number_Some None v h = absurd (false≢true h)

is_in-cons : (o : Option ℕ) (ns : List ℕ) (v : ℕ) →
    is_in (cons_option o ns) v ≡ is_number o v || is_in ns v
is_in-cons (Some n) ns v = refl
is_in-cons None ns v = refl

pub is_in-filter_map : {K : Type 0} (f : K → Option ℕ) (ks : List K) (v : ℕ) →
    is_in (filter_map f ks) v ≡ list_any (λ k. is_number (f k) v) ks
is_in-filter_map f [] v = refl
is_in-filter_map f (k ∷ ks) v =
    is_in-cons (f k) (filter_map f ks) v
    ∙ ap (λ b. is_number (f k) v || b) (is_in-filter_map f ks v)

any_same : {K : Type 0} (p q : K → Bool) (ks : List K) → ((k : K) → p k ≡ q k) →
    list_any p ks ≡ list_any q ks
any_same p q [] h = refl
any_same p q (k ∷ ks) h =
    ap (λ b. b || list_any p ks) (h k) ∙ ap (λ b. q k || b) (any_same p q ks h)

-- the place that position gives
pub position_at : {X : Type 0} (p : X → Bool) (xs : List X) (v : ℕ) → position p xs ≡ Some v →
    (x : X) × (slice_get xs v ≡ Some x) × (p x ≡ true)
position_at p [] v e = absurd (none-some v e)
position_at p (y ∷ ys) v e =
    let k = position-Some p (y ∷ ys) v y e in
    (get_or (y ∷ ys) v y, slice_get-get_or (y ∷ ys) v y k.0, k.1)

pub position_is : {X : Type 0} (p : X → Bool) (xs : List X) (v : ℕ) (x : X) →
    slice_get xs v ≡ Some x → p x ≡ true → ((k : ℕ) → k < v → p (get_or xs k x) ≡ false) →
    position p xs ≡ Some v
position_is p xs v x e h before =
    let l : v < length xs = slice_get_within xs v x e in
    let at : position_or_len p xs ≡ v =
    position_or_len_is p xs v x (omega (arith, l)) before
    (λ _. ap p (get_or_from_slice_get xs v x x e) ∙ h) in
    ap (λ n. cond (nat_lt n (length xs)) (Some n) None) at
    ∙ ap (λ b. cond b (Some v) None) (lt-ltb v (length xs) l)

-- keys, an element's key, and the order of elements and of keys
module _ {X K : Type 0} (same : K → X → Bool) (r : X → X → Bool) (q : K → K → Bool)
    (once : (k : K) (x y : X) → r x y ≡ true → same k x ≡ true → same k y ≡ true → ⊥)
    (apart : (x y : X) → r x y ≡ true → r y x ≡ true → ⊥)
    (keyed : (k l : K) (x y : X) → q k l ≡ true → same k x ≡ true → same l y ≡ true →
    r x y ≡ true) where
  pub place_of_key : (xs : List X) → AreSorted r xs → (k : K) (v : ℕ) (x : X) →
      slice_get xs v ≡ Some x → is_number (position (same k) xs) v ≡ same k x
  place_of_key xs a k v x e = same_tests (is_number (position (same k) xs) v) (same k x) there back
    where
      there : is_number (position (same k) xs) v ≡ true → same k x ≡ true
      there h = let p = position_at (same k) xs v (is_number_Some (position (same k) xs) v h) in
          subst (λ z. same k z ≡ true) (same_Some p.0 x (sym p.1 ∙ e)) p.2

      none_before : same k x ≡ true → (j : ℕ) → j < v → same k (get_or xs j x) ≡ false
      none_before h j l =
          none (same k (get_or xs j x))
          (λ g. once k (get_or xs j x) x
          (sorted_at r xs j v (get_or xs j x) x a
          (slice_get-get_or xs j x (omega (arith, l, slice_get_within xs v x e))) e l) g h)
        where
          none : (b : Bool) → (b ≡ true → ⊥) → b ≡ false
          none true f = absurd (f refl)
          none false f = refl

      back : same k x ≡ true → is_number (position (same k) xs) v ≡ true
      back h = ap (λ o. is_number o v) (position_is (same k) xs v x e h (none_before h))
          ∙ eq-eqb v v refl

  places_rise : (xs : List X) → AreSorted r xs → (ks : List K) → AreSorted q ks →
      IsStrictlyIncreasing (filter_map (λ k. position (same k) xs) ks)
  places_rise xs a [] b = λ k l. absurd (omega arith)
  places_rise xs a (k ∷ ks) b = by_place (position (same k) xs) refl (places_rise xs a ks b.1)
    where
      above : (i v : ℕ) → position (same k) xs ≡ Some i →
          is_in (filter_map (λ k. position (same k) xs) ks) v ≡ true → i < v
      above i v e m =
          let f = member (filter_map (λ k. position (same k) xs) ks) v m in
          let g = in_filter_map (λ k. position (same k) xs) ks v f in
          let x = position_at (same k) xs i e in
          let y = position_at (same g.0) xs v g.2 in
          let o : r x.0 y.0 ≡ true = keyed k g.0 x.0 y.0 (b.0 g.0 g.1) x.2 y.2 in
          let same_one : v ≡ i → x.0 ≡ y.0 =
          λ s. same_Some x.0 y.0 (sym x.1 ∙ ap (slice_get xs) (sym s) ∙ y.1) in
          ⊎_elim (λ l. l)
          (λ h. ⊎_elim
          (λ s. absurd
          (apart x.0 y.0 o (subst (λ z. r y.0 z ≡ true) (sym (same_one s))
          (subst (λ z. r z y.0 ≡ true) (same_one s) o))))
          (λ ne. absurd
          (apart x.0 y.0 o (sorted_at r xs v i y.0 x.0 a y.1 x.1 (omega (arith, h, ne)))))
          (cases_eq v i)) (cases_lt i v)
        where
          member : (ns : List ℕ) (v : ℕ) → is_in ns v ≡ true → In v ns
          member [] v m = absurd (false≢true m)
          member (n ∷ ns) v m =
              ⊎_elim (λ e. inl e) (λ f. inr (member ns v f)) (is_in_cases n v ns m)

      by_place : (o : Option ℕ) → position (same k) xs ≡ o →
          IsStrictlyIncreasing (filter_map (λ k. position (same k) xs) ks) →
          IsStrictlyIncreasing (cons_option o (filter_map (λ k. position (same k) xs) ks))
      by_place None e h = h
      by_place (Some i) e h =
          increasing_cons i (filter_map (λ k. position (same k) xs) ks) (λ v m. above i v e m) h

  -- the numbers of the elements that have one of the keys
  pub numbers_of_keys : (xs : List X) → AreSorted r xs → (ks : List K) → AreSorted q ks →
      (test : X → Bool) → ((x : X) → In x xs → test x ≡ list_any (λ k. same k x) ks) →
      filter (λ n. option_map_or test (slice_get xs n) false) (range_with_len 0 (length xs))
      ≡ filter_map (λ k. position (same k) xs) ks
  numbers_of_keys xs a ks b test h =
      same_rising _ _ (IsStrictlyIncreasing-filter (λ n. option_map_or test (slice_get xs n) false)
      (range_with_len 0 (length xs)) (increasing_range 0 (length xs))) (places_rise xs a ks b)
      (λ v. ⊎_elim (within v) (past v) (cases_lt v (length xs)))
    where
      found : (ys : List X) (v : ℕ) → v < length ys → (x : X) × (slice_get ys v ≡ Some x)
      found [] v l = absurd (omega arith)
      found (y ∷ ys) v l = (get_or (y ∷ ys) v y, slice_get-get_or (y ∷ ys) v y l)

      within : (v : ℕ) → v < length xs →
          is_in (filter (λ n. option_map_or test (slice_get xs n) false)
          (range_with_len 0 (length xs))) v ≡ is_in (filter_map (λ k. position (same k) xs) ks) v
      within v l =
          let x = found xs v l in
          is_in-below (λ n. option_map_or test (slice_get xs n) false) (length xs) v l
          ∙ ap (λ o. option_map_or test o false) x.1 ∙ h x.0 (in_at xs v x.0 x.1)
          ∙ sym (is_in-filter_map (λ k. position (same k) xs) ks v
          ∙ any_same (λ k. is_number (position (same k) xs) v) (λ k. same k x.0) ks
          (λ k. place_of_key xs a k v x.0 x.1))

      none : (b : Bool) → (b ≡ true → ⊥) → b ≡ false
      none true f = absurd (f refl)
      none false f = refl

      past : (v : ℕ) → length xs ≤ v →
          is_in (filter (λ n. option_map_or test (slice_get xs n) false)
          (range_with_len 0 (length xs))) v ≡ is_in (filter_map (λ k. position (same k) xs) ks) v
      past v l =
          none _ (λ m. let k = is_in-range 0 (length xs) v
          (and_parts (is_in (range_with_len 0 (length xs)) v) _
          (sym (is_in-filter (λ n. option_map_or test (slice_get xs n) false)
          (range_with_len 0 (length xs)) v) ∙ m)).0 in omega (arith, k.1, l))
          ∙ sym (none _
          (λ m. let k = any_number (sym (is_in-filter_map (λ k. position (same k) xs) ks v)
          ∙ m) in omega (arith, k, l)))
        where
          any_number : list_any (λ k. is_number (position (same k) xs) v) ks ≡ true → v < length xs
          any_number m =
              let k = any_in (λ k. is_number (position (same k) xs) v) ks m in
              let p = position_at (same k.0) xs v (is_number_Some (position (same k.0) xs) v k.2) in
              slice_get_within xs v p.0 p.1
