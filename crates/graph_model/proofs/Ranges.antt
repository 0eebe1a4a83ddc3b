-- The numbers from a on, as they become more.
use Rattle.std.proofs.Common.{◌≡◌, ℕ, zero, suc, ◌+◌, ◌<◌, Bool, cond, List, [], ◌∷◌, ◌++◌, ap, ◌∙◌, refl, sym, arith, append-nil, count_by, flat_map, map, length, get_or, zero-add}
use Rattle.std.specs.List.{range_with_len}
use Rattle.std.proofs.lemmas.List.{map-id}
use Rattle.std.proofs.lemmas.List.Concat.{flat_map-append}
use Rattle.std.proofs.lemmas.List.FromFn.{map-range_with_len_more, length-map-range_with_len, get_or-map-range_with_len}
use Rattle.std.proofs.lemmas.List.Sums.{sum_by_push}

pub range_more : (a n : ℕ) → range_with_len a (n + 1) ≡ range_with_len a n ++ (a + n) ∷ []
range_more a n =
    let kept = λ (k : ℕ). map-id (range_with_len a k) in
    sym (kept (n + 1)) ∙ map-range_with_len_more (λ (x : ℕ). x) a n (a + n) (omega arith)
    ∙ ap (λ xs. xs ++ (a + n) ∷ []) (kept n)

pub below_more : (n : ℕ) → range_with_len 0 (n + 1) ≡ range_with_len 0 n ++ n ∷ []
below_more n = range_more 0 n ∙ ap (λ k. range_with_len 0 n ++ k ∷ []) (zero-add n)

pub flat_map_next : {X : Type 0} (f : ℕ → List X) (n : ℕ) → flat_map f (range_with_len 0 (n + 1))
    ≡ flat_map f (range_with_len 0 n) ++ f n
flat_map_next f n =
    ap (flat_map f) (below_more n) ∙ flat_map-append f (range_with_len 0 n) (n ∷ [])
    ∙ ap (λ t. flat_map f (range_with_len 0 n) ++ t) (append-nil (f n))

pub count_next : (p : ℕ → Bool) (n : ℕ) → count_by p (range_with_len 0 (n + 1))
    ≡ count_by p (range_with_len 0 n) + cond (p n) 1 0
count_next p n = ap (count_by p) (below_more n)
    ∙ sum_by_push (λ k. cond (p k) 1 0) (range_with_len 0 n) n

range-append : (a m n : ℕ) → range_with_len a (m + n) ≡ range_with_len a m
    ++ range_with_len (a + m) n
range-append a zero n = let e : a ≡ a + 0 = omega arith in let z : 0 + n ≡ n = omega arith in
    ap (range_with_len a) z ∙ ap (λ k. range_with_len k n) e
range-append a (suc m) n =
    let s : suc m + n ≡ suc (m + n) = omega arith in
    let t : a + 1 + m ≡ a + suc m = omega arith in
    ap (range_with_len a) s ∙ ap (λ xs. a ∷ xs) (range-append (a + 1) m n
    ∙ ap (λ k. range_with_len (a + 1) m ++ range_with_len k n) t)

pub range_split : (m n : ℕ) → range_with_len 0 (m + n) ≡ range_with_len 0 m ++ range_with_len m n
range_split m n = range-append 0 m n
    ∙ ap (λ k. range_with_len 0 m ++ range_with_len k n) (zero-add m)

-- a list by its elements
same_rows : {X : Type 0} (d : X) (xs ys : List X) → length xs ≡ length ys →
    ((k : ℕ) → k < length xs → get_or xs k d ≡ get_or ys k d) → xs ≡ ys
same_rows d [] [] e h = refl
same_rows d [] (y ∷ ys) e h = absurd (omega (arith, e))
same_rows d (x ∷ xs) [] e h = absurd (omega (arith, e))
same_rows d (x ∷ xs) (y ∷ ys) e h = ap (λ z. z ∷ xs) (h 0 (omega arith))
    ∙ ap (λ zs. y ∷ zs) (same_rows d xs ys (omega (arith, e)) (λ k l. h (suc k) (omega (arith, l))))

pub all_rows : {X : Type 0} (d : X) (f : ℕ → X) (n : ℕ) (rows : List X) → length rows ≡ n →
    ((w : ℕ) → w < n → get_or rows w d ≡ f w) → rows ≡ map f (range_with_len 0 n)
all_rows d f n rows e h =
    same_rows d rows (map f (range_with_len 0 n)) (e ∙ sym (length-map-range_with_len f 0 n))
    (λ k l. h k (omega (arith, l, e))
    ∙ sym (get_or-map-range_with_len f 0 n k k d (omega (arith, l, e)) (omega arith)))
