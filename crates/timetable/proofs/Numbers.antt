-- The numbers of the lines that pass a test.
use Rattle.std.proofs.Common.{◌≡◌, ◌<◌, ℕ, suc, ◌+◌, ◌==◌, Bool, true, false, cond, ◌||◌, not, refl, sym, ap, ◌∙◌, arith, subst, List, [], ◌∷◌, ◌++◌, All, length, map, filter, take, get_or, zero-add}
use Rattle.std.specs.List.{list_any}
use Rattle.std.proofs.lemmas.List.Elements.{All-cons, All-nil}
use Rattle.std.proofs.Math.Dec.{eqb-suc-zero}
use Rattle.std.proofs.Math.Seq.{get_or-append_seam, take-suc}
use Rattle.std.proofs.lemmas.List.{append_assoc, length-append, length-take-le}
use Rattle.timetable.specs.Times.{numbered, numbers_of}

-- each is the number of a line
numbered_known : {X : Type 0} (n : ℕ) (test : X → Bool) (xs : List X) →
    All (λ k. k < n + length xs) (numbered n test xs)
unfolding numbered
numbered_known n test [] = All-nil (λ k. k < n + 0)
numbered_known n test (x ∷ xs) =
    let e : (n + 1) + length xs ≡ n + suc (length xs) = omega arith in
    by_test (test x) (subst (λ m. All (λ k. k < m) (numbered (n + 1) test xs)) e
    (numbered_known (n + 1) test xs))
  where
    by_test : (t : Bool) → All (λ k. k < n + suc (length xs)) (numbered (n + 1) test xs) → All (λ k.
        k < n + suc (length xs)) (cond t (n ∷ numbered (n + 1) test xs) (numbered (n + 1) test xs))
    by_test true h =
        All-cons (λ k. k < n + suc (length xs)) n (numbered (n + 1) test xs) (omega arith) h
    by_test false h = h

pub numbers_known : {X : Type 0} (test : X → Bool) (xs : List X) →
    All (λ k. k < length xs) (numbers_of test xs)
numbers_known test xs = let e : 0 + length xs ≡ length xs = omega arith in
    subst (λ m. All (λ k. k < m) (numbers_of test xs)) e (numbered_known 0 test xs)

pub nothing : {X : Type 0} (test : X → Bool) → numbers_of test [] ≡ []
unfolding numbered
nothing test = refl

pub no_numbers : {X : Type 0} (test : X → Bool) → length (numbers_of test []) ≡ 0
unfolding numbered
no_numbers test = refl

-- none passes where the list is empty
numbered_none : {X : Type 0} (n : ℕ) (test : X → Bool) (xs : List X) →
    (length (numbered n test xs) == 0) ≡ not (list_any test xs)
unfolding numbered
numbered_none n test [] = refl
numbered_none n test (x ∷ xs) = by_test (test x) (numbered_none (n + 1) test xs)
  where
    by_test : (t : Bool) → (length (numbered (n + 1) test xs) == 0) ≡ not (list_any test xs) →
        (length (cond t (n ∷ numbered (n + 1) test xs) (numbered (n + 1) test xs)) == 0)
        ≡ not (t || list_any test xs)
    by_test true h = eqb-suc-zero (length (numbered (n + 1) test xs))
    by_test false h = h

pub numbers_none : {X : Type 0} (test : X → Bool) (xs : List X) → (length (numbers_of test xs) == 0)
    ≡ not (list_any test xs)
numbers_none test xs = numbered_none 0 test xs

-- the lines of these numbers
map_numbered : {X Y : Type 0} (f : X → Y) (d : X) (test : X →
    Bool) (n : ℕ) (before xs all : List X) → all ≡ before ++ xs → length before ≡ n →
    map (λ k. f (get_or all k d)) (numbered n test xs) ≡ map f (filter test xs)
unfolding numbered
map_numbered f d test n before [] all e l = refl
map_numbered {X = X} {Y = Y} f d test n before (x ∷ xs) all e l =
    by_test (test x) (map_numbered f d test (n + 1) (before ++ x ∷ []) xs all (e
    ∙ sym (append_assoc before (x ∷ []) xs)) (length-append before (x ∷ []) ∙ ap (λ k. k + 1) l))
  where
    here : get_or all n d ≡ x
    here = ap (λ ys. get_or ys n d) e ∙ ap (λ k. get_or (before ++ x ∷ xs) k d) (sym l)
        ∙ get_or-append_seam before x xs d

    by_test : (t : Bool) → map (λ k. f (get_or all k d)) (numbered (n + 1) test xs)
        ≡ map f (filter test xs) →
        map (λ k. f (get_or all k d)) (cond t (n ∷ numbered (n + 1) test xs)
        (numbered (n + 1) test xs)) ≡ map f (cond t (x ∷ filter test xs) (filter test xs))
    by_test true h = ap (λ y. f y ∷ map (λ k. f (get_or all k d)) (numbered (n + 1) test xs)) here
        ∙ ap (λ ys. f x ∷ ys) h
    by_test false h = h

pub map_numbers : {X Y : Type 0} (f : X → Y) (d : X) (test : X → Bool) (xs : List X) →
    map (λ k. f (get_or xs k d)) (numbers_of test xs) ≡ map f (filter test xs)
map_numbers f d test xs = map_numbered f d test 0 [] xs xs refl refl

-- lines that stand for others
numbered_map : {X Y : Type 0} (f : X → Y) (n : ℕ) (test : Y → Bool) (p : X → Bool) (xs : List X) →
    ((x : X) → test (f x) ≡ p x) → numbered n test (map f xs) ≡ numbered n p xs
unfolding numbered
numbered_map f n test p [] h = refl
numbered_map f n test p (x ∷ xs) h =
    ap (λ t. cond t (n ∷ numbered (n + 1) test (map f xs)) (numbered (n + 1) test (map f xs))) (h x)
    ∙ ap (λ ks. cond (p x) (n ∷ ks) ks) (numbered_map f (n + 1) test p xs h)

pub numbers_map : {X Y : Type 0} (f : X → Y) (test : Y → Bool) (p : X → Bool) (xs : List X) →
    ((x : X) → test (f x) ≡ p x) → numbers_of test (map f xs) ≡ numbers_of p xs
numbers_map f test p xs h = numbered_map f 0 test p xs h

-- one more line
numbered_more : {X : Type 0} (n : ℕ) (test : X → Bool) (xs : List X) (x : X) (j : ℕ) → n + length xs
    ≡ j → numbered n test (xs ++ x ∷ []) ≡ numbered n test xs ++ cond (test x) (j ∷ []) []
unfolding numbered
numbered_more n test [] x j e = let k : n ≡ j = omega (arith, e) in
    ap (λ m. cond (test x) (m ∷ []) []) k
numbered_more n test (y ∷ xs) x j e =
    by_test (test y) (numbered_more (n + 1) test xs x j (omega (arith, e)))
  where
    by_test : (t : Bool) → numbered (n + 1) test (xs ++ x ∷ []) ≡ numbered (n + 1) test xs
        ++ cond (test x) (j ∷ []) [] →
        cond t (n ∷ numbered (n + 1) test (xs ++ x ∷ [])) (numbered (n + 1) test (xs ++ x ∷ []))
        ≡ cond t (n ∷ numbered (n + 1) test xs) (numbered (n + 1) test xs)
        ++ cond (test x) (j ∷ []) []
    by_test true h = ap (λ ks. n ∷ ks) h
    by_test false h = h

pub numbers_more : {X : Type 0} (test : X → Bool) (xs : List X) (i : ℕ) (d : X) →
    i < length xs → numbers_of test (take (i + 1) xs) ≡ numbers_of test (take i xs)
    ++ cond (test (get_or xs i d)) (i ∷ []) []
numbers_more test xs i d l =
    let e : i + 1 ≡ suc i = omega arith in
    ap (λ k. numbers_of test (take k xs)) e ∙ ap (numbers_of test) (take-suc xs i d l)
    ∙ numbered_more 0 test (take i xs) (get_or xs i d) i (zero-add (length (take i xs))
    ∙ length-take-le i xs (omega (arith, l)))
