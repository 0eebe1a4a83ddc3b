-- Lists in an order, cut by a test and joined.
use Rattle.std.proofs.Common.{◌≡◌, Bool, true, false, cond, ◌&&◌, ◌||◌, List, [], ◌∷◌, ◌++◌, filter, refl, sym, ap, ◌∙◌}
use Rattle.std.specs.List.{list_any}
use Rattle.graph_model.specs.Orders.{ComesFirst, Rises}

pub first_append : {X : Type 0} (before : X → X → Bool) (x : X) (ys zs : List X) →
    ComesFirst before x ys → ComesFirst before x zs → ComesFirst before x (ys ++ zs)
first_append before x [] zs h k = k
first_append before x (y ∷ ys) zs h k = (h.0, first_append before x ys zs h.1 k)

first_filter : {X : Type 0} (before : X → X → Bool) (test : X → Bool) (x : X) (ys : List X) →
    ComesFirst before x ys → ComesFirst before x (filter test ys)
first_filter before test x [] h = tt
first_filter before test x (y ∷ ys) h = by_test (test y) (first_filter before test x ys h.1)
  where
    by_test : (b : Bool) → ComesFirst before x (filter test ys) →
        ComesFirst before x (cond b (y ∷ filter test ys) (filter test ys))
    by_test true k = (h.0, k)
    by_test false k = k

pub rises_filter : {X : Type 0} (before : X → X → Bool) (test : X → Bool) (xs : List X) →
    Rises before xs → Rises before (filter test xs)
rises_filter before test [] h = tt
rises_filter before test (x ∷ xs) h = by_test (test x) (rises_filter before test xs h.1)
  where
    by_test : (b : Bool) → Rises before (filter test xs) →
        Rises before (cond b (x ∷ filter test xs) (filter test xs))
    by_test true k = (first_filter before test x xs h.0, k)
    by_test false k = k

-- an element stands in what is left by a test, where it passes and stands in the list
pub any_filter : {X : Type 0} (same : X → X → Bool) (is : (x y : X) → same x y ≡ true → x ≡ y)
    (test : X → Bool) (xs : List X) (x : X) →
    list_any (same x) (filter test xs) ≡ test x && list_any (same x) xs
any_filter same is test [] x = none (test x)
  where
    none : (b : Bool) → false ≡ b && false
    none true = refl
    none false = refl
any_filter {X} same is test (y ∷ ys) x =
    chosen (test y) ∙ ap (λ m. cond (test y) (same x y || m) m) (any_filter same is test ys x)
    ∙ by_tests (test y) (same x y) (list_any (same x) ys) (test x) (λ e. ap test (sym (is x y e)))
  where
    chosen : (b : Bool) → list_any (same x) (cond b (y ∷ filter test ys) (filter test ys))
        ≡ cond b (same x y || list_any (same x) (filter test ys))
        (list_any (same x) (filter test ys))
    chosen true = refl
    chosen false = refl

    by_tests : (u here rest v : Bool) → (here ≡ true → u ≡ v) →
        cond u (here || (v && rest)) (v && rest) ≡ v && (here || rest)
    by_tests true true r v h = ap (λ w. w && true) (h refl)
    by_tests true false r v h = refl
    by_tests false true r v h = ap (λ w. w && r) (sym (h refl)) ∙ ap (λ w. w && true) (h refl)
    by_tests false false r v h = refl
