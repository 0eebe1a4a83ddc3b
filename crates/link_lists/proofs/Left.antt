-- What an iterator over the nodes of a list has left.
use Rattle.std.proofs.Common.{◌≡◌, ◌≢◌, ℕ, ◌==◌, ◌||◌, Bool, true, false, cond, Option, None, Some, List, [], ◌∷◌, refl, sym, ap, ◌∙◌, arith}
use Rattle.std.proofs.lemmas.Bool.Decides.{nat_tests}
use Rattle.std.specs.List.{list_any}
use Rattle.link_lists.specs.Lists.{after, first, left_from, IsApart, Lacks}
use Rattle.link_lists.specs.Chains.{StandsIn}

same_test : (x : ℕ) → (x == x) ≡ true
same_test x = grind (arith, nat_tests)

other_test : (x y : ℕ) → x ≢ y → (x == y) ≡ false
other_test x y n = grind (arith, nat_tests)

-- a node of the rest isn't the first
left_past : (y z : ℕ) (ys : List ℕ) → y ≢ z → left_from (Some z) (y ∷ ys) ≡ left_from (Some z) ys
left_past y z ys n = rw (other_test y z n) refl

member_differs : (y z : ℕ) (ys : List ℕ) → Lacks y ys → list_any (λ v. v == z) ys ≡ true → y ≢ z
member_differs y z [] l t = absurd (cc)
member_differs y z (v ∷ vs) l t = pick (v == z) refl (λ e. member_differs y z vs l.1 (rw e at t))
  where
    pick : (b : Bool) → (v == z) ≡ b → ((v == z) ≡ false → y ≢ z) → y ≢ z
    pick true e later = λ f. let same : v ≡ z = grind (arith, nat_tests) in l.0 (same ∙ sym f)
    pick false e later = later e

or_true : (b : Bool) → (b || true) ≡ true
or_true true = refl
or_true false = refl

-- the node, if there is one, is of the list
abbrev pub IsMember : Option ℕ → List ℕ → Type 0
IsMember None xs = Unit {0}
IsMember (Some x) xs = list_any (λ y. y == x) xs ≡ true

-- the node after one of the list is of the list
pub after_stands : (x : ℕ) (xs : List ℕ) → IsMember (after x xs) xs
after_stands x [] = tt
after_stands x (y ∷ ys) = pick (y == x) refl (longer (after x ys) (after_stands x ys))
  where
    longer : (o : Option ℕ) → IsMember o ys → IsMember o (y ∷ ys)
    longer None h = tt
    longer (Some z) h = rw h (or_true (y == z))

    start : (zs : List ℕ) → ys ≡ zs → IsMember (first zs) (y ∷ zs)
    start [] e = tt
    start (z ∷ zs) e = rw (same_test z) (or_true (y == z))

    pick : (b : Bool) → (y == x) ≡ b → IsMember (after x ys) (y ∷ ys) →
        IsMember (cond b (first ys) (after x ys)) (y ∷ ys)
    pick true e later = start ys refl
    pick false e later = later

-- the node comes first, and then what is left from the one after it
pub left_step : (x : ℕ) (xs : List ℕ) → IsApart xs → list_any (λ y. y == x) xs ≡ true →
    left_from (Some x) xs ≡ x ∷ left_from (after x xs) xs
left_step x [] a t = absurd (cc)
left_step x (y ∷ ys) a t = pick (y == x) refl (λ e. left_step x ys a.1 (rw e at t))
  where
    rest : (zs : List ℕ) → IsApart (y ∷ zs) → left_from (first zs) (y ∷ zs) ≡ zs
    rest [] b = refl
    rest (z ∷ zs) b = left_past y z (z ∷ zs) (λ e. b.0.0 (sym e)) ∙ rw (same_test z) refl

    skip : (o : Option ℕ) → IsMember o ys → left_from o (y ∷ ys) ≡ left_from o ys
    skip None h = refl
    skip (Some z) h = left_past y z ys (member_differs y z ys a.0 h)

    pick : (b : Bool) → (y == x) ≡ b →
        ((y == x) ≡ false → left_from (Some x) ys ≡ x ∷ left_from (after x ys) ys)
        → cond b (y ∷ ys) (left_from (Some x) ys)
        ≡ x ∷ left_from (cond b (first ys) (after x ys)) (y ∷ ys)
    pick true e later = let same : y ≡ x = grind (arith, nat_tests) in ap (λ v. v ∷ ys) same
        ∙ ap (λ vs. x ∷ vs) (sym (rest ys a))
    pick false e later = later e ∙ ap (λ vs. x ∷ vs) (sym (skip (after x ys) (after_stands x ys)))

pub stands : (o : Option ℕ) (xs : List ℕ) → IsApart xs → IsMember o xs → StandsIn o xs
stands None xs a m = a
stands (Some x) xs a m = (a, m)
