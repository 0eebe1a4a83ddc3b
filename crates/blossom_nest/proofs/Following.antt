-- The child that follows a child is of the same set.
use Rattle.std.proofs.Common.{Option, None, Some, Bool, true, false, cond, ◌≡◌, ◌≢◌, ◌<◌, ◌==◌, ℕ, List, [], ◌∷◌, subst, arith}
use Rattle.graph_model.specs.Graph.{is_in}
use Rattle.graph_model.proofs.Members.{is_in_first, is_in_rest}
use Rattle.link_lists.specs.Lists.{after, first}
use Rattle.blossom_nest.specs.Nests.{IsNest, Nested, children_of, next_in, no_set, parent_of}

first_in : (xs : List ℕ) (y : ℕ) → first xs ≡ Some y → is_in xs y ≡ true
first_in [] y e = let n : ⊥ = cc in absurd n
first_in (x ∷ xs) y e = let k : x ≡ y = cc in
    subst (λ z. is_in (x ∷ xs) z ≡ true) k (is_in_first x xs)

after_in : (x : ℕ) (xs : List ℕ) (y : ℕ) → after x xs ≡ Some y → is_in xs y ≡ true
after_in x [] y e = let n : ⊥ = cc in absurd n
after_in x (z ∷ zs) y e = by (z == x) (after_in x zs y) e
  where
    by : (b : Bool) → (after x zs ≡ Some y → is_in zs y ≡ true) → cond b (first zs) (after x zs)
        ≡ Some y → is_in (z ∷ zs) y ≡ true
    by true more k = is_in_rest z y zs (first_in zs y k)
    by false more k = is_in_rest z y zs (more k)

next_is_in : (x : ℕ) (xs : List ℕ) (y : ℕ) → next_in x xs ≡ Some y → is_in xs y ≡ true
next_is_in x xs y e = by (after x xs) (after_in x xs y) e
  where
    by : (o : Option ℕ) → (o ≡ Some y → is_in xs y ≡ true) →
        (elim o as (λ _. Option ℕ) [ None ↦ first xs | Some z ↦ Some z ]) ≡ Some y →
        is_in xs y ≡ true
    by None more k = first_in xs y k
    by (Some z) more k = more k

-- the next child is a set, and of the same parent
pub follows : (s : Nested) → IsNest s → (c p y : ℕ) → c < no_set s → p ≡ parent_of s c →
    p ≢ no_set s → next_in c (children_of s p) ≡ Some y → (y < no_set s) × (parent_of s y ≡ p)
follows s n c p y lt is inside e =
    let range = n.parents c lt in
    n.listed p y (record { from = omega (arith, range.0); below = omega (arith, range.1) })
    (next_is_in c (children_of s p) y e)
