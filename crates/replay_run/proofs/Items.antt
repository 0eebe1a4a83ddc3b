-- An element after a list.
use Rattle.std.proofs.Common.{◌≡◌, ◌⊎◌, inl, inr, ℕ, zero, suc, List, [], ◌∷◌, ◌++◌, length, Some, refl, ap, slice_get}

-- an element of a list with one more is one of the list, or the one more
pub one_of : {X : Type 0} (xs : List X) (y : X) (t : ℕ) (x : X) →
    slice_get (xs ++ y ∷ []) t ≡ Some x → (slice_get xs t ≡ Some x) ⊎ ((t ≡ length xs) × (y ≡ x))
one_of [] y zero x e = inr (refl, let k : y ≡ x = cc in k)
one_of [] y (suc t) x e = absurd cc
one_of (z ∷ xs) y zero x e = inl e
one_of (z ∷ xs) y (suc t) x e = elim (one_of xs y t x e) [
  | inl there ↦ inl there
  | inr last ↦ inr (ap suc last.0, last.1)
]

-- what stands at the end of the front is the first after it
pub first_behind : {X : Type 0} (xs ys : List X) → slice_get (xs ++ ys) (length xs) ≡ slice_get ys 0
first_behind [] ys = refl
first_behind (x ∷ xs) ys = first_behind xs ys
