-- What a dual change does to a pair or a set that is chosen: it is without slack, or without
-- number, where it stood before.
use Rattle.std.proofs.Common.{◌≡◌, ℕ, ◌*◌, List, [], ◌∷◌, ◌++◌, ap, arith, ⊎_elim, inl, inr}
use Rattle.std.specs.Prelude.{ℤ, pos, ◌+ℤ◌, neg_ℤ}
use Rattle.std.proofs.lemmas.Int.{ints}
use Rattle.matching_model.specs.Blossoms.{Side, IsTight, has, reach}
use Rattle.matching_model.specs.Forests.{Branches, leaf, branch, Mark, Outer, Inner, Away, Tree, marked_branches, marked_trees, moved_branches, moved_by, moved_trees, shift}
use Rattle.matching_model.proofs.Events.{Entry, IsAt, at_split}

-- ---- entries of lists end to end
pub at_left : (a : Entry) (xs ys : List Entry) → IsAt a xs → IsAt a (xs ++ ys)
at_left a [] ys h = absurd h
at_left a (x ∷ xs) ys (inl e) = inl e
at_left a (x ∷ xs) ys (inr h) = inr (at_left a xs ys h)

pub at_right : (a : Entry) (xs ys : List Entry) → IsAt a ys → IsAt a (xs ++ ys)
at_right a [] ys h = h
at_right a (x ∷ xs) ys h = inr (at_right a xs ys h)

module _ (change : ℤ) where
  -- an entry of a tree after the change
  abbrev pub moved_entry : Entry → Entry
  moved_entry a = (a.0, moved_by (shift change a.0) a.1)

  pub at_moved_branches : (a : Entry) (bs : Branches) → IsAt a (marked_branches bs) →
      IsAt (moved_entry a) (marked_branches (moved_branches change bs))
  at_moved_branches a leaf h = absurd h
  at_moved_branches a (branch o i inner u w outer sub rest) (inl e) = inl (ap moved_entry e)
  at_moved_branches a (branch o i inner u w outer sub rest) (inr (inl e)) =
      inr (inl (ap moved_entry e))
  at_moved_branches a (branch o i inner u w outer sub rest) (inr (inr h)) = inr (inr (⊎_elim
      (λ l. at_left (moved_entry a) (marked_branches (moved_branches change sub))
      (marked_branches (moved_branches change rest)) (at_moved_branches a sub l))
      (λ r. at_right (moved_entry a) (marked_branches (moved_branches change sub))
      (marked_branches (moved_branches change rest)) (at_moved_branches a rest r))
      (at_split a (marked_branches sub) (marked_branches rest) h)))

  pub at_moved_trees : (a : Entry) (ts : List Tree) → IsAt a (marked_trees ts) →
      IsAt (moved_entry a) (marked_trees (moved_trees change ts))
  at_moved_trees a [] h = absurd h
  at_moved_trees a (t ∷ ts) (inl e) = inl (ap moved_entry e)
  at_moved_trees a (t ∷ ts) (inr h) = inr (⊎_elim
      (λ l. at_left (moved_entry a) (marked_branches (moved_branches change t.branches))
      (marked_trees (moved_trees change ts)) (at_moved_branches a t.branches l))
      (λ r. at_right (moved_entry a) (marked_branches (moved_branches change t.branches))
      (marked_trees (moved_trees change ts)) (at_moved_trees a ts r))
      (at_split a (marked_branches t.branches) (marked_trees ts) h))

-- the chosen pair is without slack where both numbers are changed by what it had
pub tight_after : (dist : ℕ → ℕ → ℕ) (one two : ℤ) (x y : Side) (u w : ℕ) → has x u → has y w →
    (reach x u +ℤ reach y w) +ℤ (one +ℤ two) ≡ pos (2 * dist u w) →
    IsTight dist (moved_by one x) u (moved_by two y) w
tight_after dist one two x y u w in_x in_y slack =
    record { in_one = in_x; in_two = in_y; tight = omega (arith, ints, slack) }

-- and the chosen inner set is without number
pub none_after : (change : ℤ) (x : Side) → x.number ≡ change →
    (moved_by (shift change Inner) x).number ≡ pos 0
none_after change x e = omega (arith, ints, e)
