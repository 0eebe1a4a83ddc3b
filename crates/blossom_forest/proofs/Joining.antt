-- The sets of a ring are joined down one way and up another.
use Rattle.std.proofs.Common.{◌≡◌, ℕ, suc, ◌+◌, ◌-◌, ◌<◌, List, [], ◌∷◌, ◌++◌, drop, length, reverse, take, refl, sym, ap, ◌∙◌, subst, arith, add-one}
use Rattle.std.specs.Prelude.{slice_index, slice_index_or, slice_set}
use Rattle.std.specs.List.{AllByRecursion}
use Rattle.std.proofs.Math.Seq.{drop-cons}
use Rattle.std.proofs.lemmas.List.{take-append-drop}
use Rattle.link_lists.specs.Lists.{IsApart}
use Rattle.blossom_nest.specs.Nests.{IsOutermost, IsShrunk, Nested}
use Rattle.blossom_forest.specs.Trees.{EndAlike, Forested, IsClosed, joined_down, joined_round, joined_up, last_down, ring_over, ringed, tie_by, tie_up, turned, way_from}
use Rattle.blossom_forest.specs.declared.step.Mark.{Mark}
use Rattle.blossom_forest.specs.declared.step.Mark.TheVariants.{Outer, Inner, Away}
use Rattle.blossom_forest.specs.declared.step.Tie.{Tie}

abbrev pub with_joint : Forested → List Tie → Forested
with_joint t joint = record t { joint = joint }

tie_with : (m : Mark) (t : Forested) (joint : List Tie) (c : ℕ) →
    tie_by m (with_joint t joint) c ≡ tie_by m t c
tie_with Outer t joint c = refl
tie_with Inner t joint c = refl
tie_with Away t joint c = refl

-- ties up don't change with the joints
module _ (t now : Forested) (same : now ≡ with_joint t now.joint) where
  same_tie : (c : ℕ) → tie_up now c ≡ tie_up t c
  same_tie c = ap (λ (z : Forested). tie_up z c) same
      ∙ tie_with (slice_index_or t.mark c Outer) t now.joint c

  pub up_same : (joint : List Tie) (way : List ℕ) → joined_up now joint way ≡ joined_up t joint way
  up_same joint [] = refl
  up_same joint (c ∷ way) =
      ap (λ z. joined_up now (slice_set joint c z) way) (same_tie c)
      ∙ up_same (slice_set joint c (tie_up t c)) way

  module _ (new : Forested) (joint : List Tie) (e : new ≡ with_joint now joint) where
    pub same_still : new ≡ with_joint t new.joint
    same_still = e ∙ ap (λ z. with_joint z joint) same
        ∙ ap (with_joint t) (sym (ap (λ (z : Forested). z.joint) e))

  module _ (new : Forested) (xs : List ℕ) (at c : ℕ) (low : at < length xs)
      (is : c ≡ slice_index xs at) where
    next : drop at xs ≡ c ∷ drop (at + 1) xs
    next = drop-cons xs at 0 low
        ∙ ap (λ z. z ∷ drop (suc at) xs) (sym is)
        ∙ ap (λ n. c ∷ drop n xs) (sym (add-one at))

    pub more_down : (above : ℕ) →
        new ≡ with_joint now (slice_set now.joint above (turned (tie_up now c))) →
        joined_down t new.joint c (drop (at + 1) xs) ≡ joined_down t now.joint above (drop at xs)
    more_down above e =
        ap (λ j. joined_down t j c (drop (at + 1) xs)) (ap (λ (z : Forested). z.joint) e
        ∙ ap (λ z. slice_set now.joint above (turned z)) (same_tie c))
        ∙ sym (ap (joined_down t now.joint above) next)

    pub last_more : (above : ℕ) → last_down c (drop (at + 1) xs) ≡ last_down above (drop at xs)
    last_more above = sym (ap (last_down above) next)

    pub more_up : new ≡ with_joint now (slice_set now.joint c (tie_up now c)) →
        joined_up t new.joint (drop (at + 1) xs) ≡ joined_up t now.joint (drop at xs)
    more_up e =
        ap (λ j. joined_up t j (drop (at + 1) xs)) (ap (λ (z : Forested). z.joint) e
        ∙ ap (slice_set now.joint c) (same_tie c))
        ∙ sym (ap (joined_up t now.joint) next)

-- down, over the tie, and up
pub round_whole : (t down over up : Forested) (common last : ℕ) (one two : List ℕ) (tie : Tie) →
    down ≡ with_joint t (joined_down t t.joint common (reverse one)) →
    last ≡ last_down common (reverse one) →
    over ≡ with_joint down (slice_set down.joint last tie) →
    up ≡ with_joint over (joined_up over over.joint two) →
    up ≡ with_joint t (joined_round t common one two tie)
round_whole t down over up common last one two tie d is o u =
    u ∙ ap (λ z. with_joint z (joined_up over over.joint two)) over_t
    ∙ ap (with_joint t) (up_same t over over_t over.joint two
    ∙ ap (λ j. joined_up t j two) (ap (λ (z : Forested). z.joint) o
    ∙ ap (λ j. slice_set j last tie) (ap (λ (z : Forested). z.joint) d)
    ∙ ap (λ l. slice_set (joined_down t t.joint common (reverse one)) l tie) is))
  where
    down_t : down ≡ with_joint t down.joint
    down_t = same_still t t refl down (joined_down t t.joint common (reverse one)) d

    over_t : over ≡ with_joint t over.joint
    over_t = same_still t down down_t over (slice_set down.joint last tie) o

-- ---- where two ways meet
cut_at : (xs : List ℕ) (n : ℕ) → n < length xs →
    xs ≡ take n xs ++ slice_index xs n ∷ drop (suc n) xs
cut_at xs n low = sym (take-append-drop n xs) ∙ ap (λ z. take n xs ++ z) (drop-cons xs n 0 low)

module _ (one two : List ℕ) (count : ℕ) (alike : EndAlike one two count)
    (some : count ≡ 0 → ⊥) where
  low_one : length one - count < length one
  low_one = let a = alike.first in omega (arith, a, some)

  low_two : length two - count < length two
  low_two = let a = alike.second in omega (arith, a, some)

  pub above_both : List ℕ
  above_both = drop (suc (length one - count)) one

  parts_same : slice_index two (length two - count) ∷ drop (suc (length two - count)) two
      ≡ slice_index one (length one - count) ∷ drop (suc (length one - count)) one
  parts_same = sym (drop-cons two (length two - count) 0 low_two) ∙ sym alike.same
      ∙ drop-cons one (length one - count) 0 low_one

  pub meets_one : one ≡ take (length one - count) one
      ++ slice_index one (length one - count) ∷ above_both
  unfolding above_both
  meets_one = cut_at one (length one - count) low_one

  pub meets_two : two ≡ take (length two - count) two
      ++ slice_index one (length one - count) ∷ above_both
  unfolding above_both
  meets_two = cut_at two (length two - count) low_two
      ∙ ap (λ z. take (length two - count) two ++ z) parts_same

pub closes : (old new middle : Forested) (nest next : Nested) (u w set : ℕ)
    (path other first second ring : List ℕ) (count common : ℕ) →
    path ≡ way_from old nest u → other ≡ way_from old nest w → EndAlike path other count →
    (count ≡ 0 → ⊥) → common ≡ slice_index path (length path - count) →
    first ≡ take (length path - count) path → second ≡ take (length other - count) other →
    ring ≡ ring_over common first second → IsApart ring → AllByRecursion (IsOutermost nest) ring →
    IsShrunk nest ring set next →
    middle ≡ with_joint old (joined_round old common first second
    (record { here = u; there = w })) →
    new ≡ ringed middle common set → IsClosed old nest u w set new next
closes old new middle nest next u w set path other first second ring count common one two alike
    some top left right round apart outer made joined after = record {
      common = common;
      first = first;
      second = second;
      above = above_both path other count alike some;
      first_whole = sym one ∙ meets_one path other count alike some
          ∙ ap (λ z. z ++ slice_index path (length path - count)
          ∷ above_both path other count alike some) (sym left)
          ∙ ap (λ z. first ++ z ∷ above_both path other count alike some) (sym top);
      second_whole = sym two ∙ meets_two path other count alike some
          ∙ ap (λ z. z ++ slice_index path (length path - count)
          ∷ above_both path other count alike some) (sym right)
          ∙ ap (λ z. second ++ z ∷ above_both path other count alike some) (sym top);
      apart = subst IsApart round apart;
      outermost_each = subst (AllByRecursion (IsOutermost nest)) round outer;
      shrunk = subst (λ (z : List ℕ). IsShrunk nest z set next) round made;
      after = after ∙ ap (λ (z : Forested). ringed z common set) joined;
    }
