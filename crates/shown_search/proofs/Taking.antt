-- A search with a tree and a matched pair brought to the front is as sound as before.
use Rattle.std.proofs.Common.{◌≡◌, ℕ, ◌*◌, List, [], ◌∷◌, ◌++◌, sym, ap, ◌∙◌, arith, subst, ◌⊎◌, inl, inr}
use Rattle.std.specs.Prelude.{ℤ, pos}
use Rattle.std.proofs.lemmas.Int.{ints}
use Rattle.matching_model.specs.Sums.{int_sum_by}
use Rattle.matching_model.specs.Blossoms.{IsTight}
use Rattle.matching_model.specs.Forests.{Mate, Tree, Search, AreTrees, AreMates, IsTree, IsSet, IsSound, heft, tree_sum, turns_left}
use Rattle.matching_model.proofs.IntSums.{int_sum_by-cons, int_sum_by-append}
use Rattle.matching_model.proofs.Augmenting.{sound_same}
use Rattle.matching_model.proofs.FreeSteps.{low_tree}
use Rattle.matching_model.proofs.Shrinking.{tight_turn}
use Rattle.matching_laws.specs.StepLaws.{IsNext, forest}
use Rattle.matching_laws.proofs.Closing.{shrink_law}
use Rattle.matching_laws.proofs.Hanging.{grow_law}
use Rattle.matching_laws.proofs.Opening.{expand_law}
use Rattle.matching_laws.proofs.Turning.{augment_law}
use Rattle.shown_search.specs.Growing.{MateFirst, TreeFirst, turned}
use Rattle.shown_search.specs.Taken.{AugmentTakenLaw, ExpandTakenLaw, GrowTakenLaw, ShrinkTakenLaw, from_first}
use Rattle.shown_search.proofs.Fronts.{mate_first_sum, tree_first_sum}

-- any sum over the trees
sum_first : (f : Tree → ℤ) (ts : List Tree) (tree : Tree) (trees : List Tree) →
    TreeFirst ts tree trees → int_sum_by f (tree ∷ trees) ≡ int_sum_by f ts
sum_first f ts tree trees k =
    let a : int_sum_by f ts ≡ int_sum_by f (k.before ++ tree ∷ k.behind) =
    ap (int_sum_by f) k.whole in
    let b : int_sum_by f trees ≡ int_sum_by f (k.before ++ k.behind) = ap (int_sum_by f) k.rest in
    omega (
      arith,
      ints,
      a,
      b,
      int_sum_by-append f k.before (tree ∷ k.behind),
      int_sum_by-append f k.before k.behind,
      int_sum_by-cons f tree k.behind,
      int_sum_by-cons f tree trees,
    )

module _ (dist : ℕ → ℕ → ℕ) where
  trees_part : (t : ℤ) (before : List Tree) (tree : Tree) (behind : List Tree) →
      AreTrees dist t (before ++ tree ∷ behind) → IsTree dist t tree × AreTrees dist t
      (before ++ behind)
  trees_part t [] tree behind h = h
  trees_part t (x ∷ before) tree behind h = let j = trees_part t before tree behind h.1 in
      (j.0, (h.0, j.1))

  trees_front : (t : ℤ) (ts : List Tree) (tree : Tree) (trees : List Tree) →
      TreeFirst ts tree trees → AreTrees dist t ts → AreTrees dist t (tree ∷ trees)
  trees_front t ts tree trees f h =
      let j = trees_part t f.before tree f.behind (subst (AreTrees dist t) f.whole h) in
      (j.0, subst (AreTrees dist t) (sym f.rest) j.1)

  abbrev IsPair : Mate → Type 0
  IsPair p = IsSet dist p.one × IsSet dist p.two × IsTight dist p.one p.at_one p.two p.at_two

  mates_part : (before : List Mate) (p : Mate) (behind : List Mate) →
      AreMates dist (before ++ p ∷ behind) → IsPair p × AreMates dist (before ++ behind)
  mates_part [] p behind h = h
  mates_part (x ∷ before) p behind h = let j = mates_part before p behind h.1 in (j.0, (h.0, j.1))

  module _ (turn : (u v : ℕ) → dist u v ≡ dist v u) where
    turned_pair : (p q : Mate) → (p ≡ q) ⊎ (p ≡ turned q) → IsPair q → IsPair p
    turned_pair p q (inl e) h = subst IsPair (sym e) h
    turned_pair p q (inr e) h = subst IsPair (sym e) (
      h.1,
      h.0,
      tight_turn dist turn q.one q.at_one q.two q.at_two h.2,
    )

    mates_front : (ps : List Mate) (p : Mate) (mates : List Mate) → MateFirst ps p mates →
        AreMates dist ps → AreMates dist (p ∷ mates)
    mates_front ps p mates f h =
        let j = mates_part f.before f.same f.behind (subst (AreMates dist) f.whole h) in
        (turned_pair p f.same f.either j.0, subst (AreMates dist) (sym f.rest) j.1)

    -- ---- a step at the front is one of the search
    next_from : (n : ℕ) (s front s' : Search) → turns_left n front ≡ turns_left n s →
        IsNext dist n front s' → IsNext dist n s s'
    next_from n s front s' e k = record {
      sound = k.sound;
      fewer = let f = k.fewer in
          omega (arith, ints, e, f);
    }

    tree_turns : (n : ℕ) (s : Search) (tree : Tree) (trees : List Tree) →
        TreeFirst s.trees tree trees → turns_left n (forest (tree ∷ trees) s.mates) ≡ turns_left n s
    tree_turns n s tree trees f =
        let a = sum_first (λ (t : Tree). pos (3 * n)) s.trees tree trees f in
        let b = sum_first low_tree s.trees tree trees f in
        omega (arith, ints, a, b)

    pub tree_sound : (n : ℕ) (s : Search) (tree : Tree) (trees : List Tree) →
        TreeFirst s.trees tree trees → IsSound dist n s →
        IsSound dist n (forest (tree ∷ trees) s.mates)
    tree_sound n s tree trees f h =
        sound_same dist n s (forest (tree ∷ trees) s.mates) h
        (λ m. let a = tree_first_sum m s.trees tree trees f in
        omega (arith, ints, a)) (trees_front h.rise s.trees tree trees f h.trees) h.mates

    mate_turns : (n : ℕ) (trees : List Tree) (ps : List Mate) (p : Mate) (mates : List Mate) →
        MateFirst ps p mates → turns_left n (forest trees (p ∷ mates))
        ≡ turns_left n (forest trees ps)
    mate_turns n trees ps p mates f = let a = mate_first_sum heft ps p mates f in
        omega (arith, ints, a)

    mate_sound : (n : ℕ) (trees : List Tree) (ps : List Mate) (p : Mate) (mates : List Mate) →
        MateFirst ps p mates → IsSound dist n (forest trees ps) →
        IsSound dist n (forest trees (p ∷ mates))
    mate_sound n trees ps p mates f h =
        sound_same dist n (forest trees ps) (forest trees (p ∷ mates)) h
        (λ m. let a = mate_first_sum m ps p mates f in
        omega (arith, ints, a)) h.trees (mates_front ps p mates f h.mates)

    behind_turns : (n : ℕ) (one : Tree) (ts : List Tree) (ps : List Mate) (tree : Tree)
        (trees : List Tree) → TreeFirst ts tree trees →
        turns_left n (forest (one ∷ tree ∷ trees) ps) ≡ turns_left n (forest (one ∷ ts) ps)
    behind_turns n one ts ps tree trees f =
        let a = sum_first (λ (t : Tree). pos (3 * n)) ts tree trees f in
        let b = sum_first low_tree ts tree trees f in
        omega (
          arith,
          ints,
          a,
          b,
          int_sum_by-cons (λ (t : Tree). pos (3 * n)) one (tree ∷ trees),
          int_sum_by-cons (λ (t : Tree). pos (3 * n)) one ts,
          int_sum_by-cons low_tree one (tree ∷ trees),
          int_sum_by-cons low_tree one ts,
        )

    behind_sound : (n : ℕ) (one : Tree) (ts : List Tree) (ps : List Mate) (tree : Tree)
        (trees : List Tree) → TreeFirst ts tree trees → IsSound dist n (forest (one ∷ ts) ps) →
        IsSound dist n (forest (one ∷ tree ∷ trees) ps)
    behind_sound n one ts ps tree trees f h =
        sound_same dist n (forest (one ∷ ts) ps) (forest (one ∷ tree ∷ trees) ps) h
        (λ m. let a = tree_first_sum m ts tree trees f in
        omega (
          arith,
          ints,
          a,
          int_sum_by-cons (tree_sum m) one (tree ∷ trees),
          int_sum_by-cons (tree_sum m) one ts,
        ))
        (h.trees.0, trees_front h.rise ts tree trees f h.trees.1) h.mates

pub grow_taken : GrowTakenLaw
grow_taken dist turn n s s' u v h g tight =
    subst (IsNext dist n s) (sym g.after)
    (next_from dist turn n s (forest (g.tree ∷ g.trees) (g.pair ∷ g.mates)) _
    (mate_turns dist turn n (g.tree ∷ g.trees) s.mates g.pair g.mates g.mate_first
    ∙ tree_turns dist turn n s g.tree g.trees g.tree_first)
    (grow_law dist n g.tree g.trees g.pair g.mates g.outer u v g.place tight
    (mate_sound dist turn n (g.tree ∷ g.trees) s.mates g.pair g.mates g.mate_first
    (tree_sound dist turn n s g.tree g.trees g.tree_first h))))

pub augment_taken : AugmentTakenLaw
augment_taken dist turn n s s' u w h g tight =
    subst (IsNext dist n s) (sym g.after)
    (next_from dist turn n s (forest (g.one ∷ g.two ∷ g.trees) s.mates) _
    (behind_turns dist turn n g.one g.others s.mates g.two g.trees g.two_first
    ∙ tree_turns dist turn n s g.one g.others g.one_first)
    (augment_law dist n g.one g.two g.trees s.mates g.first g.second u w g.place g.other_place tight
    (behind_sound dist turn n g.one g.others s.mates g.two g.trees g.two_first
    (tree_sound dist turn n s g.one g.others g.one_first h))))

pub shrink_taken : ShrinkTakenLaw
shrink_taken dist turn n s s' u w h g tight =
    subst (IsNext dist n s) (sym g.after)
    (next_from dist turn n s (forest (g.tree ∷ g.trees) s.mates) _
    (tree_turns dist turn n s g.tree g.trees g.tree_first)
    (shrink_law dist turn n g.tree g.trees s.mates g.first g.second (from_first g.sense u w).0
    (from_first g.sense u w).1 g.places g.sense tight
    (tree_sound dist turn n s g.tree g.trees g.tree_first h)))

pub expand_taken : ExpandTakenLaw
expand_taken dist turn n s s' v h g =
    subst (IsNext dist n s) (sym g.after)
    (next_from dist turn n s (forest (g.tree ∷ g.trees) s.mates) _
    (tree_turns dist turn n s g.tree g.trees g.tree_first)
    (expand_law dist turn n g.tree g.trees s.mates g.sides g.out g.into g.place g.parted
    (tree_sound dist turn n s g.tree g.trees g.tree_first h)))
