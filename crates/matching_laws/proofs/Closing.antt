-- A ring that a pair without slack closes becomes one set.
use Rattle.std.proofs.Common.{◌≡◌, ℕ, ◌*◌, ◌<◌, ◌%◌, List, [], ◌∷◌, ◌++◌, length, refl, sym, ap, ◌∙◌, arith, subst, length-append}
use Rattle.std.specs.Prelude.{ℤ, pos, ◌+ℤ◌, ◌≤ℤ◌}
use Rattle.std.specs.List.{range_with_len}
use Rattle.std.proofs.lemmas.Int.{ints}
use Rattle.matching_model.specs.Sums.{int_sum_by}
use Rattle.matching_model.specs.Matchings.{AreApart}
use Rattle.matching_model.specs.Blossoms.{Side, members, side_members, IsTight, Tied, AreSlack, head}
use Rattle.matching_model.specs.Forests.{Branches, leaf, branch, Tree, Measure, of, branch_sum, inner_sum, heft, tree_sum, search_sum, IsSet, IsEven, AreBranches, IsOuter, below, beside, AreTwo, split, both_below, both_beside, crossing, summed, over}
use Rattle.matching_model.proofs.IntSums.{int_sum_by-cons, int_sum_by-append}
use Rattle.matching_model.proofs.Crossed.{apart_append}
use Rattle.matching_model.proofs.FreeSteps.{low_tree}
use Rattle.matching_model.proofs.Growing.{outer_set}
use Rattle.matching_model.proofs.Rings.{each_in_ring, ring_set, summed_shrunk, crossing_shrunk, over_shrunk}
use Rattle.matching_model.proofs.Shrinking.{Absorbs, EachAbsorbed, absorbed_append, EachSet, heft_some, sets_append, side_sum, tied_join, tight_left, tight_pairs, tight_right, tight_turn}
use Rattle.matching_model.proofs.Slacks.{branch_items, branch_items_sum, tree_items, tree_items_sum, mate_items, mate_items_sum, sums_apart, sums_slack, slack_front}
use Rattle.matching_laws.specs.Constructions.{Sense, to_first, to_second, joined, all_on, way_down, way_up, off_way, ring_at, ring_between, top_with, branches_with, as_one, close_ring}
use Rattle.matching_laws.specs.StepLaws.{IsNext, ShrinkLaw, forest}
use Rattle.matching_laws.proofs.Ways.{all_on_fits, all_on_low, all_on_sum, down_even, down_first, down_sets, down_sum, down_tied, head_append, off_fits, off_low, Swallows, swallows_down, swallows_top, swallows_up, up_even, up_first, up_sets, up_sum, up_tied}

module _ (dist : ℕ → ℕ → ℕ) (turn : (u v : ℕ) → dist u v ≡ dist v u) (t : ℤ) where
  -- ---- a ring over two ways from one top
  module _ (top : Side) (bs : Branches) (x : Side) (p : IsOuter top bs x) (y : Side)
      (q : IsOuter top bs y) (u w : ℕ) where
    ring_odd : length (ring_at top bs x p y q u w) % 2 ≡ 1
    ring_odd =
        let e = down_even top bs x p in
        let f = up_even top bs y q in
        omega (arith, e, f, length-append (way_down top bs x p) (joined x u w ∷ way_up top bs y q))

    ring_sets : IsSet dist top × IsEven t top → AreBranches dist t top bs →
        EachSet dist t (ring_at top bs x p y q u w)
    ring_sets fine h =
        sets_append dist t (way_down top bs x p) (joined x u w ∷ way_up top bs y q)
        (down_sets dist t top bs x p fine h)
        (outer_set dist t top bs x fine.0 fine.1 h p, up_sets dist t top bs y q h)

    ring_tied : AreBranches dist t top bs → IsTight dist x u y w →
        Tied dist (ring_at top bs x p y q u w) (head (ring_at top bs x p y q u w) (joined x u w))
    ring_tied h tight =
        let first = down_first top bs x p u w in
        let last = up_first top bs y q first.0 first.1 in
        subst (Tied dist (ring_at top bs x p y q u w))
        (sym (head_append (way_down top bs x p) (joined x u w) (way_up top bs y q)
        (joined x u w) ∙ first.2))
        (tied_join dist (way_down top bs x p) (joined x u w ∷ way_up top bs y q)
        (joined top first.0 first.1) (down_tied dist t top bs x p u w h) (
          subst (λ z. IsTight dist (joined x u w) u z w) (sym last.2)
              (tight_pairs dist x u y w u w last.0 last.1 tight),
          up_tied dist t turn top bs y q first.0 first.1 h,
        ))

  -- ---- the ring in its tree
  record Closed (top : Side) (bs : Branches) (ring : List Side) : Type 0 where
    start : Side
    tied : Tied dist ring (head ring start)
    odd : length ring % 2 ≡ 1
    long : 2 < length ring
    sets : EachSet dist t ring
    others : List Side
    all_of : (m : Measure) → side_sum dist m ring +ℤ side_sum dist m others
        ≡ of m top +ℤ branch_sum m bs

  -- the tree with the set r in place of the ring
  record Rebuilt (top : Side) (bs : Branches) (x y : Side) (two : AreTwo top bs x y)
      (ring : List Side) (r : Side) : Type 0 where
    set : IsSet dist (top_with top bs x y two r) × IsEven t (top_with top bs x y two r)
    fit : AreBranches dist t (top_with top bs x y two r) (branches_with top bs x y two r)
    absorbs : Absorbs dist top (top_with top bs x y two r)
    same : (m : Measure) →
        (of m (top_with top bs x y two r) +ℤ branch_sum m
        (branches_with top bs x y two r)) +ℤ side_sum dist m ring
        ≡ (of m top +ℤ branch_sum m bs) +ℤ of m r
    low : (inner_sum heft (branches_with top bs x y two r) +ℤ pos 1) ≤ℤ inner_sum heft bs

  module _ (top : Side) (o i : ℕ) (inner : Side) (a b : ℕ) (outer : Side) (sub rest : Branches)
      (x y : Side) (p : IsOuter outer sub x) (q : IsOuter top rest y) (u w : ℕ) where
    abbrev whole : Branches
    whole = branch o i inner a b outer sub rest

    first_sum : (m : Measure) → side_sum dist m (ring_at top whole x (below p) y (beside q) u w) +ℤ
        (branch_sum m (off_way top rest y q) +ℤ branch_sum m (off_way outer sub x p))
        ≡ of m top +ℤ branch_sum m whole
    first_sum m =
        let e = down_sum dist m outer sub x p in
        let f = up_sum dist m top rest y q in
        omega (
          arith,
          ints,
          e,
          f,
          int_sum_by-append (of m) (way_down top whole x (below p))
              (joined x u w ∷ way_up top rest y q),
          int_sum_by-cons (of m) (joined top o i) (joined inner a b ∷ way_down outer sub x p),
          int_sum_by-cons (of m) (joined inner a b) (way_down outer sub x p),
          int_sum_by-cons (of m) (joined x u w) (way_up top rest y q),
        )

    second_sum : (m : Measure) →
        side_sum dist m (ring_at top whole y (beside q) x (below p) w u) +ℤ
        (branch_sum m (off_way top rest y q) +ℤ branch_sum m (off_way outer sub x p))
        ≡ of m top +ℤ branch_sum m whole
    second_sum m =
        let e = down_sum dist m top rest y q in
        let f = up_sum dist m outer sub x p in
        omega (
          arith,
          ints,
          e,
          f,
          int_sum_by-append (of m) (way_down top rest y q)
              (joined y w u ∷ way_up top whole x (below p)),
          int_sum_by-cons (of m) (joined y w u) (way_up top whole x (below p)),
          int_sum_by-append (of m) (way_up outer sub x p)
              (joined outer b a ∷ joined inner i o ∷ []),
          int_sum_by-cons (of m) (joined outer b a) (joined inner i o ∷ []),
          int_sum_by-cons (of m) (joined inner i o) [],
        )

    closed_split : (sense : Sense) → IsSet dist top × IsEven t top → AreBranches dist t top whole →
        IsTight dist x u y w →
        Closed top whole (ring_between top whole x y (split p q) sense u w)
    closed_split to_first fine h tight = record {
      start = joined x u w;
      tied = ring_tied top whole x (below p) y (beside q) u w h tight;
      odd = ring_odd top whole x (below p) y (beside q) u w;
      long = omega (
        arith,
        length-append (way_down top whole x (below p))
            (joined x u w ∷ way_up top rest y q),
      );
      sets = ring_sets top whole x (below p) y (beside q) u w fine h;
      others = branch_items (all_on (off_way top rest y q) (off_way outer sub x p));
      all_of = λ m. let e = first_sum m in
          omega (
            arith,
            ints,
            e,
            branch_items_sum m (all_on (off_way top rest y q) (off_way outer sub x p)),
            all_on_sum m (off_way top rest y q) (off_way outer sub x p),
          );
    }
    closed_split to_second fine h tight = record {
      start = joined y w u;
      tied = ring_tied top whole y (beside q) x (below p) w u h
          (tight_turn dist turn x u y w tight);
      odd = ring_odd top whole y (beside q) x (below p) w u;
      long = omega (
        arith,
        length-append (way_down top rest y q) (joined y w u ∷ way_up top whole x (below p)),
        length-append (way_up outer sub x p) (joined outer b a ∷ joined inner i o ∷ []),
      );
      sets = ring_sets top whole y (beside q) x (below p) w u fine h;
      others = branch_items (all_on (off_way top rest y q) (off_way outer sub x p));
      all_of = λ m. let e = second_sum m in
          omega (
            arith,
            ints,
            e,
            branch_items_sum m (all_on (off_way top rest y q) (off_way outer sub x p)),
            all_on_sum m (off_way top rest y q) (off_way outer sub x p),
          );
    }

    -- r absorbs the outer sets of both ways
    swallowed : (sense : Sense) (r : Side) → EachAbsorbed dist
        (ring_between top whole x y (split p q) sense u w) r →
        Swallows dist outer sub x p r × Swallows dist top rest y q r
    swallowed to_first r each =
        let k = absorbed_append dist (way_down top whole x (below p))
        (joined x u w ∷ way_up top rest y q) r each in (
          swallows_down dist outer sub x p r k.0.1.1 k.1.0,
          swallows_up dist top rest y q r k.1.1 k.0.0,
        )
    swallowed to_second r each =
        let k = absorbed_append dist (way_down top rest y q)
        (joined y w u ∷ way_up top whole x (below p)) r each in
        let j = absorbed_append dist (way_up outer sub x p)
        (joined outer b a ∷ joined inner i o ∷ []) r k.1.1 in
        (swallows_up dist outer sub x p r j.0 j.1.0, swallows_down dist top rest y q r k.0 k.1.0)

    pub split_sum : (sense : Sense) (m : Measure) →
        side_sum dist m (ring_between top whole x y (split p q) sense u w) +ℤ
        (branch_sum m (off_way top rest y q) +ℤ branch_sum m (off_way outer sub x p))
        ≡ of m top +ℤ branch_sum m whole
    split_sum to_first m = first_sum m
    split_sum to_second m = second_sum m

    rebuilt_split : (sense : Sense) → AreBranches dist t top whole → (r : Side) → IsSet dist r →
        IsEven t r → EachAbsorbed dist (ring_between top whole x y (split p q) sense u w) r →
        Rebuilt top whole x y (split p q) (ring_between top whole x y (split p q) sense u w) r
    rebuilt_split sense h r set even each =
        let s = swallowed sense r each in
        record {
          set = (set, even);
          fit = all_on_fits dist t r (off_way top rest y q) (off_way outer sub x p)
              (off_fits dist t top rest y q r s.1 h.5) (off_fits dist t outer sub x p r s.0 h.4);
          absorbs = swallows_top dist top rest y q r s.1;
          same = λ m. let e = split_sum sense m in omega (
            arith,
            ints,
            e,
            all_on_sum m (off_way top rest y q) (off_way outer sub x p),
          );
          low =
              let e = off_low dist top rest y q t h.5 in
              let f = off_low dist outer sub x p t h.4 in
              omega (
                arith,
                ints,
                e,
                f,
                all_on_low heft (off_way top rest y q)
                    (off_way outer sub x p),
                heft_some dist inner.body h.0.0.0,
              );
        }

  closed_in : (top : Side) (bs : Branches) (x y : Side) (two : AreTwo top bs x y) (sense : Sense)
      (u w : ℕ) → IsSet dist top × IsEven t top → AreBranches dist t top bs → IsTight dist x u y w →
      Closed top bs (ring_between top bs x y two sense u w)
  closed_in top leaf x y two sense u w fine h tight = elim two [ ]
  closed_in top (branch o i inner a b outer sub rest) x y (split p q) sense u w fine h tight =
      closed_split top o i inner a b outer sub rest x y p q u w sense fine h tight
  closed_in top (branch o i inner a b outer sub rest) x y (both_below k) sense u w fine h tight =
      up (closed_in outer sub x y k sense u w h.1 h.4 tight)
    where
      up : Closed outer sub (ring_between outer sub x y k sense u w) →
          Closed top (branch o i inner a b outer sub rest) (ring_between outer sub x y k sense u w)
      up c = record {
        start = c.start;
        tied = c.tied;
        odd = c.odd;
        long = c.long;
        sets = c.sets;
        others = top ∷ inner ∷ (c.others ++ branch_items rest);
        all_of = λ m. let e = c.all_of m in
            omega (
              arith,
              ints,
              e,
              int_sum_by-cons (of m) top (inner ∷ (c.others ++ branch_items rest)),
              int_sum_by-cons (of m) inner (c.others ++ branch_items rest),
              int_sum_by-append (of m) c.others (branch_items rest),
              branch_items_sum m rest,
            );
      }
  closed_in top (branch o i inner a b outer sub rest) x y (both_beside k) sense u w fine h tight =
      up (closed_in top rest x y k sense u w fine h.5 tight)
    where
      up : Closed top rest (ring_between top rest x y k sense u w) →
          Closed top (branch o i inner a b outer sub rest) (ring_between top rest x y k sense u w)
      up c = record {
        start = c.start;
        tied = c.tied;
        odd = c.odd;
        long = c.long;
        sets = c.sets;
        others = inner ∷ outer ∷ (branch_items sub ++ c.others);
        all_of = λ m. let e = c.all_of m in
            omega (
              arith,
              ints,
              e,
              int_sum_by-cons (of m) inner (outer ∷ (branch_items sub ++ c.others)),
              int_sum_by-cons (of m) outer (branch_items sub ++ c.others),
              int_sum_by-append (of m) (branch_items sub) c.others,
              branch_items_sum m sub,
            );
      }

  rebuilt : (top : Side) (bs : Branches) (x y : Side) (two : AreTwo top bs x y) (sense : Sense)
      (u w : ℕ) → IsSet dist top × IsEven t top → AreBranches dist t top bs →
      (r : Side) → IsSet dist r → IsEven t r → EachAbsorbed dist
      (ring_between top bs x y two sense u w) r → Rebuilt top bs x y two
      (ring_between top bs x y two sense u w) r
  rebuilt top leaf x y two sense u w fine h r set even each = elim two [ ]
  rebuilt top (branch o i inner a b outer sub rest) x y
      (split p q) sense u w fine h r set even each =
      rebuilt_split top o i inner a b outer sub rest x y p q u w sense h r set even each
  rebuilt top (branch o i inner a b outer sub rest) x y
      (both_below k) sense u w fine h r set even each =
      up (rebuilt outer sub x y k sense u w h.1 h.4 r set even each)
    where
      up : Rebuilt outer sub x y k (ring_between outer sub x y k sense u w) r →
          Rebuilt top (branch o i inner a b outer sub rest) x y (both_below k)
          (ring_between outer sub x y k sense u w) r
      up s = record {
        set = fine;
        fit = (
          h.0,
          s.set,
          h.2,
          tight_right dist inner a outer
              (top_with outer sub x y k r) b s.absorbs h.3,
          s.fit,
          h.5,
        );
        absorbs = λ v m. (m, refl);
        same = λ m. let e = s.same m in omega (arith, ints, e);
        low = let e = s.low in omega (arith, ints, e);
      }
  rebuilt top (branch o i inner a b outer sub rest) x y
      (both_beside k) sense u w fine h r set even each =
      up (rebuilt top rest x y k sense u w fine h.5 r set even each)
    where
      up : Rebuilt top rest x y k (ring_between top rest x y k sense u w) r →
          Rebuilt top (branch o i inner a b outer sub rest) x y (both_beside k)
          (ring_between top rest x y k sense u w) r
      up s = record {
        set = s.set;
        fit = (
          h.0,
          h.1,
          tight_left dist top (top_with top rest x y k r) o inner i s.absorbs h.2,
          h.3,
          h.4,
          s.fit,
        );
        absorbs = s.absorbs;
        same = λ m. let e = s.same m in omega (arith, ints, e);
        low = let e = s.low in omega (arith, ints, e);
      }

pub members_append : (ss ts : List Side) → side_members (ss ++ ts)
    ≡ side_members ss ++ side_members ts
members_append [] ts = refl
members_append (s ∷ ss) ts = ap (λ xs. members s.body ++ xs) (members_append ss ts)
    ∙ assoc (members s.body) (side_members ss) (side_members ts)
  where
    assoc : (xs ys zs : List ℕ) → xs ++ (ys ++ zs) ≡ (xs ++ ys) ++ zs
    assoc [] ys zs = refl
    assoc (x ∷ xs) ys zs = ap (λ t. x ∷ t) (assoc xs ys zs)

pub shrink_law : ShrinkLaw
shrink_law dist turn n tree trees mates x y u w two sense tight h =
    finish (rebuilt dist turn h.rise tree.root tree.branches x y two sense u w h.trees.0.0
    h.trees.0.1 r set.0 set.1 (each_in_ring dist ring apart))
  where
    ring : List Side
    ring = ring_between tree.root tree.branches x y two sense u w

    r : Side
    r = as_one ring

    k : Closed dist turn h.rise tree.root tree.branches ring
    k = closed_in dist turn h.rise tree.root tree.branches x y two sense u w h.trees.0.0
        h.trees.0.1 tight

    others : List Side
    others = k.others ++ (tree_items trees ++ mate_items mates)

    all_sum : (m : Measure) → side_sum dist m (ring ++ others)
        ≡ search_sum m (forest (tree ∷ trees) mates)
    all_sum m =
        let e = k.all_of m in
        omega (
          arith,
          ints,
          e,
          int_sum_by-append (of m) ring others,
          int_sum_by-append (of m) k.others (tree_items trees ++ mate_items mates),
          int_sum_by-append (of m) (tree_items trees) (mate_items mates),
          tree_items_sum m trees,
          mate_items_sum m mates,
          int_sum_by-cons (tree_sum m) tree trees,
        )

    covers : (f : ℕ → ℤ) → int_sum_by (of (summed f)) (ring ++ others)
        ≡ int_sum_by f (range_with_len 0 n)
    covers f = all_sum (summed f) ∙ h.covers f

    apart : AreApart (side_members ring)
    apart = (apart_append (side_members ring) (side_members others)
        (subst AreApart (members_append ring others) (sums_apart dist n (ring ++ others) covers))).0

    slack : AreSlack dist ring
    slack = slack_front dist ring others (sums_slack dist n (ring ++ others) covers
        (λ u v ne lu lv. let a = h.slack u v ne lu lv in let e = all_sum (crossing u v) in
        omega (arith, ints, a, e)))

    set : IsSet dist r × IsEven h.rise r
    set = ring_set dist h.rise ring k.start k.sets k.tied k.odd slack k.long apart

    new : Tree
    new = close_ring tree x y two sense u w

    finish : Rebuilt dist turn h.rise tree.root tree.branches x y two ring r →
        IsNext dist n (forest (tree ∷ trees) mates) (forest (new ∷ trees) mates)
    finish b = record {
      sound = record {
        rise = h.rise;
        risen = h.risen;
        bounded = kept (over h.rise) (over_shrunk ring h.rise h.risen) ∙ h.bounded;
        trees = (
          (
            b.set,
            b.fit,
            (let v = h.trees.0.2 in let k = b.absorbs v.0 v.1 in
                (v.0, k.0, k.1 ∙ v.2)),
          ),
          h.trees.1,
        );
        mates = h.mates;
        covers = λ f. kept (summed f) (summed_shrunk ring f) ∙ h.covers f;
        slack = λ u v ne lu lv. let a = h.slack u v ne lu lv in
            let e = kept (crossing u v) (crossing_shrunk ring u v) in omega (arith, ints, a, e);
      };
      fewer = let e = b.low in
          omega (
            arith,
            ints,
            e,
            int_sum_by-cons (λ (t : Tree). pos (3 * n)) tree trees,
            int_sum_by-cons (λ (t : Tree). pos (3 * n)) new trees,
            int_sum_by-cons low_tree tree trees,
            int_sum_by-cons low_tree new trees,
          );
    }
      where
        kept : (m : Measure) → of m r ≡ int_sum_by (of m) ring →
            search_sum m (forest (new ∷ trees) mates) ≡ search_sum m (forest (tree ∷ trees) mates)
        kept m same = let e = b.same m in omega (
          arith,
          ints,
          e,
          same,
          int_sum_by-cons (tree_sum m) tree trees,
          int_sum_by-cons (tree_sum m) new trees,
        )
