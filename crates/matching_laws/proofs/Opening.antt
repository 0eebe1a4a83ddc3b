-- An inner ring with the number 0 comes apart: an odd way round it stays in the tree, and the
-- other children are matched.
use Rattle.std.proofs.Common.{◌≡◌, ℕ, ◌*◌, ◌%◌, ◌==◌, Bool, true, false, cond, List, [], ◌∷◌, ◌++◌, length, refl, sym, ap, ◌∙◌, arith, subst, length-append, eqb-true, eq-eqb}
use Rattle.std.specs.Prelude.{ℤ, pos, ◌+ℤ◌, ◌≤ℤ◌}
use Rattle.std.proofs.lemmas.Int.{ints}
use Rattle.std.proofs.lemmas.Bool.{true≢false}
use Rattle.matching_model.specs.Sums.{int_sum_by}
use Rattle.matching_model.specs.Matchings.{AreApart}
use Rattle.matching_model.specs.Blossoms.{Side, has, reach, members, side_members, IsTight, Tied, IsClosed, head}
use Rattle.matching_model.specs.Forests.{Branches, leaf, branch, Tree, Measure, of, branch_sum, inner_sum, heft, tree_sum, mate_sum, search_sum, IsSet, IsEven, AreBranches, AreMates, IsInner, here, under, after, crossing, summed, over}
use Rattle.matching_model.proofs.IntSums.{int_sum_by-cons, int_sum_by-append}
use Rattle.matching_model.proofs.Augmenting.{mates_append}
use Rattle.matching_model.proofs.Crossed.{apart_append}
use Rattle.matching_model.proofs.Expanding.{children_of, others_than, ring_heft, ring_some, sets_split, tied_split, totals_join, totals_split}
use Rattle.matching_model.proofs.FreeSteps.{low_tree}
use Rattle.matching_model.proofs.Rings.{EachTotal, summed_shrunk, crossing_shrunk, over_shrunk}
use Rattle.matching_model.proofs.Shrinking.{EachSet, sets_append, side_sum, tied_join, tight_turn}
use Rattle.matching_model.proofs.Slacks.{members_ring, tree_items, tree_items_sum, mate_items, mate_items_sum, sums_apart}
use Rattle.matching_laws.specs.Constructions.{Hold, Opening, Parted, all_but_first, as_inner, chain_back, chain_forth, hold_of, in_place, opened, pair_off}
use Rattle.matching_laws.specs.StepLaws.{ExpandLaw, forest, with_branches}
use Rattle.matching_laws.proofs.Ways.{all_on_fits, all_on_low, all_on_sum, head_append}

module _ (dist : ℕ → ℕ → ℕ) (t : ℤ) where
  -- ---- children as matched pairs
  pair_off_fits : (ss : List Side) (e : Side) → length ss % 2 ≡ 0 → EachSet dist t ss →
      Tied dist ss e → AreMates dist (pair_off ss)
  pair_off_fits [] e even sets tied = tt
  pair_off_fits (s ∷ []) e even sets tied = absurd (omega (arith, even))
  pair_off_fits (s ∷ r ∷ ss) e even sets tied =
      ((sets.0.0, sets.1.0.0, tied.0), pair_off_fits ss e (omega (arith, even)) sets.1.1 tied.1.1)

  pub pair_off_sum : (m : Measure) (ss : List Side) → length ss % 2 ≡ 0 →
      int_sum_by (mate_sum m) (pair_off ss) ≡ side_sum dist m ss
  pair_off_sum m [] even = refl
  pair_off_sum m (s ∷ []) even = absurd (omega (arith, even))
  pair_off_sum m (s ∷ r ∷ ss) even =
      let e = pair_off_sum m ss (omega (arith, even)) in
      omega (
        arith,
        ints,
        e,
        int_sum_by-cons (mate_sum m) (record { one = s; at_one = s.out; two = r; at_two = s.into })
            (pair_off ss),
        int_sum_by-cons (of m) s (r ∷ ss),
        int_sum_by-cons (of m) r ss,
      )

  -- ---- a way that stays in the tree
  -- what hangs on an inner set fits it
  abbrev pub Carries : Side → Hold → Type 0
  Carries q h = (IsSet dist h.outer × IsEven t h.outer) × IsTight dist q h.out h.outer h.mate ×
      AreBranches dist t h.outer h.branches

  chain_forth_fits : (parent : Side) (o i : ℕ) (way : List Side) (q : Side) (h : Hold) →
      length way % 2 ≡ 0 → EachSet dist t way → IsSet dist q × IsEven t q →
      Tied dist way q → IsTight dist parent o (head way q) i → Carries q h →
      AreBranches dist t parent (chain_forth o i way q h)
  chain_forth_fits parent o i [] q h even sets fine tied tight carries =
      (fine, carries.0, tight, carries.1, carries.2, tt)
  chain_forth_fits parent o i (s ∷ []) q h even sets fine tied tight carries =
      absurd (omega (arith, even))
  chain_forth_fits parent o i (s ∷ r ∷ way) q h even sets fine tied tight carries = (
    sets.0,
    sets.1.0,
    tight,
    tied.0,
    chain_forth_fits r r.out r.into way q h
        (omega (arith, even)) sets.1.1 fine tied.1.1 tied.1.0 carries,
    tt,
  )

  pub chain_forth_sum : (m : Measure) (o i : ℕ) (way : List Side) (q : Side) (h : Hold) →
      length way % 2 ≡ 0 →
      branch_sum m (chain_forth o i way q h) ≡ (side_sum dist m way +ℤ of m q) +ℤ
      (of m h.outer +ℤ branch_sum m h.branches)
  chain_forth_sum m o i [] q h even = omega (arith, ints)
  chain_forth_sum m o i (s ∷ []) q h even = absurd (omega (arith, even))
  chain_forth_sum m o i (s ∷ r ∷ way) q h even =
      let e = chain_forth_sum m r.out r.into way q h (omega (arith, even)) in
      omega (arith, ints, e, int_sum_by-cons (of m) s (r ∷ way), int_sum_by-cons (of m) r way)

  chain_forth_low : (o i : ℕ) (way : List Side) (q : Side) (h : Hold) → length way % 2 ≡ 0 →
      inner_sum heft (chain_forth o i way q h)
      ≤ℤ ((side_sum dist heft way +ℤ of heft q) +ℤ inner_sum heft h.branches)
  chain_forth_low o i [] q h even = omega (arith, ints)
  chain_forth_low o i (s ∷ []) q h even = absurd (omega (arith, even))
  chain_forth_low o i (s ∷ r ∷ way) q h even =
      let e = chain_forth_low r.out r.into way q h (omega (arith, even)) in
      omega (
        arith,
        ints,
        e,
        int_sum_by-cons (of heft) s (r ∷ way),
        int_sum_by-cons (of heft) r way,
      )

  -- the child after, with the one before it on it
  abbrev one_back : Side → Side → Hold → Hold
  one_back q b h = record {
    above = h.above;
    at = h.at;
    out = b.into;
    mate = b.out;
    outer = b;
    branches = branch q.into q.out q h.out h.mate h.outer h.branches leaf;
  }

  chain_back_fits : ((u v : ℕ) → dist u v ≡ dist v u) →
      (parent : Side) (way : List Side) (p : Side) (h : Hold) → length way % 2 ≡ 0 →
      EachSet dist t way → IsSet dist p × IsEven t p →
      Tied dist way p → IsTight dist parent h.above p h.at → Carries (head way p) h →
      AreBranches dist t parent (chain_back way p h)
  chain_back_fits turn parent [] p h even sets fine tied tight carries =
      (fine, carries.0, tight, carries.1, carries.2, tt)
  chain_back_fits turn parent (q ∷ []) p h even sets fine tied tight carries =
      absurd (omega (arith, even))
  chain_back_fits turn parent (q ∷ b ∷ way) p h even sets fine tied tight carries =
      chain_back_fits turn parent way p (one_back q b h)
      (omega (arith, even)) sets.1.1 fine tied.1.1 tight (
        sets.1.0,
        tight_turn dist turn b b.out (head way p) b.into tied.1.0,
        (sets.0, carries.0, tight_turn dist turn q q.out b q.into tied.0, carries.1, carries.2, tt),
      )

  pub chain_back_sum : (m : Measure) (way : List Side) (p : Side) (h : Hold) → length way % 2 ≡ 0 →
      branch_sum m (chain_back way p h) ≡ (side_sum dist m way +ℤ of m p) +ℤ
      (of m h.outer +ℤ branch_sum m h.branches)
  chain_back_sum m [] p h even = omega (arith, ints)
  chain_back_sum m (q ∷ []) p h even = absurd (omega (arith, even))
  chain_back_sum m (q ∷ b ∷ way) p h even =
      let e = chain_back_sum m way p (one_back q b h) (omega (arith, even)) in
      omega (arith, ints, e, int_sum_by-cons (of m) q (b ∷ way), int_sum_by-cons (of m) b way)

  chain_back_low : (way : List Side) (p : Side) (h : Hold) → length way % 2 ≡ 0 →
      inner_sum heft (chain_back way p h)
      ≤ℤ ((side_sum dist heft way +ℤ of heft p) +ℤ inner_sum heft h.branches)
  chain_back_low [] p h even = omega (arith, ints)
  chain_back_low (q ∷ []) p h even = absurd (omega (arith, even))
  chain_back_low (q ∷ b ∷ way) p h even =
      let e = chain_back_low way p (one_back q b h) (omega (arith, even)) in
      omega (
        arith,
        ints,
        e,
        int_sum_by-cons (of heft) q (b ∷ way),
        int_sum_by-cons (of heft) b way,
      )

  -- ---- the ring, begun with another child
  round_tied : (before : List Side) (p : Side) (behind : List Side) (first : Side) →
      head (before ++ p ∷ behind) p ≡ first → Tied dist (before ++ p ∷ behind) first →
      (turn : (u v : ℕ) → dist u v ≡ dist v u) → Tied dist (p ∷ (behind ++ before)) p
  round_tied [] p behind first e tied turn = tied_join dist (p ∷ behind) [] p
      (subst (λ x. Tied dist (p ∷ behind) x) (sym e) tied) tt
  round_tied (r ∷ before) p behind first e tied turn =
      let k = tied_split dist turn (r ∷ before) (p ∷ behind) first tied in
      tied_join dist (p ∷ behind) (r ∷ before) p (subst (λ x. Tied dist (p ∷ behind) x)
      (sym e) k.1) k.0

  -- ---- in the tree
  -- the inner set and what hangs on it fit the set above
  abbrev pub Hangs : Side → Side → Hold → Type 0
  Hangs parent x h = (IsSet dist x × IsEven t x) × IsTight dist parent h.above x h.at × Carries x h

  in_place_fits : (parent : Side) (bs : Branches) (x : Side) (q : IsInner bs x) (new : Branches) →
      AreBranches dist t parent bs →
      ((above : Side) → Hangs above x (hold_of bs x q) → AreBranches dist t above new) →
      AreBranches dist t parent (in_place bs x q new)
  in_place_fits parent leaf x q new h fits = elim q [ ]
  in_place_fits parent (branch o i inner a b outer sub rest) x here new h fits =
      all_on_fits dist t parent new rest (fits parent (h.0, h.2, (h.1, h.3, h.4))) h.5
  in_place_fits parent (branch o i inner a b outer sub rest) x (under q) new h fits =
      (h.0, h.1, h.2, h.3, in_place_fits outer sub x q new h.4 fits, h.5)
  in_place_fits parent (branch o i inner a b outer sub rest) x (after q) new h fits =
      (h.0, h.1, h.2, h.3, h.4, in_place_fits parent rest x q new h.5 fits)

pub in_place_sum : (m : Measure) (bs : Branches) (x : Side) (q : IsInner bs x) (new : Branches) →
    branch_sum m (in_place bs x q new) +ℤ (of m x +ℤ
    (of m (hold_of bs x q).outer +ℤ branch_sum m (hold_of bs x q).branches))
    ≡ branch_sum m bs +ℤ branch_sum m new
in_place_sum m leaf x q new = elim q [ ]
in_place_sum m (branch o i inner a b outer sub rest) x here new =
    omega (arith, ints, all_on_sum m new rest)
in_place_sum m (branch o i inner a b outer sub rest) x (under q) new = let e =
    in_place_sum m sub x q new in omega (arith, ints, e)
in_place_sum m (branch o i inner a b outer sub rest) x (after q) new = let e =
    in_place_sum m rest x q new in omega (arith, ints, e)

in_place_low : (m : Measure) (bs : Branches) (x : Side) (q : IsInner bs x) (new : Branches) →
    inner_sum m (in_place bs x q new) +ℤ (of m x +ℤ inner_sum m (hold_of bs x q).branches)
    ≡ inner_sum m bs +ℤ inner_sum m new
in_place_low m leaf x q new = elim q [ ]
in_place_low m (branch o i inner a b outer sub rest) x here new =
    omega (arith, ints, all_on_low m new rest)
in_place_low m (branch o i inner a b outer sub rest) x (under q) new = let e =
    in_place_low m sub x q new in omega (arith, ints, e)
in_place_low m (branch o i inner a b outer sub rest) x (after q) new = let e =
    in_place_low m rest x q new in omega (arith, ints, e)

module _ (dist : ℕ → ℕ → ℕ) (turn : (u v : ℕ) →
    dist u v ≡ dist v u) (t : ℤ) (ss : List Side) (a b : ℕ) (h : Hold) where
  abbrev x : Side
  x = as_inner ss a b

  -- what becomes of the ring fits, and keeps all sums
  record Opens (new : Opening) : Type 0 where
    fits : (parent : Side) → Hangs dist t parent x h → AreBranches dist t parent new.branches
    mates : AreMates dist new.mates
    same : (m : Measure) → branch_sum m new.branches +ℤ int_sum_by (mate_sum m) new.mates
        ≡ side_sum dist m ss +ℤ (of m h.outer +ℤ branch_sum m h.branches)
    low : (inner_sum heft new.branches +ℤ int_sum_by (mate_sum heft) new.mates)
        ≤ℤ (side_sum dist heft ss +ℤ inner_sum heft h.branches)

  module _ (upper : Side) (hangs : has upper h.at) (upper_same : reach x h.at ≡ reach upper h.at)
      (lower : Side) (holds : has lower h.out) (lower_same : reach x h.out
      ≡ reach lower h.out) where
    above_tight : (parent : Side) → IsTight dist parent h.above x h.at →
        IsTight dist parent h.above upper h.at
    above_tight parent k = record {
      in_one = k.in_one;
      in_two = hangs;
      tight = let e = k.tight in
          omega (arith, ints, e, upper_same);
    }

    carries_lower : Carries dist t x h → Carries dist t lower h
    carries_lower k = (
      k.0,
      record {
        in_one = holds;
        in_two = k.1.in_two;
        tight = let e = k.1.tight in omega (arith, ints, e, lower_same);
      },
      k.2,
    )

    opens_forth : (way beyond : List Side) → head way lower ≡ upper → length way % 2 ≡ 0 →
        length beyond % 2 ≡ 0 → EachSet dist t way → EachSet dist t (lower ∷ beyond) →
        Tied dist way lower →
        Tied dist (lower ∷ beyond) upper → ((m : Measure) →
        side_sum dist m ss ≡ side_sum dist m way +ℤ (of m lower +ℤ side_sum dist m beyond)) →
        Opens (record { branches = chain_forth h.above h.at way lower h; mates = pair_off beyond })
    opens_forth way beyond first even left sets more tied tied_more sum = record {
      fits = λ parent k.
          chain_forth_fits dist t parent h.above h.at way lower h even sets more.0 tied
          (subst (λ s. IsTight dist parent h.above s h.at) (sym first)
          (above_tight parent k.1)) (carries_lower k.2);
      mates = pair_off_fits dist t beyond upper left more.1 tied_more.1;
      same = λ m. let e = chain_forth_sum dist t m h.above h.at way lower h even in
          let f = pair_off_sum dist t m beyond left in
          let g = sum m in
          omega (arith, ints, e, f, g);
      low =
          let e = chain_forth_low dist t h.above h.at way lower h even in
          let f = pair_off_sum dist t heft beyond left in
          let g = sum heft in
          omega (arith, ints, e, f, g);
    }

    opens_back : (way beyond : List Side) → length way % 2 ≡ 0 → length (lower ∷ beyond) % 2 ≡ 0 →
        EachSet dist t (upper ∷ way) → EachSet dist t (lower ∷ beyond) →
        Tied dist (upper ∷ way) lower →
        Tied dist (lower ∷ beyond) upper → ((m : Measure) →
        side_sum dist m ss ≡ (of m upper +ℤ side_sum dist m way) +ℤ side_sum dist m
        (lower ∷ beyond)) →
        Opens (record { branches = chain_back (lower ∷ beyond) upper h; mates = pair_off way })
    opens_back way beyond left even sets more tied tied_more sum = record {
      fits = λ parent k. chain_back_fits dist t turn parent
          (lower ∷ beyond) upper h even more sets.0 tied_more (above_tight parent k.1)
          (carries_lower k.2);
      mates = pair_off_fits dist t way lower left sets.1 tied.1;
      same = λ m. let e = chain_back_sum dist t m (lower ∷ beyond) upper h even in
          let f = pair_off_sum dist t m way left in
          let g = sum m in
          omega (arith, ints, e, f, g);
      low =
          let e = chain_back_low dist t (lower ∷ beyond) upper h even in
          let f = pair_off_sum dist t heft way left in
          let g = sum heft in
          omega (arith, ints, e, f, g);
    }

  -- the ring, begun with its upper child
  record IsRound (upper : Side) (ring : List Side) : Type 0 where
    tied : Tied dist ring upper
    odd : length ring % 2 ≡ 1
    sets : EachSet dist t ring
    totals : EachTotal dist ring (reach x)
    sum : (m : Measure) → side_sum dist m ring ≡ side_sum dist m ss

  opens_at : (upper : Side) (rest way : List Side) (lower : Side) (beyond : List Side) →
      upper ∷ rest ≡ way ++ lower ∷ beyond → has upper h.at → has lower h.out →
      IsRound upper (way ++ lower ∷ beyond) → (forwards : Bool) → length way % 2 == 0 ≡ forwards →
      Opens (cond forwards (record {
        branches = chain_forth h.above h.at way lower h;
        mates = pair_off beyond;
      }) (record {
        branches = chain_back (lower ∷ beyond) upper h;
        mates = pair_off (all_but_first way);
      }))
  opens_at upper rest way lower beyond round hangs holds k true e =
      let even : length way % 2 ≡ 0 = eqb-true (length way % 2) 0 e in
      let odd = k.odd in
      let sets = sets_split dist turn t way (lower ∷ beyond) k.sets in
      let tied = tied_split dist turn way (lower ∷ beyond) upper k.tied in
      let totals = totals_split dist turn way (lower ∷ beyond) (reach x) k.totals in
      let first : head way lower ≡ upper = sym (head_append way lower beyond upper)
      ∙ sym (ap (λ xs. head xs upper) round) in
      opens_forth upper hangs (first_total upper rest
      (subst (λ xs. EachTotal dist xs (reach x)) (sym round) k.totals) hangs) lower holds
      (totals.1.0 h.out holds) way beyond
      first even (omega (
        arith,
        even,
        odd,
        length-append way
            (lower ∷ beyond),
      )) sets.0 sets.1 tied.0 tied.1
      (λ m. let s = k.sum m in omega (
        arith,
        ints,
        s,
        int_sum_by-append (of m) way (lower ∷ beyond),
        int_sum_by-cons (of m) lower beyond,
      ))
    where
      first_total : (s : Side) (rest : List Side) → EachTotal dist (s ∷ rest) (reach x) →
          has s h.at → reach x h.at ≡ reach s h.at
      first_total s rest totals m = totals.0 h.at m
  opens_at upper rest [] lower beyond round hangs holds k false e =
      absurd (true≢false (sym (eq-eqb 0 0 refl) ∙ e))
  opens_at upper rest (p ∷ way) lower beyond round hangs holds k false e =
      let ne : length (p ∷ way) % 2 ≡ 0 →
      ⊥ = (λ z. true≢false (sym (eq-eqb (length (p ∷ way) % 2) 0 z) ∙ e)) in
      let odd = k.odd in
      let is_upper : p ≡ upper = ap (λ xs. head xs upper) (sym round) in
      let sets = sets_split dist turn t (p ∷ way) (lower ∷ beyond) k.sets in
      let tied = tied_split dist turn (p ∷ way) (lower ∷ beyond) upper k.tied in
      let totals = totals_split dist turn (p ∷ way) (lower ∷ beyond) (reach x) k.totals in
      opens_back upper hangs (subst (λ s. has s h.at →
      reach x h.at ≡ reach s h.at) is_upper (totals.0.0 h.at) hangs) lower holds
      (totals.1.0 h.out holds) way beyond
      (omega (arith, ne)) (omega (arith, ne, odd, length-append (p ∷ way) (lower ∷ beyond)))
      (subst (λ s. EachSet dist t (s ∷ way)) is_upper sets.0) sets.1
      (subst (λ s. Tied dist (s ∷ way) lower) is_upper tied.0) tied.1
      (λ m. let s = k.sum m in
      let same : of m p ≡ of m upper = ap (of m) is_upper in
      omega (
        arith,
        ints,
        s,
        same,
        int_sum_by-append (of m) (p ∷ way) (lower ∷ beyond),
        int_sum_by-cons (of m) p way,
      ))

  opens : AreApart (side_members ss) → IsSet dist x × IsEven t x → (k : Parted ss h) →
      Opens (opened ss h k)
  opens apart fine k =
      opens_at k.upper (k.behind ++ k.before) k.way k.lower k.beyond k.round k.hangs k.holds
      (subst (IsRound k.upper) k.round round) (length k.way % 2 == 0) refl
    where
      children : EachSet dist t ss × IsClosed dist ss × EachTotal dist ss (reach x)
      children = children_of dist turn t ss a b apart fine.0 fine.1

      closed_facts : (xs : List Side) → IsClosed dist xs → (d : Side) →
          (length xs % 2 ≡ 1) × Tied dist xs (head xs d)
      closed_facts [] c d = absurd c
      closed_facts (s ∷ xs) c d = (c.0, c.1)

      facts : (length (k.before ++ k.upper ∷ k.behind) % 2 ≡ 1) × Tied dist
          (k.before ++ k.upper ∷ k.behind) (head (k.before ++ k.upper ∷ k.behind) k.upper)
      facts = closed_facts (k.before ++ k.upper ∷ k.behind)
          (subst (IsClosed dist) k.whole children.1) k.upper

      round : IsRound k.upper (k.upper ∷ (k.behind ++ k.before))
      round = record {
        tied = round_tied dist t k.before k.upper k.behind
            (head (k.before ++ k.upper ∷ k.behind) k.upper) refl facts.1 turn;
        odd = let e = facts.0 in omega (
          arith,
          e,
          length-append k.before (k.upper ∷ k.behind),
          length-append k.behind k.before,
        );
        sets = let s = sets_split dist turn t k.before (k.upper ∷ k.behind)
            (subst (EachSet dist t) k.whole children.0) in
            sets_append dist t (k.upper ∷ k.behind) k.before s.1 s.0;
        totals =
            let s = totals_split dist turn k.before (k.upper ∷ k.behind) (reach x)
            (subst (λ xs. EachTotal dist xs (reach x)) k.whole children.2) in
            totals_join dist turn (k.upper ∷ k.behind) k.before (reach x) s.1 s.0;
        sum = λ m. let e : side_sum dist m ss ≡ side_sum dist m (k.before ++ k.upper ∷ k.behind) =
            ap (side_sum dist m) k.whole in
            omega (
              arith,
              ints,
              e,
              int_sum_by-append (of m) (k.upper ∷ k.behind) k.before,
              int_sum_by-append (of m) k.before (k.upper ∷ k.behind),
            );
      }

-- the inner set and what hangs on it, where its branches fit
set_there : (dist : ℕ → ℕ → ℕ) (t : ℤ) (parent : Side) (bs : Branches) (x : Side)
    (q : IsInner bs x) → AreBranches dist t parent bs → IsSet dist x × IsEven t x
set_there dist t parent leaf x q h = elim q [ ]
set_there dist t parent (branch o i inner a b outer sub rest) x here h = h.0
set_there dist t parent (branch o i inner a b outer sub rest) x (under q) h =
    set_there dist t outer sub x q h.4
set_there dist t parent (branch o i inner a b outer sub rest) x (after q) h =
    set_there dist t parent rest x q h.5

pub expand_law : ExpandLaw
expand_law dist turn n tree trees mates ss a b q k h = record {
  sound = record {
    rise = h.rise;
    risen = h.risen;
    bounded = kept (over h.rise) (over_shrunk ss h.rise h.risen) ∙ h.bounded;
    trees = (
      (
        h.trees.0.0,
        in_place_fits dist h.rise tree.root tree.branches x q new.branches h.trees.0.1
            (λ above hangs. found.fits above hangs),
        h.trees.0.2,
      ),
      h.trees.1,
    );
    mates = mates_append dist new.mates mates found.mates h.mates;
    covers = λ f. kept (summed f) (summed_shrunk ss f) ∙ h.covers f;
    slack = λ u v ne lu lv. let a = h.slack u v ne lu lv in
        let e = kept (crossing u v) (crossing_shrunk ss u v) in omega (arith, ints, a, e);
  };
  fewer =
      let e = found.low in
      let f = ring_heft dist turn ss
      (ring_some dist turn h.rise tree.root tree.branches ss a b h.trees.0.1 q) in
      let g = in_place_low heft tree.branches x q new.branches in
      omega (
        arith,
        ints,
        e,
        f,
        g,
        int_sum_by-append (mate_sum heft) new.mates mates,
        int_sum_by-cons (λ (t : Tree). pos (3 * n)) tree trees,
        int_sum_by-cons (λ (t : Tree). pos (3 * n)) more trees,
        int_sum_by-cons low_tree tree trees,
        int_sum_by-cons low_tree more trees,
      );
}
  where
    x : Side
    x = as_inner ss a b

    hold : Hold
    hold = hold_of tree.branches x q

    new : Opening
    new = opened ss hold k

    more : Tree
    more = with_branches tree (in_place tree.branches x q new.branches)

    beside_x : (others : List Side) × ((m : Measure) →
        of m x +ℤ side_sum dist m others ≡ branch_sum m tree.branches)
    beside_x = others_than dist turn tree.branches x q

    others : List Side
    others = tree.root ∷ (beside_x.0 ++ (tree_items trees ++ mate_items mates))

    all_sum : (m : Measure) → side_sum dist m (x ∷ others)
        ≡ search_sum m (forest (tree ∷ trees) mates)
    all_sum m =
        let e = beside_x.1 m in
        omega (
          arith,
          ints,
          e,
          int_sum_by-cons (of m) x others,
          int_sum_by-cons (of m) tree.root (beside_x.0 ++ (tree_items trees ++ mate_items mates)),
          int_sum_by-append (of m) beside_x.0 (tree_items trees ++ mate_items mates),
          int_sum_by-append (of m) (tree_items trees) (mate_items mates),
          tree_items_sum m trees,
          mate_items_sum m mates,
          int_sum_by-cons (tree_sum m) tree trees,
        )

    apart : AreApart (side_members ss)
    apart = subst AreApart (members_ring ss) (apart_append (members x.body) (side_members others)
        (sums_apart dist n (x ∷ others) (λ f. all_sum (summed f) ∙ h.covers f))).0

    found : Opens dist turn h.rise ss a b hold new
    found = opens dist turn h.rise ss a b hold apart
        (set_there dist h.rise tree.root tree.branches x q h.trees.0.1) k

    kept : (m : Measure) → of m x ≡ int_sum_by (of m) ss →
        search_sum m (forest (more ∷ trees) (new.mates ++ mates))
        ≡ search_sum m (forest (tree ∷ trees) mates)
    kept m same =
        let e = found.same m in
        let f = in_place_sum m tree.branches x q new.branches in
        omega (
          arith,
          ints,
          e,
          f,
          same,
          int_sum_by-cons (tree_sum m) tree trees,
          int_sum_by-cons (tree_sum m) more trees,
          int_sum_by-append (mate_sum m) new.mates mates,
        )
