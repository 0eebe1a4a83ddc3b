-- The ways between the top of a tree and an outer set.
use Rattle.std.proofs.Common.{◌≡◌, ℕ, ◌%◌, [], ◌∷◌, ◌++◌, List, length, refl, sym, ◌∙◌, arith, subst, length-append}
use Rattle.std.specs.Prelude.{ℤ, ◌+ℤ◌, ◌≤ℤ◌}
use Rattle.std.proofs.lemmas.Int.{ints}
use Rattle.matching_model.specs.Blossoms.{Side, IsTight, Tied, head}
use Rattle.matching_model.specs.Forests.{Branches, leaf, branch, Measure, of, branch_sum, inner_sum, heft, IsSet, IsEven, AreBranches, IsOuter, root, below, beside}
use Rattle.matching_model.proofs.IntSums.{int_sum_by-cons, int_sum_by-append}
use Rattle.matching_model.proofs.Shrinking.{Absorbs, EachAbsorbed, absorbed_append, tight_left, tight_turn, branches_absorbed, EachSet, sets_append, side_sum, tied_join, tight_pairs}
use Rattle.matching_laws.specs.Constructions.{joined, all_on, way_down, way_up, off_way}

pub all_on_sum : (m : Measure) (bs cs : Branches) →
    branch_sum m (all_on bs cs) ≡ branch_sum m bs +ℤ branch_sum m cs
all_on_sum m leaf cs = omega (arith, ints)
all_on_sum m (branch o i inner a b outer sub rest) cs = let k = all_on_sum m rest cs in
    omega (arith, ints, k)

pub all_on_low : (m : Measure) (bs cs : Branches) →
    inner_sum m (all_on bs cs) ≡ inner_sum m bs +ℤ inner_sum m cs
all_on_low m leaf cs = omega (arith, ints)
all_on_low m (branch o i inner a b outer sub rest) cs = let k = all_on_low m rest cs in
    omega (arith, ints, k)

pub head_append : (ps : List Side) (s : Side) (ts : List Side) (d : Side) →
    head (ps ++ s ∷ ts) d ≡ head ps s
head_append [] s ts d = refl
head_append (p ∷ ps) s ts d = refl

-- the top begins the way down, and the outer set the way up
abbrev pub IsFirst : Side → Side → Type 0
IsFirst s t = (c : ℕ) × (d : ℕ) × (s ≡ joined t c d)

pub down_first : (top : Side) (bs : Branches) (x : Side) (q : IsOuter top bs x) (a b : ℕ) →
    IsFirst (head (way_down top bs x q) (joined x a b)) top
down_first top bs x root a b = (a, b, refl)
down_first top (branch o i inner c d outer sub rest) x (below q) a b = (o, i, refl)
down_first top (branch o i inner c d outer sub rest) x (beside q) a b = down_first top rest x q a b

pub up_first : (top : Side) (bs : Branches) (x : Side) (q : IsOuter top bs x) (a b : ℕ) →
    IsFirst (head (way_up top bs x q) (joined top a b)) x
up_first top bs x root a b = (a, b, refl)
up_first top (branch o i inner c d outer sub rest) x (below q) a b =
    let k = up_first outer sub x q d c in (
      k.0,
      k.1,
      head_append (way_up outer sub x q) (joined outer d c) (joined inner i o ∷ [])
          (joined top a b) ∙ k.2,
    )
up_first top (branch o i inner c d outer sub rest) x (beside q) a b = up_first top rest x q a b

pub down_even : (top : Side) (bs : Branches) (x : Side) (q : IsOuter top bs x) →
    length (way_down top bs x q) % 2 ≡ 0
down_even top bs x root = refl
down_even top (branch o i inner c d outer sub rest) x (below q) = let e =
    down_even outer sub x q in omega (arith, e)
down_even top (branch o i inner c d outer sub rest) x (beside q) = down_even top rest x q

pub up_even : (top : Side) (bs : Branches) (x : Side) (q : IsOuter top bs x) →
    length (way_up top bs x q) % 2 ≡ 0
up_even top bs x root = refl
up_even top (branch o i inner c d outer sub rest) x (below q) =
    let e = up_even outer sub x q in
    omega (
      arith,
      e,
      length-append (way_up outer sub x q)
          (joined outer d c ∷ joined inner i o ∷ []),
    )
up_even top (branch o i inner c d outer sub rest) x (beside q) = up_even top rest x q

module _ (dist : ℕ → ℕ → ℕ) where
  pub all_on_fits : (t : ℤ) (r : Side) (bs cs : Branches) → AreBranches dist t r bs →
      AreBranches dist t r cs → AreBranches dist t r (all_on bs cs)
  all_on_fits t r leaf cs h k = k
  all_on_fits t r (branch o i inner a b outer sub rest) cs h k =
      (h.0, h.1, h.2, h.3, h.4, all_on_fits t r rest cs h.5 k)

  -- ---- sums
  pub down_sum : (m : Measure) (top : Side) (bs : Branches) (x : Side) (q : IsOuter top bs x) →
      (side_sum dist m (way_down top bs x q) +ℤ of m x) +ℤ branch_sum m (off_way top bs x q)
      ≡ of m top +ℤ branch_sum m bs
  down_sum m top bs x root = omega (arith, ints)
  down_sum m top (branch o i inner c d outer sub rest) x (below q) =
      let e = down_sum m outer sub x q in
      omega (
        arith,
        ints,
        e,
        int_sum_by-cons (of m) (joined top o i) (joined inner c d ∷ way_down outer sub x q),
        int_sum_by-cons (of m) (joined inner c d) (way_down outer sub x q),
        all_on_sum m (off_way outer sub x q) rest,
      )
  down_sum m top (branch o i inner c d outer sub rest) x (beside q) = let e =
      down_sum m top rest x q in omega (arith, ints, e)

  pub up_sum : (m : Measure) (top : Side) (bs : Branches) (x : Side) (q : IsOuter top bs x) →
      side_sum dist m (way_up top bs x q) +ℤ branch_sum m (off_way top bs x q) ≡ branch_sum m bs
  up_sum m top bs x root = omega (arith, ints)
  up_sum m top (branch o i inner c d outer sub rest) x (below q) =
      let e = up_sum m outer sub x q in
      omega (
        arith,
        ints,
        e,
        int_sum_by-append (of m) (way_up outer sub x q) (joined outer d c ∷ joined inner i o ∷ []),
        int_sum_by-cons (of m) (joined outer d c) (joined inner i o ∷ []),
        int_sum_by-cons (of m) (joined inner i o) [],
        all_on_sum m (off_way outer sub x q) rest,
      )
  up_sum m top (branch o i inner c d outer sub rest) x (beside q) = let e =
      up_sum m top rest x q in omega (arith, ints, e)

  pub off_low : (top : Side) (bs : Branches) (x : Side) (q : IsOuter top bs x) → (t : ℤ) →
      AreBranches dist t top bs →
      inner_sum heft (off_way top bs x q) ≤ℤ inner_sum heft bs
  off_low top bs x root t h = omega (arith, ints)
  off_low top (branch o i inner c d outer sub rest) x (below q) t h =
      let e = off_low outer sub x q t h.4 in omega (
        arith,
        ints,
        e,
        all_on_low heft (off_way outer sub x q) rest,
      )
  off_low top (branch o i inner c d outer sub rest) x (beside q) t h = let e =
      off_low top rest x q t h.5 in omega (arith, ints, e)

  -- ---- what hangs on the way, where one set absorbs the outer sets of the way
  abbrev pub Swallows : (top : Side) (bs : Branches) (x : Side) → IsOuter top bs x → Side → Type 0
  Swallows top bs x root r = Absorbs dist top r
  Swallows top (branch o i inner c d outer sub rest) x (below q) r =
      Absorbs dist top r × Swallows outer sub x q r
  Swallows top (branch o i inner c d outer sub rest) x (beside q) r = Swallows top rest x q r

  pub swallows_top : (top : Side) (bs : Branches) (x : Side) (q : IsOuter top bs x) (r : Side) →
      Swallows top bs x q r → Absorbs dist top r
  swallows_top top bs x root r h = h
  swallows_top top (branch o i inner c d outer sub rest) x (below q) r h = h.0
  swallows_top top (branch o i inner c d outer sub rest) x (beside q) r h =
      swallows_top top rest x q r h

  pub swallows_down : (top : Side) (bs : Branches) (x : Side) (q : IsOuter top bs x) (r : Side) →
      EachAbsorbed dist (way_down top bs x q) r → Absorbs dist x r →
      Swallows top bs x q r
  swallows_down top bs x root r each abs = abs
  swallows_down top (branch o i inner c d outer sub rest) x (below q) r each abs =
      (each.0, swallows_down outer sub x q r each.1.1 abs)
  swallows_down top (branch o i inner c d outer sub rest) x (beside q) r each abs =
      swallows_down top rest x q r each abs

  pub swallows_up : (top : Side) (bs : Branches) (x : Side) (q : IsOuter top bs x) (r : Side) →
      EachAbsorbed dist (way_up top bs x q) r → Absorbs dist top r →
      Swallows top bs x q r
  swallows_up top bs x root r each abs = abs
  swallows_up top (branch o i inner c d outer sub rest) x (below q) r each abs =
      let k = absorbed_append dist (way_up outer sub x q)
      (joined outer d c ∷ joined inner i o ∷ []) r each in
      (abs, swallows_up outer sub x q r k.0 k.1.0)
  swallows_up top (branch o i inner c d outer sub rest) x (beside q) r each abs =
      swallows_up top rest x q r each abs

  module _ (t : ℤ) where
    pub off_fits : (top : Side) (bs : Branches) (x : Side) (q : IsOuter top bs x) (r : Side) →
        Swallows top bs x q r → AreBranches dist t top bs →
        AreBranches dist t r (off_way top bs x q)
    off_fits top bs x root r abs h = branches_absorbed dist t top r bs abs h
    off_fits top (branch o i inner c d outer sub rest) x (below q) r abs h =
        all_on_fits t r (off_way outer sub x q) rest (off_fits outer sub x q r abs.1 h.4)
        (branches_absorbed dist t top r rest abs.0 h.5)
    off_fits top (branch o i inner c d outer sub rest) x (beside q) r abs h = (
      h.0,
      h.1,
      tight_left dist top r o inner i (swallows_top top rest x q r abs) h.2,
      h.3,
      h.4,
      off_fits top rest x q r abs h.5,
    )

    -- ---- the ways themselves
    pub down_sets : (top : Side) (bs : Branches) (x : Side) (q : IsOuter top bs x) →
        IsSet dist top × IsEven t top → AreBranches dist t top bs →
        EachSet dist t (way_down top bs x q)
    down_sets top bs x root fine h = tt
    down_sets top (branch o i inner c d outer sub rest) x (below q) fine h =
        (fine, (h.0, down_sets outer sub x q h.1 h.4))
    down_sets top (branch o i inner c d outer sub rest) x (beside q) fine h =
        down_sets top rest x q fine h.5

    pub up_sets : (top : Side) (bs : Branches) (x : Side) (q : IsOuter top bs x) →
        AreBranches dist t top bs → EachSet dist t (way_up top bs x q)
    up_sets top bs x root h = tt
    up_sets top (branch o i inner c d outer sub rest) x (below q) h =
        sets_append dist t (way_up outer sub x q) (joined outer d c ∷ joined inner i o ∷ [])
        (up_sets outer sub x q h.4) (h.1, (h.0, tt))
    up_sets top (branch o i inner c d outer sub rest) x (beside q) h = up_sets top rest x q h.5

    pub down_tied : (top : Side) (bs : Branches) (x : Side) (q : IsOuter top bs x) (a b : ℕ) →
        AreBranches dist t top bs →
        Tied dist (way_down top bs x q) (joined x a b)
    down_tied top bs x root a b h = tt
    down_tied top (branch o i inner c d outer sub rest) x (below q) a b h =
        let s = down_first outer sub x q a b in (
          tight_pairs dist top o inner i o i c d h.2,
          (
            subst (λ y. IsTight dist (joined inner c d) c y d) (sym s.2)
                (tight_pairs dist inner c outer d c d s.0 s.1 h.3),
            down_tied outer sub x q a b h.4,
          ),
        )
    down_tied top (branch o i inner c d outer sub rest) x (beside q) a b h =
        down_tied top rest x q a b h.5

    pub up_tied : ((u v : ℕ) → dist u v ≡ dist v u) →
        (top : Side) (bs : Branches) (x : Side) (q : IsOuter top bs x) (a b : ℕ) →
        AreBranches dist t top bs →
        Tied dist (way_up top bs x q) (joined top a b)
    up_tied turn top bs x root a b h = tt
    up_tied turn top (branch o i inner c d outer sub rest) x (below q) a b h =
        tied_join dist (way_up outer sub x q) (joined outer d c ∷ joined inner i o ∷ [])
        (joined top a b) (up_tied turn outer sub x q d c h.4) (
          tight_pairs dist outer d inner c d c i o (tight_turn dist turn inner c outer d h.3),
          (tight_pairs dist inner i top o i o a b (tight_turn dist turn top o inner i h.2), tt),
        )
    up_tied turn top (branch o i inner c d outer sub rest) x (beside q) a b h =
        up_tied turn top rest x q a b h.5
