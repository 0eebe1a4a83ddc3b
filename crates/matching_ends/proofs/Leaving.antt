-- The pairs of mates inside a blossom are without slack.
use Rattle.std.proofs.Common.{◌≡◌, ℕ, ◌*◌, ◌||◌, Bool, true, false, List, [], ◌∷◌, ◌++◌, refl, sym, ap, ◌∙◌, arith, subst}
use Rattle.std.specs.Prelude.{ℤ, pos, ◌+ℤ◌}
use Rattle.std.proofs.lemmas.Int.{ints}
use Rattle.std.proofs.lemmas.Bool.{true≢false, false_from_ne_true}
use Rattle.graph_model.specs.Graph.{is_in}
use Rattle.graph_model.proofs.Members.{is_in_first}
use Rattle.matching_model.specs.Sums.{int_sum_by}
use Rattle.matching_model.specs.Matchings.{AreApart}
use Rattle.matching_model.specs.Blossoms.{Blossom, members, total, inner, Side, has, reach, side_members, side_inner, head, ring_of, IsTight, Tied, IsClosed, IsFine}
use Rattle.matching_model.proofs.IntSums.{int_sum_by-cons, int_sum_by-append}
use Rattle.matching_model.proofs.Crossed.{apart_append}
use Rattle.matching_model.proofs.Duality.{Each}
use Rattle.matching_model.proofs.Exposed.{is_in-append, ends_sum, ends_sum-append, ends_sum-cons, cost, cost-append, cost-cons, members_sum-append, side_inner-append, total_at}
use Rattle.matching_model.proofs.Expanding.{tied_split}
use Rattle.matching_model.proofs.Shrinking.{tied_join}
use Rattle.matching_model.proofs.Slacks.{members_ring, sides_ring, total_ring}
use Rattle.matching_ends.specs.Mated.{AreMates, LeavesOut, alone, ring, TwoByTwo, no_more, two_more}

-- every pair is one of mates
abbrev pub EachMated : (ℕ → ℕ) → List (ℕ × ℕ) → Type 0
EachMated mate pairs = Each (λ (p : ℕ × ℕ). AreMates mate p.0 p.1) pairs

pub each_append : {X : Type 0} (P : X → Type 0) (xs ys : List X) → Each P xs → Each P ys →
    Each P (xs ++ ys)
each_append P [] ys a b = b
each_append P (x ∷ xs) ys a b = (a.0, each_append P xs ys a.1 b)

pub members_append : (ss ts : List Side) → side_members (ss ++ ts)
    ≡ side_members ss ++ side_members ts
members_append [] ts = refl
members_append (s ∷ ss) ts = ap (λ xs. members s.body ++ xs) (members_append ss ts)
    ∙ assoc (members s.body) (side_members ss) (side_members ts)
  where
    assoc : (xs ys zs : List ℕ) → xs ++ (ys ++ zs) ≡ (xs ++ ys) ++ zs
    assoc [] ys zs = refl
    assoc (x ∷ xs) ys zs = ap (λ t. x ∷ t) (assoc xs ys zs)

-- what is left out is there
in_middle : (before : List Side) (s : Side) (behind : List Side) (v : ℕ) → has s v →
    is_in (side_members (before ++ s ∷ behind)) v ≡ true
in_middle [] s behind v m = is_in-append (members s.body) (side_members behind) v
    ∙ ap (λ b. b || is_in (side_members behind) v) m
in_middle (r ∷ before) s behind v m =
    is_in-append (members r.body) (side_members (before ++ s ∷ behind)) v
    ∙ ap (λ b. is_in (members r.body) v || b) (in_middle before s behind v m)
    ∙ or_true (is_in (members r.body) v)
  where
    or_true : (b : Bool) → b || true ≡ true
    or_true true = refl
    or_true false = refl

module _ (mate : ℕ → ℕ) where
  pub left_in : (b : Blossom) (v : ℕ) → LeavesOut mate b v → is_in (members b) v ≡ true
  left_in b v (alone) = is_in_first v []
  left_in b v (ring before s behind e l two) =
      subst (λ x. is_in (members x) v ≡ true) (sym e)
      (ap (λ xs. is_in xs v) (members_ring (before ++ s ∷ behind))
      ∙ in_middle before s behind v (left_in s.body v l))

  module _ (dist : ℕ → ℕ → ℕ) where
    -- pairs of mates of all vertices but v, whose distances add up to half of the numbers that
    -- don't hold v
    pub record Exposed (b : Blossom) (v : ℕ) : Type 0 where
      pub pairs : List (ℕ × ℕ)
      pub covered : (f : ℕ → ℤ) → ends_sum f pairs +ℤ f v ≡ int_sum_by f (members b)
      pub tight : pos (2 * cost dist pairs) +ℤ total b v ≡ inner b
      pub mated : EachMated mate pairs

    pub record Paired (ss : List Side) : Type 0 where
      pub pairs : List (ℕ × ℕ)
      pub covered : (f : ℕ → ℤ) → ends_sum f pairs ≡ int_sum_by f (side_members ss)
      pub tight : pos (2 * cost dist pairs) ≡ side_inner ss
      pub mated : EachMated mate pairs

    pub pair_up : (s t : Side) (u w : ℕ) → AreMates mate u w → Exposed s.body u →
        Exposed t.body w → IsTight dist s u t w → (ss : List Side) → Paired ss → Paired (s ∷ t ∷ ss)
    pair_up s t u w mates a b pair ss c = record {
      pairs = (u, w) ∷ (a.pairs ++ (b.pairs ++ c.pairs));
      covered = λ f.
          let x = a.covered f in
          let y = b.covered f in
          let z = c.covered f in
          omega (
            arith,
            ints,
            x,
            y,
            z,
            ends_sum-cons f (u, w) (a.pairs ++ (b.pairs ++ c.pairs)),
            ends_sum-append f a.pairs (b.pairs ++ c.pairs),
            ends_sum-append f b.pairs c.pairs,
            int_sum_by-append f (members s.body) (members t.body ++ side_members ss),
            int_sum_by-append f (members t.body) (side_members ss),
          );
      tight =
          let x = a.tight in
          let y = b.tight in
          let z = pair.tight in
          let q = c.tight in
          omega (
            arith,
            ints,
            x,
            y,
            z,
            q,
            cost-cons dist (u, w) (a.pairs ++ (b.pairs ++ c.pairs)),
            cost-append dist a.pairs (b.pairs ++ c.pairs),
            cost-append dist b.pairs c.pairs,
          );
      mated = (
        mates,
        each_append (λ (p : ℕ × ℕ). AreMates mate p.0 p.1) a.pairs
            (b.pairs ++ c.pairs) a.mated
            (each_append (λ (p : ℕ × ℕ). AreMates mate p.0 p.1) b.pairs c.pairs b.mated c.mated),
      );
    }

    abbrev EachFine : List Side → Type 0
    EachFine [] = Unit {0}
    EachFine (s ∷ ss) = IsFine dist true s.body × EachFine ss

    fine_chain : (ss : List Side) → IsFine dist false (ring_of ss) → EachFine ss
    fine_chain [] fine = tt
    fine_chain (s ∷ ss) fine = (fine.0, fine_chain ss fine.2)

    fine_split : (ss ts : List Side) → EachFine (ss ++ ts) → EachFine ss × EachFine ts
    fine_split [] ts h = (tt, h)
    fine_split (s ∷ ss) ts h = let k = fine_split ss ts h.1 in ((h.0, k.0), k.1)

    fine_join : (ss ts : List Side) → EachFine ss → EachFine ts → EachFine (ss ++ ts)
    fine_join [] ts a b = b
    fine_join (s ∷ ss) ts a b = (a.0, fine_join ss ts a.1 b)

    -- the children of a whole ring
    record OfRing (ss : List Side) : Type 0 where
      fine : EachFine ss
      tied : (d : Side) → Tied dist ss (head ss d)

    of_ring : (ss : List Side) → IsFine dist true (ring_of ss) → OfRing ss
    of_ring [] fine = absurd fine
    of_ring (s ∷ ss) fine = record {
      fine = (fine.0, fine_chain ss fine.2);
      tied = λ d. (subst (λ xs. IsClosed dist (s ∷ xs)) (sides_ring ss) fine.3).1;
    }

    inner_ring : (ss : List Side) → inner (ring_of ss) ≡ side_inner ss
    inner_ring [] = refl
    inner_ring (s ∷ ss) = ap (λ z. (s.number +ℤ inner s.body) +ℤ z) (inner_ring ss)

    -- a ring that is cut at one child: the rest of it is a chain
    turned : (turn : (u v : ℕ) → dist u v ≡ dist v u) (before : List Side) (s : Side)
        (behind : List Side) → Tied dist (before ++ s ∷ behind) (head (before ++ s ∷ behind) s) →
        Tied dist (behind ++ before) s
    turned turn [] s behind tied = tied_join dist behind [] s tied.1 tt
    turned turn (r ∷ before) s behind tied = let k =
        tied_split dist turn (r ∷ before) (s ∷ behind) r tied in
        tied_join dist behind (r ∷ before) s k.1.1 k.0

    abbrev pub EachApart : List Side → Type 0
    EachApart [] = Unit {0}
    EachApart (s ∷ ss) = AreApart (members s.body) × EachApart ss

    each_apart : (ss : List Side) → AreApart (side_members ss) → EachApart ss
    each_apart [] apart = tt
    each_apart (s ∷ ss) apart = let k = apart_append (members s.body) (side_members ss) apart in
        (k.0, each_apart ss k.1)

    each_join : (ss ts : List Side) → EachApart ss → EachApart ts → EachApart (ss ++ ts)
    each_join [] ts a b = b
    each_join (s ∷ ss) ts a b = (a.0, each_join ss ts a.1 b)

    out_before : (before : List Side) (s : Side) (behind : List Side) (v : ℕ) →
        AreApart (side_members (before ++ s ∷ behind)) → has s v →
        is_in (side_members before) v ≡ false
    out_before before s behind v apart m =
        false_from_ne_true (is_in (side_members before) v) (λ i.
        let k = apart_append (side_members before) (side_members (s ∷ behind))
        (subst AreApart (members_append before (s ∷ behind)) apart) in
        true≢false (sym (in_middle [] s behind v m) ∙ k.2 v i))

    apart_middle : (before : List Side) (s : Side) (behind : List Side) →
        AreApart (side_members (before ++ s ∷ behind)) →
        AreApart (members s.body) × EachApart (behind ++ before)
    apart_middle before s behind apart =
        let k = apart_append (side_members before) (side_members (s ∷ behind))
        (subst AreApart (members_append before (s ∷ behind)) apart) in
        let j = apart_append (members s.body) (side_members behind) k.1 in
        (j.0, each_join behind before (each_apart behind j.1) (each_apart before k.0))

    module _ (turn : (u v : ℕ) → dist u v ≡ dist v u) where
      -- a ring: the child with v and the others, two by two
      around : (before : List Side) (s : Side) (behind : List Side) (v : ℕ) → has s v →
          is_in (side_members before) v ≡ false → Exposed s.body v → Paired (behind ++ before) →
          Exposed (ring_of (before ++ s ∷ behind)) v
      around before s behind v m out a b = record {
        pairs = a.pairs ++ b.pairs;
        covered = λ f.
            let x = a.covered f in
            let y = b.covered f in
            let e : int_sum_by f (members (ring_of (before ++ s ∷ behind)))
            ≡ int_sum_by f (side_members (before ++ s ∷ behind)) =
            ap (int_sum_by f) (members_ring (before ++ s ∷ behind)) in
            omega (
              arith,
              ints,
              x,
              y,
              e,
              ends_sum-append f a.pairs b.pairs,
              members_sum-append dist f before (s ∷ behind),
              members_sum-append dist f behind before,
              int_sum_by-append f (members s.body) (side_members behind),
            );
        tight =
            let x = a.tight in
            let y = b.tight in
            let e = inner_ring (before ++ s ∷ behind) in
            let g : total (ring_of (before ++ s ∷ behind)) v ≡ reach s v =
            total_ring dist (before ++ s ∷ behind) v ∙ total_at dist before s behind v out m in
            omega (
              arith,
              ints,
              x,
              y,
              e,
              g,
              cost-append dist a.pairs b.pairs,
              side_inner-append dist before (s ∷ behind),
              side_inner-append dist behind before,
            );
        mated = each_append (λ (p : ℕ × ℕ). AreMates mate p.0 p.1) a.pairs b.pairs a.mated b.mated;
      }

      mutual
        pub exposed : (b : Blossom) (v : ℕ) → LeavesOut mate b v → IsFine dist true b →
            AreApart (members b) → Exposed b v
        exposed b v alone fine apart = record {
          pairs = [];
          covered = λ f. omega (arith, ints, int_sum_by-cons f v []);
          tight = omega (arith, ints);
          mated = tt;
        }
        exposed b v (ring before s behind e l two) fine apart =
            let whole = of_ring (before ++ s ∷ behind) (subst (IsFine dist true) e fine) in
            let apart_sides : AreApart (side_members (before ++ s ∷ behind)) =
            subst AreApart (ap members e ∙ members_ring (before ++ s ∷ behind)) apart in
            let parts = apart_middle before s behind apart_sides in
            let each = fine_split before (s ∷ behind) whole.fine in
            subst (λ x. Exposed x v) (sym e) (around before s behind v (left_in s.body v l)
            (out_before before s behind v apart_sides (left_in s.body v l))
            (exposed s.body v l each.1.0 parts.0)
            (paired (behind ++ before) two (fine_join behind before each.1.1 each.0) parts.1 s
            (turned turn before s behind (whole.tied s))))

        pub paired : (ss : List Side) → TwoByTwo mate ss → EachFine ss → EachApart ss →
            (e : Side) → Tied dist ss e → Paired ss
        paired ss no_more fine apart e tied = record {
          pairs = [];
          covered = λ f. refl;
          tight = refl;
          mated = tt;
        }
        paired xs (two_more {s} {t} {ss} mates l k two) fine apart e tied =
            pair_up s t s.out s.into mates (exposed s.body s.out l fine.0 apart.0)
            (exposed t.body s.into k fine.1.0 apart.1.0) tied.0 ss
            (paired ss two fine.1.1 apart.1.1 e tied.1.1)
