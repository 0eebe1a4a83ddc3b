-- What holds by vertices holds by sets, and the least step is free after its change.
use Rattle.std.proofs.Common.{◌≡◌, ℕ, ◌||◌, Bool, true, false, List, [], ◌∷◌, refl, sym, ap, ◌∙◌, arith, subst, ⊎_elim, ◌⊎◌, inl, inr}
use Rattle.std.specs.Prelude.{ℤ, pos, ◌+ℤ◌, neg_ℤ}
use Rattle.std.proofs.lemmas.Int.{ints}
use Rattle.std.proofs.lemmas.Bool.{false≢true}
use Rattle.graph_model.specs.Graph.{is_in}
use Rattle.matching_model.specs.Matchings.{AreApart}
use Rattle.matching_model.specs.Blossoms.{Blossom, Side, has, members, side_members, ring_of, IsTight}
use Rattle.matching_model.specs.Forests.{Mate, Search, IsSound, summed, Mark, Outer, Inner, Away, marked, marked_trees, marked_mates, moved, moved_by, moved_trees, shift}
use Rattle.matching_model.specs.Steps.{Event, IsFree, IsRearranged}
use Rattle.matching_model.proofs.Allowing.{allows_from_pairs}
use Rattle.matching_model.proofs.Crossed.{apart_append}
use Rattle.matching_model.proofs.DualChange.{plain, plain_sum}
use Rattle.matching_model.proofs.Events.{Entry, IsAt, AreAt, at_split, Found, PairFound, Tight}
use Rattle.matching_model.proofs.Exposed.{is_in-append}
use Rattle.matching_model.proofs.FreeSteps.{ready_from}
use Rattle.matching_model.proofs.Moving.{at_left, at_right, at_moved_trees, moved_entry, tight_after, none_after}
use Rattle.matching_model.proofs.Shrinking.{tight_turn}
use Rattle.matching_model.proofs.Slacks.{sums_apart}
use Rattle.matching_laws.specs.Turns.{Stands, AreIn, IsChosen, joins, grows, expands, UncutLaw, TurnLaw}

pub stands_at : (m : Mark) (x : Side) (es : List Entry) → Stands m x es → IsAt (m, x) es
stands_at m x [] h = h
stands_at m x (e ∷ es) (inl k) = inl k
stands_at m x (e ∷ es) (inr k) = inr (stands_at m x es k)

pub at_stands : (m : Mark) (x : Side) (es : List Entry) → IsAt (m, x) es → Stands m x es
at_stands m x [] h = h
at_stands m x (e ∷ es) (inl k) = inl k
at_stands m x (e ∷ es) (inr k) = inr (at_stands m x es k)

-- ---- sets of a list that share no vertex
pub in_list : (a : Entry) (es : List Entry) → IsAt a es → (u : ℕ) → has a.1 u →
    is_in (side_members (plain es)) u ≡ true
in_list a [] h u m = absurd h
in_list a (e ∷ es) (inl k) u m =
    is_in-append (members e.1.body) (side_members (plain es)) u
    ∙ ap (λ b. b || is_in (side_members (plain es)) u)
    (subst (λ (z : Entry). has z.1 u) (sym k) m)
in_list a (e ∷ es) (inr k) u m =
    is_in-append (members e.1.body) (side_members (plain es)) u
    ∙ ap (λ b. is_in (members e.1.body) u || b) (in_list a es k u m)
    ∙ or_true (is_in (members e.1.body) u)
  where
    or_true : (b : Bool) → b || true ≡ true
    or_true true = refl
    or_true false = refl

-- what is in the later of two sets isn't in the earlier
not_both : (a b : Entry) (es : List Entry) → AreApart (side_members (plain es)) → AreAt a b es →
    (u : ℕ) → has b.1 u → is_in (members a.1.body) u ≡ false
not_both a b [] apart h u m = absurd h
not_both a b (e ∷ es) apart (inl k) u m =
    let j = apart_append (members e.1.body) (side_members (plain es)) apart in
    by_test (is_in (members a.1.body) u) refl (λ i. j.2 u
    (subst (λ (z : Entry). has z.1 u) (sym k.0) i)) (in_list b es k.1 u m)
  where
    by_test : (t : Bool) → is_in (members a.1.body) u ≡ t →
        (is_in (members a.1.body) u ≡ true → is_in (side_members (plain es)) u ≡ false) →
        is_in (side_members (plain es)) u ≡ true → is_in (members a.1.body) u ≡ false
    by_test true e out m = absurd (false≢true (sym (out e) ∙ m))
    by_test false e out m = e
not_both a b (e ∷ es) apart (inr k) u m = not_both a b es
    (apart_append (members e.1.body) (side_members (plain es)) apart).1 k u m

at_first : (a b : Entry) (es : List Entry) → AreAt a b es → IsAt a es × IsAt b es
at_first a b [] h = absurd h
at_first a b (e ∷ es) (inl k) = (inl k.0, inr k.1)
at_first a b (e ∷ es) (inr k) = let j = at_first a b es k in (inr j.0, inr j.1)

-- two entries are the same, or one is the earlier
in_order : (a b : Entry) (es : List Entry) → IsAt a es → IsAt b es →
    (a ≡ b) ⊎ (AreAt a b es ⊎ AreAt b a es)
in_order a b [] h k = absurd h
in_order a b (e ∷ es) (inl h) (inl k) = inl (sym h ∙ k)
in_order a b (e ∷ es) (inl h) (inr k) = inr (inl (inl (h, k)))
in_order a b (e ∷ es) (inr h) (inl k) = inr (inr (inl (k, h)))
in_order a b (e ∷ es) (inr h) (inr k) = ⊎_elim (λ q. inl q)
    (λ q. inr (⊎_elim (λ r. inl (inr r)) (λ r. inr (inr r)) q)) (in_order a b es h k)

apart_marked : (dist : ℕ → ℕ → ℕ) (n : ℕ) (s : Search) → IsSound dist n s →
    AreApart (side_members (plain (marked s)))
apart_marked dist n s h = sums_apart dist n (plain (marked s)) (λ f. plain_sum (summed f) s
    ∙ h.covers f)

pub uncut_law : UncutLaw
uncut_law dist turn n s h change uncut = allows_from_pairs dist change (marked s) (record {
  outer = λ x y k u w i j. uncut.joins x y u w (both Outer Outer x y k u w i j);
  outer_away = λ x y k u w i j. uncut.grows x y u w (both Outer Away x y k u w i j);
  away_outer = λ x y k u w i j.
      let e = uncut.grows y x w u (turned Away Outer x y k u w i j) in
      omega (arith, ints, e, turn u w);
  inner = λ x k. uncut.expands x (at_stands Inner x (marked s) k);
})
  where
    both : (m k : Mark) (x y : Side) → AreAt (m, x) (k, y) (marked s) → (u w : ℕ) → has x u →
        has y w → AreIn s m k x y u w
    both m k x y at u w i j =
        let p = at_first (m, x) (k, y) (marked s) at in
        record {
          one_stands = at_stands m x (marked s) p.0;
          two_stands = at_stands k y (marked s) p.1;
          in_one = i;
          in_two = j;
          elsewhere = not_both (m, x) (k, y) (marked s) (apart_marked dist n s h) at w j;
        }

    turned : (m k : Mark) (x y : Side) → AreAt (m, x) (k, y) (marked s) → (u w : ℕ) → has x u →
        has y w → AreIn s k m y x w u
    turned m k x y at u w i j =
        let p = at_first (m, x) (k, y) (marked s) at in
        record {
          one_stands = at_stands k y (marked s) p.1;
          two_stands = at_stands m x (marked s) p.0;
          in_one = j;
          in_two = i;
          elsewhere = out_of (is_in (members y.body) u) refl
              (λ t. not_both (m, x) (k, y) (marked s) (apart_marked dist n s h) at u t);
        }
      where
        out_of : (b : Bool) → is_in (members y.body) u ≡ b →
            (has y u → is_in (members x.body) u ≡ false) → is_in (members y.body) u ≡ false
        out_of false e out = e
        out_of true e out = absurd (false≢true (sym (out e) ∙ i))

-- ---- after the change
-- sets outside the trees stay as they are
still : (change : ℤ) (x : Side) → ◌≡◌ {A = Entry} (Away, x) (moved_entry change (Away, x))
still change x = ap (λ z. (Away, with_number z)) (omega (arith, ints))
  where
    with_number : ℤ → Side
    with_number z = record { body = x.body; number = z; out = x.out; into = x.into }

at_moved_mates : (change : ℤ) (a : Entry) (ps : List Mate) → IsAt a (marked_mates ps) →
    IsAt (moved_entry change a) (marked_mates ps)
at_moved_mates change a [] h = absurd h
at_moved_mates change a (p ∷ ps) (inl e) = inl (still change p.one ∙ ap (moved_entry change) e)
at_moved_mates change a (p ∷ ps) (inr (inl e)) =
    inr (inl (still change p.two ∙ ap (moved_entry change) e))
at_moved_mates change a (p ∷ ps) (inr (inr h)) = inr (inr (at_moved_mates change a ps h))

at_moved : (change : ℤ) (s : Search) (a : Entry) → IsAt a (marked s) →
    IsAt (moved_entry change a) (marked (moved change s))
at_moved change s a h = ⊎_elim
    (λ l. at_left (moved_entry change a) (marked_trees (moved_trees change s.trees))
    (marked_mates s.mates) (at_moved_trees change a s.trees l))
    (λ r. at_right (moved_entry change a) (marked_trees (moved_trees change s.trees))
    (marked_mates s.mates) (at_moved_mates change a s.mates r))
    (at_split a (marked_trees s.trees) (marked_mates s.mates) h)

module _ (dist : ℕ → ℕ → ℕ) (turn : (u v : ℕ) → dist u v ≡ dist v u) (change : ℤ) (s : Search) where
  -- two chosen sets, in the order in which they stand
  pair_found : (m k : Mark) (x y : Side) (u w : ℕ) → AreIn s m k x y u w →
      (Tight dist (moved_by (shift change m) x) (moved_by (shift change k) y) →
      PairFound dist (moved_entry change (m, x)) (moved_entry change (k, y))) →
      (Tight dist (moved_by (shift change k) y) (moved_by (shift change m) x) →
      PairFound dist (moved_entry change (k, y)) (moved_entry change (m, x))) →
      IsTight dist (moved_by (shift change m) x) u (moved_by (shift change k) y) w →
      Found dist (marked (moved change s))
  pair_found m k x y u w are there back tight =
      ⊎_elim
      (λ same. absurd (false≢true (sym are.elsewhere
      ∙ subst (λ (z : Entry). has z.1 w) (sym same) are.in_two)))
      (λ apart. ⊎_elim
      (λ l. inl (a, b, l, there (u, w, tight)))
      (λ r. inl (
        b,
        a,
        r,
        back (
          w,
          u,
          tight_turn dist turn (moved_by (shift change m) x) u
              (moved_by (shift change k) y) w tight,
        ),
      )) apart)
      (in_order a b (marked (moved change s)) (at_moved change s (
        m,
        x,
      ) (stands_at m x (marked s) are.one_stands))
      (at_moved change s (k, y) (stands_at k y (marked s) are.two_stands)))
    where
      a : Entry
      a = moved_entry change (m, x)

      b : Entry
      b = moved_entry change (k, y)

  found : IsChosen dist change s → Found dist (marked (moved change s))
  found (joins x y u w are slack) =
      pair_found Outer Outer x y u w are (λ t. t) (λ t. t)
      (tight_after dist change change x y u w are.in_one are.in_two slack)
  found (grows x y u w are slack) =
      pair_found Outer Away x y u w are (λ t. t) (λ t. t)
      (tight_after dist change (pos 0) x y u w are.in_one are.in_two
      (omega (arith, ints, slack)))
  found (expands x ss at body number) =
      inr (
        moved_entry change (Inner, x),
        at_moved change s (
          Inner,
          x,
        ) (stands_at Inner x (marked s) at),
        (ss, x.out, x.into, same),
      )
    where
      made : Blossom → ℤ → Side
      made b z = record { body = b; number = z; out = x.out; into = x.into }

      same : moved_by (neg_ℤ change) x ≡ made (ring_of ss) (pos 0)
      same = ap (λ b. made b (x.number +ℤ neg_ℤ change)) body
          ∙ ap (made (ring_of ss)) (none_after change x number)

pub turn_law : TurnLaw
turn_law dist turn n s h change positive uncut chosen =
    by_place (ready_from dist turn (moved change s) (found dist turn change s chosen))
  where
    by_place : ((s' : Search) × IsRearranged dist (moved change s) s' × IsFree dist s') →
        Event dist s
    by_place k = record {
      change = change;
      positive = positive;
      allowed = uncut_law dist turn n s h change uncut;
      after = k.0;
      rearranged = k.1;
      step = k.2;
    }
