-- A least step by vertices and names is an event.
use Rattle.std.proofs.Common.{◌≡◌, ℕ, ◌≤◌, ◌<◌, List, [], ◌∷◌, sym, ap, ◌∙◌, arith, subst}
use Rattle.std.specs.Prelude.{ℤ, pos, ◌+ℤ◌, neg_ℤ, ◌≤ℤ◌}
use Rattle.std.proofs.lemmas.Int.{ints}
use Rattle.std.proofs.lemmas.Bool.{false≢true, false_from_ne_true}
use Rattle.graph_model.specs.Graph.{is_in}
use Rattle.matching_model.specs.Blossoms.{Blossom, Side, has, members, side_members, ring_of, IsSigned}
use Rattle.matching_model.specs.Forests.{Search, Mark, Outer, Inner, Away, marked, summed}
use Rattle.matching_model.proofs.DualChange.{plain, plain_sum}
use Rattle.matching_model.proofs.Ending.{covers_low}
use Rattle.matching_model.proofs.Slacks.{summed_ring}
use Rattle.matching_model.proofs.Events.{IsAt as IsThere}
use Rattle.matching_laws.specs.Turns.{Stands, AreIn, IsUncut, IsChosen}
use Rattle.matching_laws.proofs.Uncut.{stands_at, at_stands, in_list, turn_law}
use Rattle.shown_search.specs.Shown.{Kept, IsSet, single, ring, Shows}
use Rattle.shown_search.specs.Choosing.{AreTotals, AreMarked, IsLeast, IsStep, LeastLaw}
use Rattle.shown_search.proofs.Entries.{IsNamed, entry_named, Found, found}
use Rattle.shown_search.proofs.Growth.{base_low}

module _ (k : Kept) (number total : ℕ → ℤ) (s : Search) (h : Shows k number s)
    (totals : AreTotals s total) where
  named : (m : Mark) (x : Side) → Stands m x (marked s) → IsNamed k number (m, x)
  named m x at = entry_named k number s h (m, x) (stands_at m x (marked s) at)

  -- two sets that are different have different names
  marked_in : (m m' : Mark) (x y : Side) (u w : ℕ) → u < k.vertices → w < k.vertices →
      AreIn s m m' x y u w → AreMarked k m m' u w
  marked_in m m' x y u w low_u low_w a =
      let p = named m x a.one_stands in
      let q = named m' y a.two_stands in
      record {
        one_below = low_u;
        two_below = low_w;
        one_marked = ap k.mark (p.2.tops u a.in_one) ∙ p.2.marked;
        two_marked = ap k.mark (q.2.tops w a.in_two) ∙ q.2.marked;
        differ = λ e. false≢true (sym a.elsewhere ∙ p.2.only w low_w (sym e ∙ p.2.tops u a.in_one));
      }

  in_marked : (m m' : Mark) (u w : ℕ) → AreMarked k m m' u w →
      (x : Side) × (y : Side) × AreIn s m m' x y u w
  in_marked m m' u w a = from (found k number s h u a.one_below) (found k number s h w a.two_below)
    where
      from : Found k number s u → Found k number s w →
          (x : Side) × (y : Side) × AreIn s m m' x y u w
      from p q =
          let at_p = subst (λ z. IsThere (z, p.side) (marked s)) a.one_marked p.stands in
          let at_q = subst (λ z. IsThere (z, q.side) (marked s)) a.two_marked q.stands in
          let n = entry_named k number s h (m, p.side) at_p in (
            p.side,
            q.side,
            record {
              one_stands = at_stands m p.side (marked s) at_p;
              two_stands = at_stands m' q.side (marked s) at_q;
              in_one = p.holds;
              in_two = q.holds;
              elsewhere = false_from_ne_true (is_in (members p.side.body) w)
                  (λ i. a.differ (n.2.tops u p.holds ∙ sym (n.2.tops w i)));
            },
          )

  -- a set with children
  some_ring : (n : ℕ) (children : ℕ → List ℕ) (joint : ℕ → ℕ × ℕ) (t : ℕ) (b : Blossom) →
      IsSet n children joint number t b → n ≤ t → (ss : List Side) × (b ≡ ring_of ss)
  some_ring n children joint t b (single low) from = absurd (omega (arith, low, from))
  some_ring n children joint t b (ring ss from e each) high = (ss, e)

  signed : (n : ℕ) (children : ℕ → List ℕ) (joint : ℕ → ℕ × ℕ) (t : ℕ) (b : Blossom) (z : ℤ) →
      IsSet n children joint number t b → (n ≤ t → pos 0 ≤ℤ z) → IsSigned z b
  signed n children joint t b z (single low) rest = tt
  signed n children joint t b z (ring ss from e each) rest =
      subst (IsSigned z) (sym e) (of_ring ss (rest from))
    where
      of_ring : (ss : List Side) → pos 0 ≤ℤ z → IsSigned z (ring_of ss)
      of_ring [] p = p
      of_ring (x ∷ xs) p = p

  module _ (dist : ℕ → ℕ → ℕ) (change : ℤ) where
    uncut : IsLeast k number total dist change → ((m : Mark) (x : Side) → Stands m x (marked s) →
        (u : ℕ) → has x u → u < k.vertices) → IsUncut dist change s
    uncut least below = record {
      joins = λ x y u w a.
          let l = least.joins u w (marked_in Outer Outer x y u w
          (below Outer x a.one_stands u a.in_one) (below Outer y a.two_stands w a.in_two) a) in
          let p = totals Outer x a.one_stands u a.in_one in
          let q = totals Outer y a.two_stands w a.in_two in
          omega (arith, ints, l, p, q);
      grows = λ x y u w a.
          let l = least.grows u w (marked_in Outer Away x y u w
          (below Outer x a.one_stands u a.in_one) (below Away y a.two_stands w a.in_two) a) in
          let p = totals Outer x a.one_stands u a.in_one in
          let q = totals Away y a.two_stands w a.in_two in
          omega (arith, ints, l, p, q);
      expands = λ x at.
          let n = named Inner x at in
          let low = base_low k.vertices k.children k.joint k.base k.mate n.0 n.1 n.2.based in
          let top = n.2.tops n.1 n.2.holds in
          signed k.vertices k.children k.joint n.0 x.body (x.number +ℤ neg_ℤ change) n.2.set
          (λ from.
          let l = least.expands n.1 (record {
            below = low;
            ring = subst (λ z. k.vertices ≤ z) (sym top) from;
            inner = ap k.mark top ∙ n.2.marked;
          }) in
          let e = n.2.numbered in
          let f : number (k.top n.1) ≡ number n.0 = ap number top in
          omega (arith, ints, l, e, f));
    }

    chosen : IsStep k number total dist change → IsChosen dist change s
    chosen (IsStep.joins u w a e) =
        let p = in_marked Outer Outer u w a in
        let f = totals Outer p.0 p.2.one_stands u p.2.in_one in
        let g = totals Outer p.1 p.2.two_stands w p.2.in_two in
        IsChosen.joins p.0 p.1 u w p.2 (omega (arith, ints, e, f, g))
    chosen (IsStep.grows u w a e) =
        let p = in_marked Outer Away u w a in
        let f = totals Outer p.0 p.2.one_stands u p.2.in_one in
        let g = totals Away p.1 p.2.two_stands w p.2.in_two in
        IsChosen.grows p.0 p.1 u w p.2 (omega (arith, ints, e, f, g))
    chosen (IsStep.expands v a e) = from (found k number s h v a.below)
      where
        from : Found k number s v → IsChosen dist change s
        from p =
            let at_p = subst (λ z. IsThere (z, p.side) (marked s)) a.inner p.stands in
            let n = entry_named k number s h (Inner, p.side) at_p in
            let top = n.2.tops v p.holds in
            let r = some_ring k.vertices k.children k.joint n.0 p.side.body n.2.set
            (subst (λ z. k.vertices ≤ z) top a.ring) in
            IsChosen.expands p.side r.0 (at_stands Inner p.side (marked s) at_p) r.1 (n.2.numbered
            ∙ sym (ap number top) ∙ e)

pub least_law : LeastLaw
least_law k number total s h totals dist turn sound change positive least step =
    turn_law dist turn k.vertices s sound change positive
    (uncut k number total s h totals dist change least below)
    (chosen k number total s h totals dist change step)
  where
    -- what is in a set is a vertex
    below : (m : Mark) (x : Side) → Stands m x (marked s) → (u : ℕ) → has x u → u < k.vertices
    below m x at u i = covers_low k.vertices (side_members (plain (marked s)))
        (λ f. summed_ring (plain (marked s)) f ∙ plain_sum (summed f) s ∙ h.covers f) u
        (in_list (m, x) (marked s) (stands_at m x (marked s) at) u i)
