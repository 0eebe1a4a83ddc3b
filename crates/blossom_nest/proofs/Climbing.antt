-- The way from a vertex up to the child of a set in which it lies.
use Rattle.std.proofs.Common.{◌≡◌, ◌≢◌, ℕ, ◌+◌, ◌<◌, ◌≤◌, List, [], ◌∷◌, ◌++◌, length, refl, sym, ◌∙◌, subst, arith}
use Rattle.std.specs.List.{AllByRecursion}
use Rattle.blossom_nest.specs.Kept.{Climbs, IsChildAbove, Leads, at}

-- after so many steps
pub record IsOnTheWay (parent : List ℕ) (v set here steps : ℕ) : Type 0 where
  pub before : List ℕ
  pub came : Climbs parent v before here
  pub short_of : AllByRecursion (λ p. p ≢ set) before
  pub after : List ℕ
  pub goes : Climbs parent here after set
  pub left : length after + steps ≤ length parent
  pub apart : here ≢ set

climbs_more : (parent : List ℕ) (a : ℕ) (ps : List ℕ) (b p : ℕ) → Climbs parent a ps b →
    b < length parent → at parent b ≡ p → Climbs parent a (ps ++ p ∷ []) p
climbs_more parent a [] b p c low e = (
  subst (λ z. z < length parent) (sym c) low,
  subst (λ z. at parent z ≡ p) (sym c) e,
  refl,
)
climbs_more parent a (q ∷ qs) b p c low e = (c.0, c.1, climbs_more parent q qs b p c.2 low e)

all_more : (P : ℕ → Type 0) (xs : List ℕ) (x : ℕ) → AllByRecursion P xs → P x →
    AllByRecursion P (xs ++ x ∷ [])
all_more P [] x h k = (k, tt)
all_more P (y ∷ ys) x h k = (h.0, all_more P ys x h.1 k)

pub begin : (parent : List ℕ) (v set : ℕ) → Leads parent v set → IsOnTheWay parent v set v 0
begin parent v set l = record {
  before = [];
  came = refl;
  short_of = tt;
  after = l.way;
  goes = l.climbs;
  left = omega (arith, l.short);
  apart = l.apart;
}

module _ (parent : List ℕ) (v set here n : ℕ) (w : IsOnTheWay parent v set here n) where
  pub within : here < length parent
  within = go w.after w.goes
    where
      go : (ps : List ℕ) → Climbs parent here ps set → here < length parent
      go [] c = absurd (w.apart c)
      go (p ∷ ps) c = c.0

  pub step : (above : ℕ) → at parent here ≡ above → above ≢ set →
      IsOnTheWay parent v set above (n + 1)
  step above e d = go w.after w.goes w.left
    where
      go : (ps : List ℕ) → Climbs parent here ps set → length ps + n ≤ length parent →
          IsOnTheWay parent v set above (n + 1)
      go [] c l = absurd (w.apart c)
      go (p ∷ ps) c l = record {
        before = w.before ++ above ∷ [];
        came = climbs_more parent v w.before here above w.came c.0 e;
        short_of = all_more (λ q. q ≢ set) w.before above w.short_of d;
        after = ps;
        goes = subst (λ q. Climbs parent q ps set) (sym c.1 ∙ e) c.2;
        left = omega (arith, l);
        apart = d;
      }

  pub never_past : length parent ≤ n → ⊥
  never_past h = go w.after w.goes w.left
    where
      go : (ps : List ℕ) → Climbs parent here ps set → length ps + n ≤ length parent → ⊥
      go [] c l = w.apart c
      go (p ∷ ps) c l = absurd (omega (arith, l, h))

  pub arrived : at parent here ≡ set → IsChildAbove parent v set here
  arrived e = record {
    way = w.before;
    climbs = w.came;
    short_of = w.short_of;
    low = within;
    is_child = e;
  }
