-- Searches that begin near.
use Rattle.std.proofs.Common.{◌≡◌, ℕ, ◌-◌, ◌<◌, ⊎_elim, Bool, not, true, false, List, slice_get, Some, refl, sym, ap, ◌∙◌, subst, arith}
use Rattle.std.specs.Ordering.{is_lt}
use Rattle.std.specs.declared.cmp.Ordering.{Ordering}
use Rattle.std.specs.declared.cmp.Ordering.TheVariants.{Equal, Greater, Less}
use Rattle.std.proofs.lemmas.Bool.{cases_eq, false_from_ne_true, false≢true}
use Rattle.std.proofs.lemmas.Option.{same_Some}
use Rattle.error_map.specs.Keys.{AreBefore, AreFrom, AreRising, compare}
use Rattle.error_map.specs.declared.keys.Key.{Key}
use Rattle.error_map.proofs.Keyed.{compare_total, rises}

from_less : (o : Ordering) → is_lt o ≡ true → o ≡ Less
from_less Less h = refl
from_less Equal h = absurd (false≢true h)
from_less Greater h = absurd (false≢true h)

pub before_last : (keys : List Key) → AreRising keys → (n : ℕ) (key last : Key) → 0 < n →
    slice_get keys (n - 1) ≡ Some last → is_lt (compare last key) ≡ true → AreBefore keys key n
before_last keys up n key last some at low i k l e =
    ⊎_elim
    (λ (s : i ≡ n - 1).
    subst (λ x. is_lt (compare x key) ≡ true)
    (same_Some last k (sym at ∙ ap (slice_get keys) (sym s) ∙ e)) low)
    (λ ne. ap is_lt (compare_total.trans k last key
    (rises keys up i (n - 1) k last (omega (arith, l, ne, some)) e at)
    (from_less (compare last key) low)))
    (cases_eq i (n - 1))

pub from_first : (keys : List Key) → AreRising keys → (n : ℕ) (key first : Key) →
    slice_get keys n ≡ Some first → is_lt (compare first key) ≡ false → AreFrom keys key n
from_first keys up n key first at high i k l e =
    ⊎_elim
    (λ (s : i ≡ n).
    subst (λ x. is_lt (compare x key) ≡ false)
    (same_Some first k (sym at ∙ ap (slice_get keys) (sym s) ∙ e)) high)
    (λ ne. false_from_ne_true (is_lt (compare k key)) (λ t.
    false≢true (sym high ∙ ap is_lt (compare_total.trans first k key
    (rises keys up n i first k (omega (arith, l, ne)) at e) (from_less (compare k key) t)))))
    (cases_eq i n)

pub not_true : (b : Bool) → not b ≡ true → b ≡ false
not_true true h = absurd (false≢true h)
not_true false h = refl
