-- Lists that grow by one, and values that are marked one after the other.
use Rattle.std.proofs.Common.{◌≡◌, ℕ, ◌+◌, ◌<◌, ◌≤◌, ◌==◌, ⊎_elim, Bool, true, false, ◌||◌, ◌&&◌, List, [], ◌∷◌, ◌++◌, filter, length, get_or, refl, sym, ap, ◌∙◌, subst, arith, eq-eqb, eqb-true}
use Rattle.std.specs.List.{range_with_len}
use Rattle.std.proofs.Math.ListN.{get_or-append}
use Rattle.std.proofs.Math.Seq.{get_or-append_seam}
use Rattle.std.proofs.lemmas.Bool.{cases_lt, ne_eqb}
use Rattle.std.proofs.lemmas.List.Elements.{filter-append}
use Rattle.graph_model.specs.Graph.{is_in}
use Rattle.graph_model.specs.Parity.{parity}
use Rattle.graph_model.proofs.Parities.{parity-none}
use Rattle.graph_model.proofs.Ranges.{below_more}
use Rattle.graph_model.proofs.Truths.{or_false}
use Rattle.window_model.specs.Windows.{all_below}

-- what holds of each element of a list holds of one more
pub pushed : {X : Type 0} (P : ℕ → X → Type 0) (xs : List X) (y d : X) (n : ℕ) →
    length xs ≡ n → ((k : ℕ) → k < n → P k (get_or xs k d)) → P n y → (k : ℕ) → k < n + 1 →
    P k (get_or (xs ++ y ∷ []) k d)
pushed P xs y d n long so_far last k l =
    ⊎_elim
    (λ (low : k < n). subst (P k) (sym (get_or-append xs (y ∷ []) d k (omega (arith, low, long))))
    (so_far k low))
    (λ (high : n ≤ k).
    let e : k ≡ length xs = omega (arith, l, high, long) in
    let f : n ≡ k = omega (arith, l, high) in
    let read : get_or (xs ++ y ∷ []) k d ≡ y = ap (λ i. get_or (xs ++ y ∷ []) i d) e
    ∙ get_or-append_seam xs y [] d in
    subst (P k) (sym read) (subst (λ i. P i y) f last))
    (cases_lt k n)

-- one more number below the bound
pub all_below_more : (p : ℕ → Bool) (n : ℕ) → all_below (n + 1) p ≡ all_below n p
    ++ filter p (n ∷ [])
all_below_more p n = ap (filter p) (below_more n) ∙ filter-append p (range_with_len 0 n) (n ∷ [])

-- another place than the one that was marked
pub unmarked : (b test : Bool) (at k : ℕ) → (at ≡ k → ⊥) → b || ((at == k) && test) ≡ b
unmarked b test at k ne = ap (λ t. b || (t && test)) (ne_eqb at k ne) ∙ or_false b

pub marked : (b test : Bool) (at k : ℕ) → at ≡ k → b || ((at == k) && test) ≡ b || test
marked b test at k e = ap (λ t. b || (t && test)) (eq-eqb at k e)

-- an empty mask turns nothing
pub untouched : (b : Bool) (mask labels : List ℕ) → length mask == 0 ≡ true →
    b ≡ b || parity (is_in mask) labels
untouched b mask labels empty = sym (ap (λ p. b || p) (even mask empty) ∙ or_false b)
  where
    even : (xs : List ℕ) → length xs == 0 ≡ true → parity (is_in xs) labels ≡ false
    even [] e = parity-none (is_in []) (λ l. refl) labels
    even (x ∷ xs) e = let n = eqb-true (length (x ∷ xs)) 0 e in absurd (omega (arith, n))
