-- Counts at ascending places, of which each is lowered once.
use Rattle.std.proofs.Common.{◌≡◌, ℕ, ◌+◌, ◌-◌, ◌<◌, ◌≤◌, ◌==◌, ◌||◌, ⊎_elim, Bool, true, false, cond, List, refl, sym, ap, ◌∙◌, length, take, get_or, set, All, arith, eq-eqb}
use Rattle.std.specs.List.Sorted.{IsStrictlyIncreasing}
use Rattle.std.proofs.lemmas.Bool.{cases_eq, ne_eqb, false_from_ne_true}
use Rattle.std.proofs.lemmas.List.{get_or-set_same, get_or-set_other}
use Rattle.graph_model.specs.Graph.{is_in}
use Rattle.graph_model.proofs.Ascending.{take_below}
use Rattle.graph_model.proofs.Members.{All-at, any_more}
use Rattle.graph_model.proofs.Truths.{or_false}

abbrev pub tally : Bool → ℕ
tally b = cond b 1 0

-- a place isn't among those before it
new_place : (places : List ℕ) → IsStrictlyIncreasing places → (i : ℕ) → i < length places →
    is_in (take i places) (get_or places i 0) ≡ false
new_place places rising i l = false_from_ne_true _ (λ m. let below = All-at (λ x.
    x < get_or places i 0) (take i places) (get_or places i 0) (take_below places rising i l) m in
    omega (arith, below))

pub still_there : (old now places : List ℕ) (i : ℕ) → IsStrictlyIncreasing places →
    i < length places → All (λ k. 0 < get_or old k 0) places →
    ((k : ℕ) → get_or old k 0 ≡ get_or now k 0 + tally (is_in (take i places) k)) →
    1 ≤ get_or now (get_or places i 0) 0
still_there old now places i rising l some so_far =
    let a = so_far (get_or places i 0) in
    let b : tally (is_in (take i places) (get_or places i 0)) ≡ 0 =
    ap tally (new_place places rising i l) in
    let c = some i 0 l in
    omega (arith, a, b, c)

pub one_lower : (old now places : List ℕ) (i : ℕ) → IsStrictlyIncreasing places →
    i < length places → get_or places i 0 < length now → 1 ≤ get_or now (get_or places i 0) 0 →
    ((k : ℕ) → get_or old k 0 ≡ get_or now k 0 + tally (is_in (take i places) k)) → (k : ℕ) →
    get_or old k 0 ≡ get_or (set now (get_or places i 0) (get_or now (get_or places i 0) 0 - 1)) k 0
    + tally (is_in (take (i + 1) places) k)
one_lower old now places i rising l within some so_far k =
    ⊎_elim here there (cases_eq k (get_or places i 0))
  where
    place : ℕ
    place = get_or places i 0

    more : is_in (take (i + 1) places) k ≡ is_in (take i places) k || (place == k)
    more = any_more (λ y. y == k) places i l

    here : k ≡ place → get_or old k 0 ≡ get_or (set now place (get_or now place 0 - 1)) k 0
        + tally (is_in (take (i + 1) places) k)
    here e =
        let a = so_far k in
        let b : is_in (take i places) k ≡ false = ap (is_in (take i places)) e
        ∙ new_place places rising i l in
        let c : tally (is_in (take i places) k) ≡ 0 = ap tally b in
        let d : tally (is_in (take (i + 1) places) k) ≡ 1 =
        ap tally (more ∙ ap (λ t. t || (place == k)) b ∙ eq-eqb place k (sym e)) in
        let f : get_or (set now place (get_or now place 0 - 1)) k 0 ≡ get_or now place 0 - 1 =
        ap (λ j. get_or (set now place (get_or now place 0 - 1)) j 0) e
        ∙ get_or-set_same now place (get_or now place 0 - 1) 0 within in
        let g : get_or now k 0 ≡ get_or now place 0 = ap (λ j. get_or now j 0) e in
        omega (arith, a, c, d, f, g, some)

    there : (k ≡ place → ⊥) → get_or old k 0 ≡ get_or (set now place (get_or now place 0 - 1)) k 0
        + tally (is_in (take (i + 1) places) k)
    there ne =
        let a = so_far k in
        let d : tally (is_in (take (i + 1) places) k) ≡ tally (is_in (take i places) k) = ap tally
        (more ∙ ap (λ t. is_in (take i places) k || t) (ne_eqb place k (λ e. ne (sym e)))
        ∙ or_false (is_in (take i places) k)) in
        let f = get_or-set_other now place k (get_or now place 0 - 1) 0 ne in
        omega (arith, a, d, f)
