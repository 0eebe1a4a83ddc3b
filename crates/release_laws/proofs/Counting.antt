-- How many of a list of windows are not committed, when one more is.
use Rattle.std.proofs.Common.{◌≡◌, ℕ, suc, ◌+◌, ◌||◌, ⊎_elim, Bool, true, false, cond, List, [], ◌∷◌, refl, sym, ap, ◌∙◌, subst, length, filter, arith, Option, Some, None, is_none, IsNone, IsSome, All}
use Rattle.std.proofs.lemmas.Bool.{cases_eq, ne_eqb, false≢true}
use Rattle.std.proofs.lemmas.List.Elements.{All-head, All-tail, All-cons, All-nil}
use Rattle.graph_model.specs.Graph.{is_in}
use Rattle.graph_model.proofs.Members.{is_in_first, is_in_rest}
use Rattle.window_model.specs.Decoder.{set_at}
use Rattle.window_model.proofs.Updates.{set_same, set_other}
use Rattle.window_model.proofs.Quiet.{IsApart}

abbrev pub open_in : (ℕ → Option (List ℕ)) → List ℕ → ℕ
open_in kept xs = length (filter (λ w. is_none (kept w)) xs)

abbrev pub tally : Bool → ℕ
tally b = cond b 1 0

one : (b : Bool) (p : ℕ → Bool) (x : ℕ) (xs : List ℕ) → p x ≡ b → length (filter p (x ∷ xs))
    ≡ tally b + length (filter p xs)
one true p x xs e = let a : length (filter p (x ∷ xs)) ≡ suc (length (filter p xs)) =
    ap (λ t. length (cond t (x ∷ filter p xs) (filter p xs))) e in omega (arith, a)
one false p x xs e = let a : length (filter p (x ∷ xs)) ≡ length (filter p xs) =
    ap (λ t. length (cond t (x ∷ filter p xs) (filter p xs))) e in omega (arith, a)

cons_open : (kept : ℕ → Option (List ℕ)) (x : ℕ) (xs : List ℕ) → open_in kept (x ∷ xs)
    ≡ tally (is_none (kept x)) + open_in kept xs
cons_open kept x xs = one (is_none (kept x)) (λ w. is_none (kept w)) x xs refl

-- a window that isn't in the list leaves the count
apart_open : (kept : ℕ → Option (List ℕ)) (w : ℕ) (set : List ℕ) (xs : List ℕ) →
    is_in xs w ≡ false → open_in (set_at kept w (Some set)) xs ≡ open_in kept xs
apart_open kept w set [] out = refl
apart_open kept w set (x ∷ xs) out =
    cons_open (set_at kept w (Some set)) x xs
    ∙ ap (λ o. tally (is_none o) + open_in (set_at kept w (Some set)) xs)
    (set_other kept w (Some set) x (λ e. false≢true (sym out
    ∙ subst (λ y. is_in (x ∷ xs) y ≡ true) e (is_in_first x xs))))
    ∙ ap (λ n. tally (is_none (kept x)) + n) (apart_open kept w set xs (by_test (is_in xs w) refl))
    ∙ sym (cons_open kept x xs)
  where
    by_test : (b : Bool) → is_in xs w ≡ b → is_in xs w ≡ false
    by_test true e = absurd (false≢true (sym out ∙ is_in_rest x w xs e))
    by_test false e = e

pub fewer_open : (kept : ℕ → Option (List ℕ)) (w : ℕ) (set : List ℕ) → is_none (kept w) ≡ true →
    (xs : List ℕ) → IsApart xs →
    open_in kept xs ≡ open_in (set_at kept w (Some set)) xs + tally (is_in xs w)
fewer_open kept w set open_ [] apart = refl
fewer_open kept w set open_ (x ∷ xs) apart =
    ⊎_elim here (there (fewer_open kept w set open_ xs apart.1)) (cases_eq x w)
  where
    here : x ≡ w → open_in kept (x ∷ xs) ≡ open_in (set_at kept w (Some set)) (x ∷ xs)
        + tally (is_in (x ∷ xs) w)
    here e =
        let a : open_in kept (x ∷ xs) ≡ 1 + open_in kept xs = cons_open kept x xs
        ∙ ap (λ b. tally b + open_in kept xs) (ap (λ y. is_none (kept y)) e ∙ open_) in
        let b : open_in (set_at kept w (Some set)) (x ∷ xs)
        ≡ 0 + open_in (set_at kept w (Some set)) xs =
        cons_open (set_at kept w (Some set)) x xs ∙ ap (λ o. tally (is_none o) + open_in (set_at
        kept w (Some set)) xs) (ap (set_at kept w (Some set)) e ∙ set_same kept w (Some set)) in
        let c : open_in (set_at kept w (Some set)) xs ≡ open_in kept xs =
        apart_open kept w set xs (subst (λ y. is_in xs y ≡ false) e apart.0) in
        let d : tally (is_in (x ∷ xs) w) ≡ 1 =
        ap tally (subst (λ y. is_in (x ∷ xs) y ≡ true) e (is_in_first x xs)) in
        omega (arith, a, b, c, d)

    there : open_in kept xs ≡ open_in (set_at kept w (Some set)) xs + tally (is_in xs w) →
        (x ≡ w → ⊥) → open_in kept (x ∷ xs) ≡ open_in (set_at kept w (Some set)) (x ∷ xs)
        + tally (is_in (x ∷ xs) w)
    there c ne =
        let a = cons_open kept x xs in
        let b : open_in (set_at kept w (Some set)) (x ∷ xs) ≡ tally (is_none (kept x))
        + open_in (set_at kept w (Some set)) xs =
        cons_open (set_at kept w (Some set)) x xs ∙ ap (λ o. tally (is_none o)
        + open_in (set_at kept w (Some set)) xs) (set_other kept w (Some set) x ne) in
        let d : tally (is_in (x ∷ xs) w) ≡ tally (is_in xs w) =
        ap (λ t. tally (t || is_in xs w)) (ne_eqb x w ne) in
        omega (arith, a, b, c, d)

-- none is missing where all are committed
pub all_committed : (kept : ℕ → Option (List ℕ)) (xs : List ℕ) → open_in kept xs ≡ 0 →
    All (λ w. IsSome (kept w)) xs
all_committed kept [] e = All-nil (λ w. IsSome (kept w))
all_committed kept (x ∷ xs) e =
    let a = cons_open kept x xs in
    All-cons (λ w. IsSome (kept w)) x xs (by_option (kept x) (omega (arith, a, e)))
    (all_committed kept xs (omega (arith, a, e)))
  where
    by_option : (o : Option (List ℕ)) → tally (is_none o) ≡ 0 → IsSome o
    by_option None h = absurd (omega (arith, h))
    by_option (Some set) h = refl

pub none_open : (kept : ℕ → Option (List ℕ)) (xs : List ℕ) → All (λ w. IsSome (kept w)) xs →
    open_in kept xs ≡ 0
none_open kept [] all = refl
none_open kept (x ∷ xs) all =
    let a = cons_open kept x xs in
    let b = by_option (kept x) (All-head (λ w. IsSome (kept w)) x xs all) in
    let c = none_open kept xs (All-tail (λ w. IsSome (kept w)) x xs all) in
    omega (arith, a, b, c)
  where
    by_option : (o : Option (List ℕ)) → IsSome o → tally (is_none o) ≡ 0
    by_option None h = cc
    by_option (Some set) h = refl

-- ---- the two words for nothing

pub none_is : {X : Type 0} (o : Option X) → IsNone o → is_none o ≡ true
none_is None h = refl
none_is (Some x) h = cc

pub is_none_is : {X : Type 0} (o : Option X) → is_none o ≡ true → IsNone o
is_none_is None h = refl
is_none_is (Some x) h = cc
