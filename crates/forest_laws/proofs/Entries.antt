-- Entries of lists that are written.
use Rattle.std.proofs.Common.{◌≡◌, ℕ, ◌<◌, ◌==◌, Bool, true, false, cond, List, length, get_or, set, refl, sym, ap, ◌∙◌, subst, ⊎_elim, eq-eqb}
use Rattle.std.proofs.lemmas.Bool.{cases_eq, ne_eqb}
use Rattle.std.proofs.lemmas.List.{get_or-set_same, get_or-set_other}

pub set_at : {X : Type 0} (xs : List X) (i : ℕ) (x d : X) (j : ℕ) → i < length xs →
    get_or (set xs i x) j d ≡ cond (i == j) x (get_or xs j d)
set_at xs i x d j low = ⊎_elim
    (λ e. subst (λ z. get_or (set xs i x) z d ≡ cond (i == z) x (get_or xs z d)) e
    (get_or-set_same xs i x d low ∙ sym (ap (λ b. cond b x (get_or xs i d)) (eq-eqb i i refl))))
    (λ ne. get_or-set_other xs i j x d (λ e. ne (sym e))
    ∙ sym (ap (λ b. cond b x (get_or xs j d)) (ne_eqb i j ne)))
    (cases_eq i j)

pub of_cond : {X Y : Type 0} (f : X → Y) (b : Bool) (x y : X) → f (cond b x y) ≡ cond b (f x) (f y)
of_cond f true x y = refl
of_cond f false x y = refl
