-- What the looks at all windows and all operations say.
use Rattle.std.proofs.Common.{◌≡◌, ℕ, ◌+◌, ◌<◌, ◌≤◌, false, true, Bool, ⊎_elim, refl, sym, ap, ◌∙◌, subst, length, arith, Option, None, Some, is_none, unwrap_or, List, [], IsSome}
use Rattle.std.proofs.lemmas.Bool.{cases_eq, false≢true}
use Rattle.std.proofs.lemmas.Option.{none-some}
use Rattle.window_model.specs.Speculation.{Phase, Waiting, Running, Held, Done, done, held_by, standing}
use Rattle.cascade_laws.specs.Turns.{is_done}

pub done_some : (phase : Phase) → is_done phase ≡ true → IsSome (done phase)
done_some Waiting e = absurd (false≢true e)
done_some (Running k) e = absurd (false≢true e)
done_some (Held k) e = absurd (false≢true e)
done_some (Done k) e = refl

pub done_none : (phase : Phase) → is_done phase ≡ false → ¬ IsSome (done phase)
done_none Waiting e some = false≢true some
done_none (Running k) e some = false≢true some
done_none (Held k) e some = false≢true some
done_none (Done k) e some = false≢true (sym e)

pub none_not : (o : Option Bool) → is_none o ≡ true → ¬ IsSome o
none_not None e some = false≢true some
none_not (Some b) e some = false≢true e

pub some_is : (o : Option Bool) → is_none o ≡ false → IsSome o
some_is None e = absurd (false≢true (sym e))
some_is (Some b) e = refl

-- what holds below n and at n holds below n + 1
pub one_further : (P : ℕ → Type 0) (n : ℕ) → ((i : ℕ) → i < n → P i) → P n → (i : ℕ) →
    i < n + 1 → P i
one_further P n below at_ i l =
    ⊎_elim (λ (e : i ≡ n). subst P (sym e) at_)
    (λ (ne : i ≡ n → ⊥). below i (omega (arith, l, ne))) (cases_eq i n)

pub stands_held : (phase : Phase) (k : ℕ) → standing phase ≡ Some k → held_by phase ≡ Some k
stands_held Waiting k e = e
stands_held (Running j) k e = absurd (none-some k e)
stands_held (Held j) k e = e
stands_held (Done j) k e = e

pub some_result : (o : Option (List ℕ)) → IsSome o → o ≡ Some (unwrap_or o [])
some_result None some = absurd (false≢true some)
some_result (Some set) some = refl
