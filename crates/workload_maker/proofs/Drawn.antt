-- Errors that are drawn one by one.
use Rattle.std.proofs.Common.{◌≡◌, ℕ, zero, suc, ◌%◌, ◌==◌, ◌<◌, ◌≤◌, ◌+◌, Bool, true, false, cond, List, [], ◌∷◌, ◌++◌, append_assoc, append-nil, length, drop, get_or, sym, ap, ◌∙◌, refl, subst, All, arith}
use Rattle.std.specs.Prelude.{Contains}
use Rattle.std.proofs.lemmas.List.{drop_all, drop_more, get_or-map, length-map, map-append}
use Rattle.rand_pcg.specs.Lcg.{Lcg}
use Rattle.rand_pcg.specs.Pcg.{pcg32}
use Rattle.surface_model.specs.Errors as errors
use Rattle.error_map.specs.Seen.{mechanism_of, mechanisms_of}
use Rattle.error_map.specs.declared.types.Mechanism.{Mechanism}
use Rattle.workload_maker.specs.Draws.{happening, rarity}

-- ---- the loop

pub draw_start : (g : Lcg) (xs : List Mechanism) →
    happening g (mechanisms_of xs) ≡ [] ++ happening g (mechanisms_of (drop 0 xs))
draw_start g xs = refl

one_drawn : (g : Lcg) (x : Mechanism) (xs : List Mechanism) (so_far : List errors.Mechanism) →
    so_far ++ happening g (mechanisms_of (x ∷ xs))
    ≡ (so_far ++ mechanisms_of (cond ((pcg32 g).0 % rarity == 0) (x ∷ []) []))
    ++ happening (pcg32 g).1 (mechanisms_of xs)
unfolding happening
one_drawn g x xs so_far = by_test ((pcg32 g).0 % rarity == 0)
  where
    rest : List errors.Mechanism
    rest = happening (pcg32 g).1 (mechanisms_of xs)

    by_test : (t : Bool) → so_far ++ cond t (mechanism_of x ∷ rest) rest
        ≡ (so_far ++ mechanisms_of (cond t (x ∷ []) [])) ++ rest
    by_test true = sym (append_assoc so_far (mechanism_of x ∷ []) rest)
    by_test false = ap (λ t. t ++ rest) (sym (append-nil so_far))

pub draw_more : (start g next : Lcg) (word : ℕ) (xs old new : List Mechanism) (i : ℕ)
    (d : Mechanism) → i < length xs → (word, next) ≡ pcg32 g →
    new ≡ old ++ cond (word % rarity == 0) (get_or xs i d ∷ []) [] →
    happening start (mechanisms_of xs)
    ≡ mechanisms_of old ++ happening g (mechanisms_of (drop i xs)) →
    happening start (mechanisms_of xs)
    ≡ mechanisms_of new ++ happening next (mechanisms_of (drop (i + 1) xs))
draw_more start g next word xs old new i d l drawn pushed is =
    let x = get_or xs i d in
    let rest = drop (i + 1) xs in
    is ∙ ap (λ ys. mechanisms_of old ++ happening g (mechanisms_of ys)) (drop_more xs i d l)
    ∙ one_drawn g x rest (mechanisms_of old)
    ∙ ap (λ w. (mechanisms_of old ++ mechanisms_of (cond (w % rarity == 0) (x ∷ []) []))
    ++ happening (pcg32 g).1 (mechanisms_of rest)) (sym (ap (λ p. p.0) drawn))
    ∙ ap (λ n. (mechanisms_of old ++ mechanisms_of (cond (word % rarity == 0) (x ∷ []) []))
    ++ happening n (mechanisms_of rest)) (sym (ap (λ p. p.1) drawn))
    ∙ ap (λ ys. ys ++ happening next (mechanisms_of rest))
    (sym (map-append mechanism_of old (cond (word % rarity == 0) (x ∷ []) [])))
    ∙ ap (λ ys. mechanisms_of ys ++ happening next (mechanisms_of rest)) (sym pushed)

pub draw_end : (start g : Lcg) (xs old : List Mechanism) (i : ℕ) → length xs ≤ i →
    happening start (mechanisms_of xs)
    ≡ mechanisms_of old ++ happening g (mechanisms_of (drop i xs)) →
    mechanisms_of old ≡ happening start (mechanisms_of xs)
unfolding happening
draw_end start g xs old i l is =
    sym (is ∙ ap (λ ys. mechanisms_of old ++ happening g (mechanisms_of ys)) (drop_all i xs l)
    ∙ append-nil (mechanisms_of old))

-- ---- what happens is one of the errors

later : (x : errors.Mechanism) (es : List errors.Mechanism) (e : errors.Mechanism) →
    Contains es e → Contains (x ∷ es) e
later x es e (k, l, s) = (suc k, omega (arith, l), s)

happening_in : (g : Lcg) (es : List errors.Mechanism) (e : errors.Mechanism) →
    Contains (happening g es) e → Contains es e
unfolding happening
happening_in g [] e m = m
happening_in g (x ∷ es) e m =
    by_test (happening_in (pcg32 g).1 es e) ((pcg32 g).0 % rarity == 0) m
  where
    by_test : (Contains (happening (pcg32 g).1 es) e → Contains es e) → (t : Bool) →
        Contains (cond t (x ∷ happening (pcg32 g).1 es) (happening (pcg32 g).1 es)) e →
        Contains (x ∷ es) e
    by_test rest true (zero, l, s) = (0, omega arith, s)
    by_test rest true (suc k, l, s) = later x es e (rest (k, omega (arith, l), s))
    by_test rest false k = later x es e (rest k)

pub all_known : (g : Lcg) (es : List errors.Mechanism) (xs : List Mechanism) →
    mechanisms_of xs ≡ happening g es → All (λ x. Contains es (mechanism_of x)) xs
all_known g es xs is k d l =
    let x = get_or xs k d in
    let within : k < length (mechanisms_of xs) =
    subst (λ n. k < n) (sym (length-map xs mechanism_of)) l in
    let has : Contains (mechanisms_of xs) (mechanism_of x) =
    (k, within, get_or-map mechanism_of xs k d (mechanism_of x) l) in
    happening_in g es (mechanism_of x)
    (subst (λ ys. Contains ys (mechanism_of x)) is has)
