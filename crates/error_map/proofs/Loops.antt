-- Steps of loops over lists.
use Rattle.std.proofs.Common.{◌≡◌, ℕ, zero, suc, arith, ◌+◌, ◌<◌, ◌≤◌, Option, Some, None, List, [], ◌∷◌, ◌++◌, refl, sym, ap, ◌∙◌, subst, length, take, get_or}
use Rattle.std.specs.Prelude.{option_to_list}
use Rattle.std.specs.List.{filter_map, cons_option}
use Rattle.std.proofs.lemmas.List.{append_assoc, map-append, take_more}
use Rattle.std.proofs.lemmas.List.Elements.{filter_map-append}
use Rattle.surface_model.specs.Layout.{Place}
use Rattle.surface_model.specs.Errors.{ErrorClass, Mechanism, of_class}

-- the whole list, at the end of a loop
pub take_whole : {X : Type 0} (ys xs : List X) → ys ≡ xs → (i : ℕ) → length ys ≤ i → take i xs ≡ xs
take_whole {X} ys xs q i l = by_list i xs (subst (λ zs. length zs ≤ i) q l)
  where
    by_list : (i : ℕ) (xs : List X) → length xs ≤ i → take i xs ≡ xs
    by_list zero [] l = refl
    by_list (suc i) [] l = refl
    by_list zero (x ∷ xs) l = absurd (omega arith)
    by_list (suc i) (x ∷ xs) l = ap (λ zs. x ∷ zs) (by_list i xs (omega arith))

cons_option_is : {Y : Type 0} (o : Option Y) → cons_option o [] ≡ option_to_list o
cons_option_is (Some y) = refl
cons_option_is None = refl

-- one turn of a loop that lists a class's mechanisms
pub listed_turn : {X : Type 0} (h : X → Option Place) (t : ℕ) (class : ErrorClass)
    (before : List Mechanism) (xs : List X) (i : ℕ) (x : X) → i < length xs → x ≡ get_or xs i x →
    (old new : List Mechanism) → old ≡ before ++ of_class t class (filter_map h (take i xs)) →
    new ≡ old ++ of_class t class (option_to_list (h x)) →
    new ≡ before ++ of_class t class (filter_map h (take (i + 1) xs))
listed_turn h t class before xs i x l at old new e k =
    k ∙ ap (λ ms. ms ++ of_class t class (option_to_list (h x))) e
    ∙ append_assoc before (of_class t class (filter_map h (take i xs)))
    (of_class t class (option_to_list (h x)))
    ∙ ap (λ ms. before ++ ms)
    (sym (ap (λ ys. of_class t class (filter_map h ys)) (take_more xs i x l)
    ∙ ap (of_class t class) (filter_map-append h (take i xs) (get_or xs i x ∷ [])
    ∙ ap (λ ys. filter_map h (take i xs) ++ ys) (ap (λ z. cons_option (h z) []) (sym at)
    ∙ cons_option_is (h x)))
    ∙ map-append (λ (p : Place). record { slot = t; class = class; place = p })
    (filter_map h (take i xs)) (option_to_list (h x))))
