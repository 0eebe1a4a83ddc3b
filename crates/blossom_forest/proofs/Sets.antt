-- What holds of a list, element by element from the back.
use Rattle.std.proofs.Common.{◌≡◌, ◌<◌, ◌≤◌, ◌+◌, ◌-◌, ℕ, zero, suc, List, [], ◌∷◌, drop, take, length-drop, get_or, length, refl, subst, arith, add-one}
use Rattle.std.specs.List.{AllByRecursion}
use Rattle.std.proofs.lemmas.List.{take_all}
use Rattle.link_lists.specs.Lists.{IsApart, Lacks}

suc_all : (P : ℕ → Type 0) (xs : List ℕ) (i : ℕ) → i < length xs → P (get_or xs i 0) →
    AllByRecursion P (drop (suc i) xs) → AllByRecursion P (drop i xs)
suc_all P [] i l p h = absurd (omega arith)
suc_all P (x ∷ xs) zero l p h = (p, h)
suc_all P (x ∷ xs) (suc i) l p h = suc_all P xs i (omega arith) p h

pub one_more : (P : ℕ → Type 0) (xs : List ℕ) (i : ℕ) → i < length xs → P (get_or xs i 0) →
    AllByRecursion P (drop (i + 1) xs) → AllByRecursion P (drop i xs)
one_more P xs i l p h = suc_all P xs i l p (subst (λ j. AllByRecursion P (drop j xs)) (add-one i) h)

suc_apart : (xs : List ℕ) (i : ℕ) → i < length xs → Lacks (get_or xs i 0) (drop (suc i) xs) →
    IsApart (drop (suc i) xs) → IsApart (drop i xs)
suc_apart [] i l p h = absurd (omega arith)
suc_apart (x ∷ xs) zero l p h = (p, h)
suc_apart (x ∷ xs) (suc i) l p h = suc_apart xs i (omega arith) p h

pub one_more_apart : (xs : List ℕ) (i : ℕ) → i < length xs →
    Lacks (get_or xs i 0) (drop (i + 1) xs) → IsApart (drop (i + 1) xs) → IsApart (drop i xs)
one_more_apart xs i l p h = suc_apart xs i l (subst (λ j. Lacks (get_or xs i 0) (drop j xs))
    (add-one i) p) (subst (λ j. IsApart (drop j xs)) (add-one i) h)

pub none_left : (xs : List ℕ) (i : ℕ) → length xs ≤ i → drop i xs ≡ []
none_left [] zero l = refl
none_left [] (suc i) l = refl
none_left (x ∷ xs) zero l = absurd (omega arith)
none_left (x ∷ xs) (suc i) l = none_left xs i (omega arith)

pub all_end : (P : ℕ → Type 0) (xs : List ℕ) (i : ℕ) → length xs ≤ i → AllByRecursion P (drop i xs)
all_end P xs i l = subst (AllByRecursion P) (let e : [] ≡ drop i xs =
    (let k = none_left xs i l in cc) in e) tt

pub apart_end : (xs : List ℕ) (i : ℕ) → length xs ≤ i → IsApart (drop i xs)
apart_end xs i l = subst IsApart (let k = none_left xs i l in let e : [] ≡ drop i xs = cc in e) tt

-- a part of a list that goes on to its end
pub lacks_cut : (x : ℕ) (xs : List ℕ) (i : ℕ) → Lacks x (take (length xs - i) (drop i xs)) →
    Lacks x (drop i xs)
lacks_cut x xs i h =
    subst (Lacks x) (take_all (length xs - i) (drop i xs) (omega (arith, length-drop i xs))) h
