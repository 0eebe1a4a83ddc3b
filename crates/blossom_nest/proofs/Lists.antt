-- Lists of names, and one list among several.
use Rattle.std.proofs.Common.{Result, Ok, Err, IsOk, is_ok, ◌≡◌, ◌≢◌, ℕ, zero, suc, ◌<◌, ◌==◌, ◌⊎◌, ◌||◌, Bool, true, false, cond, List, [], ◌∷◌, ◌++◌, length, get_or, slice_set, take, ⊎_elim, refl, sym, ap, ◌∙◌, subst, arith}
use Rattle.std.proofs.lemmas.Bool.{false≢true, ne_eqb, or_cases, or_left, or_right, true≢false}
use Rattle.std.proofs.lemmas.List.{get_or-set_same, get_or-set_other}
use Rattle.std.proofs.lemmas.List.Folds.{list_any-append}
use Rattle.std.proofs.Math.ListN.{length-set}
use Rattle.std.specs.List.{AllByRecursion}
use Rattle.graph_model.specs.Graph.{is_in}
use Rattle.graph_model.proofs.Members.{is_in_cases, is_in_first, is_in_rest}
use Rattle.link_lists.specs.Lists.{Lists, IsApart, Lacks, list_at, with_list}

pub decide : (b : Bool) (G : Type 0) → (b ≡ true → G) → (b ≡ false → G) → G
decide true G yes_ no_ = yes_ refl
decide false G yes_ no_ = no_ refl

pub chosen : {A : Type 0} (b : Bool) (x y : A) → b ≡ true → cond b x y ≡ x
chosen b x y e = ap (λ t. cond t x y) e

pub left_over : {A : Type 0} (b : Bool) (x y : A) → b ≡ false → cond b x y ≡ y
left_over b x y e = ap (λ t. cond t x y) e

pub none_in : (x : ℕ) → is_in [] x ≡ true → ⊥
none_in x t = false≢true t

pub not_both : (b : Bool) → b ≡ true → b ≡ false → ⊥
not_both b t f = true≢false (sym t ∙ f)

pub is_false : (b : Bool) → (b ≡ true → ⊥) → b ≡ false
is_false true h = absurd (h refl)
is_false false h = refl

-- ---- members
pub member_of : (P : ℕ → Type 0) (xs : List ℕ) → AllByRecursion P xs → (v : ℕ) → is_in xs v ≡ true →
    P v
member_of P [] h v m = absurd (false≢true m)
member_of P (x ∷ xs) h v m =
    ⊎_elim (λ e. subst P e h.0) (λ k. member_of P xs h.1 v k) (is_in_cases x v xs m)

pub each_of : (P : ℕ → Type 0) (xs : List ℕ) → ((v : ℕ) → is_in xs v ≡ true → P v) →
    AllByRecursion P xs
each_of P [] h = tt
each_of P (x ∷ xs) h = (h x (is_in_first x xs), each_of P xs (λ v m. h v (is_in_rest x v xs m)))

pub in_front : (xs ys : List ℕ) (v : ℕ) → is_in xs v ≡ true → is_in (xs ++ ys) v ≡ true
in_front xs ys v m = list_any-append (λ y. y == v) xs ys ∙ or_left (is_in xs v) (is_in ys v) m

pub in_back : (xs ys : List ℕ) (v : ℕ) → is_in ys v ≡ true → is_in (xs ++ ys) v ≡ true
in_back xs ys v m = list_any-append (λ y. y == v) xs ys ∙ or_right (is_in xs v) (is_in ys v) m

pub in_either : (xs ys : List ℕ) (v : ℕ) → is_in (xs ++ ys) v ≡ true → (is_in xs v ≡ true)
    ⊎ (is_in ys v ≡ true)
in_either xs ys v m = or_cases (is_in xs v) (is_in ys v) (sym (list_any-append (λ y. y == v) xs ys)
    ∙ m)

pub only_one : (x v : ℕ) → is_in (x ∷ []) v ≡ true → x ≡ v
only_one x v m = ⊎_elim (λ e. e) (λ k. absurd (false≢true k)) (is_in_cases x v [] m)

-- one more at the end
pub in_more : (xs : List ℕ) (x v : ℕ) → v ≢ x → is_in (xs ++ x ∷ []) v ≡ is_in xs v
in_more [] x v d = ap (λ b. b || false) (ne_eqb x v (λ e. d (sym e)))
in_more (y ∷ ys) x v d = ap (λ b. y == v || b) (in_more ys x v d)

-- ---- no element twice
pub lacks_in : (x : ℕ) (xs : List ℕ) → Lacks x xs → is_in xs x ≡ true → ⊥
lacks_in x xs l m = member_of (λ y. y ≢ x) xs l x m refl

pub in_lacks : (x : ℕ) (xs : List ℕ) → (is_in xs x ≡ true → ⊥) → Lacks x xs
in_lacks x xs h = each_of (λ y. y ≢ x) xs (λ v m e. h (subst (λ z. is_in xs z ≡ true) e m))

pub apart_more : (xs : List ℕ) (x : ℕ) → IsApart xs → Lacks x xs → IsApart (xs ++ x ∷ [])
apart_more [] x a l = (tt, tt)
apart_more (y ∷ ys) x a l = (all_more ys a.0, apart_more ys x a.1 l.1)
  where
    all_more : (zs : List ℕ) → Lacks y zs → Lacks y (zs ++ x ∷ [])
    all_more [] k = (λ e. l.0 (sym e), tt)
    all_more (z ∷ zs) k = (k.0, all_more zs k.1)

pub apart_less : (xs : List ℕ) (x : ℕ) → IsApart (xs ++ x ∷ []) → IsApart xs × Lacks x xs
apart_less [] x a = (tt, tt)
apart_less (y ∷ ys) x a =
    let rest = apart_less ys x a.1 in
    let front = all_less ys a.0 in
    ((front.0, rest.0), (λ e. front.1 (sym e), rest.1))
  where
    all_less : (zs : List ℕ) → Lacks y (zs ++ x ∷ []) → Lacks y zs × (x ≢ y)
    all_less [] k = (tt, k.0)
    all_less (z ∷ zs) k = let m = all_less zs k.1 in ((k.0, m.0), m.1)

pub at_place : (P : ℕ → Type 0) (xs : List ℕ) (i : ℕ) → AllByRecursion P xs → i < length xs →
    P (get_or xs i 0)
at_place P [] i h l = absurd (omega arith)
at_place P (x ∷ xs) zero h l = h.0
at_place P (x ∷ xs) (suc i) h l = at_place P xs i h.1 (omega arith)

pub before_apart : (xs : List ℕ) (i : ℕ) → IsApart xs → i < length xs →
    is_in (take i xs) (get_or xs i 0) ≡ false
before_apart [] i a l = absurd (omega arith)
before_apart (x ∷ xs) zero a l = refl
before_apart (x ∷ xs) (suc i) a l =
    let other : (x == get_or xs i 0) ≡ false =
    ne_eqb x (get_or xs i 0) (λ e. at_place (λ y. y ≢ x) xs i a.0 (omega arith) (sym e)) in
    ap (λ b. b || is_in (take i xs) (get_or xs i 0)) other ∙ before_apart xs i a.1 (omega arith)

-- ---- one of several lists
pub put_here : (s : Lists) (l : ℕ) (xs : List ℕ) → l < length s.lists → list_at (with_list s l xs) l
    ≡ xs
put_here s l xs lt = get_or-set_same s.lists l xs [] lt

pub put_other : (s : Lists) (l m : ℕ) (xs : List ℕ) → m ≢ l → list_at (with_list s l xs) m
    ≡ list_at s m
put_other s l m xs d = get_or-set_other s.lists l m xs [] d

pub set_twice : {A : Type 0} (xs : List A) (i : ℕ) (x y : A) → slice_set (slice_set xs i x) i y
    ≡ slice_set xs i y
set_twice [] i x y = refl
set_twice (z ∷ zs) zero x y = refl
set_twice (z ∷ zs) (suc i) x y = ap (λ ws. z ∷ ws) (set_twice zs i x y)

pub put_twice : (s : Lists) (l : ℕ) (xs ys : List ℕ) → with_list (with_list s l xs) l ys
    ≡ with_list s l ys
put_twice s l xs ys = ap (λ ls. record { nodes = s.nodes; lists = ls }) (set_twice s.lists l xs ys)

pub put_len : (s : Lists) (l : ℕ) (xs : List ℕ) → length (with_list s l xs).lists ≡ length s.lists
put_len s l xs = length-set s.lists l xs

-- ---- what a call that can't fail gives
pub ok_choice : {T E A : Type 0} (made : Result T E) (x y : A) → IsOk made → cond (is_ok made) x y
    ≡ x
ok_choice (Ok v) x y h = refl
ok_choice (Err e) x y h = absurd (false≢true h)
