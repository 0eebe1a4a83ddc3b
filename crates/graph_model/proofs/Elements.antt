-- Membership in a list of anything, and what it is in lists that are made of others.
use Rattle.std.proofs.Common.{◌≡◌, ℕ, zero, suc, ◌+◌, ◌<◌, ◌≤◌, ◌⊎◌, ⊎_elim, inl, inr, Bool, true, false, cond, ◌||◌, List, [], ◌∷◌, ◌++◌, refl, sym, ap, ◌∙◌, arith, filter, map, flat_map, fold, max, subst, length, get_or, All, Contains, Option, Some, None, slice_get}
use Rattle.std.specs.List.{list_any, filter_map, cons_option, range_with_len}
use Rattle.std.proofs.lemmas.Option.{none-some, same_Some, slice_get_within, get_or_from_slice_get}
use Rattle.std.proofs.lemmas.List.{same_lists, length-map, get_or-map, get_or_default}
use Rattle.std.proofs.lemmas.Bool.{or_cases, or_left, or_right, false≢true, true≢false, cases_eq}
use Rattle.graph_model.specs.Members.{In}

pub any_in : {X : Type 0} (p : X → Bool) (xs : List X) → list_any p xs ≡ true → (x : X) × In x xs
    × (p x ≡ true)
any_in p [] h = absurd (false≢true h)
any_in p (y ∷ ys) h = ⊎_elim (λ e. (y, inl refl, e)) (λ r. let k = any_in p ys r in
    (k.0, inr k.1, k.2)) (or_cases (p y) (list_any p ys) h)

pub in_any : {X : Type 0} (p : X → Bool) (xs : List X) (x : X) → In x xs → p x ≡ true →
    list_any p xs ≡ true
in_any p [] x m h = absurd m
in_any p (y ∷ ys) x m h =
    ⊎_elim (λ e. or_left (p y) (list_any p ys) (ap p e ∙ h)) (λ r.
    or_right (p y) (list_any p ys) (in_any p ys x r h)) m

-- a filter's step, by the test of the first element
kept_step : {X : Type 0} (p : X → Bool) (y : X) (rest kept : List X) (x : X) →
    (In x kept → In x rest × (p x ≡ true)) → (b : Bool) → p y ≡ b → In x (cond b (y ∷ kept) kept) →
    ((y ≡ x) ⊎ In x rest) × (p x ≡ true)
kept_step p y rest kept x more true e k =
    ⊎_elim (λ here. (inl here, ap p (sym here) ∙ e)) (λ r. let i = more r in (inr i.0, i.1)) k
kept_step p y rest kept x more false e k = let i = more k in (inr i.0, i.1)

pub in_filter : {X : Type 0} (p : X → Bool) (xs : List X) (x : X) → In x (filter p xs) →
    In x xs × (p x ≡ true)
in_filter p [] x m = absurd m
in_filter p (y ∷ ys) x m = kept_step p y ys (filter p ys) x (in_filter p ys x) (p y) refl m

keeps_step : {X : Type 0} (p : X → Bool) (y : X) (rest kept : List X) (x : X) →
    p x ≡ true → (In x rest → In x kept) → (b : Bool) → p y ≡ b → (y ≡ x) ⊎ In x rest →
    In x (cond b (y ∷ kept) kept)
keeps_step p y rest kept x h more true e k = ⊎_elim (λ here. inl here) (λ r. inr (more r)) k
keeps_step p y rest kept x h more false e k =
    ⊎_elim (λ here. absurd (true≢false (sym h ∙ ap p (sym here) ∙ e))) (λ r. more r) k

pub filter_in : {X : Type 0} (p : X → Bool) (xs : List X) (x : X) → In x xs → p x ≡ true →
    In x (filter p xs)
filter_in p [] x m h = absurd m
filter_in p (y ∷ ys) x m h = keeps_step p y ys (filter p ys) x h (λ r. filter_in p ys x r h) (p y)
    refl m

pub in_map : {X Y : Type 0} (f : X → Y) (xs : List X) (y : Y) → In y (map f xs) → (x : X) × In x xs
    × (f x ≡ y)
in_map f [] y m = absurd m
in_map f (x ∷ xs) y m = ⊎_elim (λ e. (x, inl refl, e)) (λ r. let k = in_map f xs y r in
    (k.0, inr k.1, k.2)) m

pub map_in : {X Y : Type 0} (f : X → Y) (xs : List X) (x : X) → In x xs → In (f x) (map f xs)
map_in f [] x m = absurd m
map_in f (y ∷ ys) x m = ⊎_elim (λ e. inl (ap f e)) (λ r. inr (map_in f ys x r)) m

pub in_append : {X : Type 0} (xs ys : List X) (x : X) → In x (xs ++ ys) → In x xs ⊎ In x ys
in_append [] ys x m = inr m
in_append (z ∷ zs) ys x m =
    ⊎_elim (λ e. inl (inl e)) (λ r. ⊎_elim (λ a. inl (inr a)) (λ b. inr b) (in_append zs ys x r)) m

pub append_left : {X : Type 0} (xs ys : List X) (x : X) → In x xs → In x (xs ++ ys)
append_left [] ys x m = absurd m
append_left (z ∷ zs) ys x m = ⊎_elim (λ e. inl e) (λ r. inr (append_left zs ys x r)) m

pub append_right : {X : Type 0} (xs ys : List X) (x : X) → In x ys → In x (xs ++ ys)
append_right [] ys x m = m
append_right (z ∷ zs) ys x m = inr (append_right zs ys x m)

pub in_flat_map : {X Y : Type 0} (f : X → List Y) (xs : List X) (y : Y) → In y (flat_map f xs) →
    (x : X) × In x xs × In y (f x)
in_flat_map f [] y m = absurd m
in_flat_map f (x ∷ xs) y m =
    ⊎_elim (λ here. (x, inl refl, here)) (λ r. let k = in_flat_map f xs y r in
    (k.0, inr k.1, k.2)) (in_append (f x) (flat_map f xs) y m)

pub flat_map_in : {X Y : Type 0} (f : X → List Y) (xs : List X) (x : X) (y : Y) → In x xs →
    In y (f x) → In y (flat_map f xs)
flat_map_in f [] x y m h = absurd m
flat_map_in f (z ∷ zs) x y m h =
    ⊎_elim (λ e. append_left (f z) (flat_map f zs) y (subst (λ w. In y (f w)) (sym e) h)) (λ r.
    append_right (f z) (flat_map f zs) y (flat_map_in f zs x y r h)) m

in_cons : {Y : Type 0} (o : Option Y) (ys : List Y) (y : Y) → In y (cons_option o ys) → (o ≡ Some y)
    ⊎ In y ys
in_cons (Some x) ys y (inl e) = inl (ap Some e)
in_cons (Some x) ys y (inr m) = inr m
in_cons None ys y m = inr m

pub in_filter_map : {X Y : Type 0} (h : X → Option Y) (xs : List X) (y : Y) →
    In y (filter_map h xs) → (x : X) × In x xs × (h x ≡ Some y)
in_filter_map h [] y m = absurd m
in_filter_map h (x ∷ xs) y m = ⊎_elim (λ e. (x, inl refl, e)) (λ r.
    let k = in_filter_map h xs y r in (k.0, inr k.1, k.2)) (in_cons (h x) (filter_map h xs) y m)

cons_here : {Y : Type 0} (o : Option Y) (ys : List Y) (y : Y) → o ≡ Some y → In y (cons_option o ys)
cons_here o ys y e = subst (λ p. In y (cons_option p ys)) (sym e) (inl refl)

cons_rest : {Y : Type 0} (o : Option Y) (ys : List Y) (y : Y) → In y ys → In y (cons_option o ys)
cons_rest (Some x) ys y m = inr m
cons_rest None ys y m = m

pub filter_map_in : {X Y : Type 0} (h : X → Option Y) (xs : List X) (x : X) (y : Y) → In x xs →
    h x ≡ Some y → In y (filter_map h xs)
filter_map_in h [] x y m e = absurd m
filter_map_in h (z ∷ zs) x y (inl s) e = cons_here (h z) (filter_map h zs) y (ap h s ∙ e)
filter_map_in h (z ∷ zs) x y (inr m) e =
    cons_rest (h z) (filter_map h zs) y (filter_map_in h zs x y m e)

-- the place of a member, and the member at a place
pub place_in : {X : Type 0} (xs : List X) (x : X) → In x xs → (k : ℕ) × (slice_get xs k ≡ Some x)
place_in [] x m = absurd m
place_in (y ∷ ys) x (inl e) = (0, ap Some e)
place_in (y ∷ ys) x (inr m) = let k = place_in ys x m in (suc k.0, k.1)

pub in_at : {X : Type 0} (xs : List X) (k : ℕ) (x : X) → slice_get xs k ≡ Some x → In x xs
in_at [] k x e = absurd (none-some x e)
in_at (y ∷ ys) zero x e = inl (same_Some y x e)
in_at (y ∷ ys) (suc k) x e = inr (in_at ys k x e)

-- what stands at a place of a mapped list is made of what stands there
pub mapped_at : {X Y : Type 0} (f : X → Y) (xs : List X) (k : ℕ) (y : Y) →
    slice_get (map f xs) k ≡ Some y → (x : X) × (slice_get xs k ≡ Some x) × (y ≡ f x)
mapped_at f [] k y e = absurd (none-some y e)
mapped_at f (x ∷ xs) zero y e = (x, refl, sym (same_Some (f x) y e))
mapped_at f (x ∷ xs) (suc k) y e = mapped_at f xs k y e

pub get_in : {X : Type 0} (xs : List X) (k : ℕ) (d : X) → k < length xs → In (get_or xs k d) xs
get_in [] k d l = absurd (omega arith)
get_in (x ∷ xs) zero d l = inl refl
get_in (x ∷ xs) (suc k) d l = inr (get_in xs k d (omega arith))

pub contains_in : {X : Type 0} (xs : List X) (x : X) → In x xs → Contains xs x
contains_in xs x m = let k = place_in xs x m in at_place k.0 k.1
  where
    at_place : (k : ℕ) → slice_get xs k ≡ Some x → Contains xs x
    at_place k e = (k, slice_get_within xs k x e, get_or_from_slice_get xs k x x e)

-- ---- what holds of each member
pub all_at : {X : Type 0} (P : X → Type 0) (xs : List X) (x : X) → All P xs → In x xs → P x
all_at P [] x all m = absurd m
all_at P (y ∷ ys) x all (inl e) = subst P e (all 0 y (omega arith))
all_at P (y ∷ ys) x all (inr m) = all_at P ys x (λ k d l. all (suc k) d (omega arith)) m

pub all_of : {X : Type 0} (P : X → Type 0) (xs : List X) → ((x : X) → In x xs → P x) → All P xs
all_of P [] h k d l = absurd (omega arith)
all_of P (x ∷ xs) h zero d l = h x (inl refl)
all_of P (x ∷ xs) h (suc k) d l = all_of P xs (λ y m. h y (inr m)) k d (omega arith)

pub any_same : {X : Type 0} (p q : X → Bool) (xs : List X) → ((x : X) → In x xs → p x ≡ q x) →
    list_any p xs ≡ list_any q xs
any_same p q [] h = refl
any_same p q (x ∷ xs) h = ap (λ t. t || list_any p xs) (h x (inl refl))
    ∙ ap (λ t. q x || t) (any_same p q xs (λ y m. h y (inr m)))

pub kept_same : {X : Type 0} (p q : X → Bool) (xs : List X) → ((x : X) → In x xs → p x ≡ q x) →
    filter p xs ≡ filter q xs
kept_same p q [] h = refl
kept_same p q (x ∷ xs) h = ap (λ t. cond t (x ∷ filter p xs) (filter p xs)) (h x (inl refl))
    ∙ ap (λ ys. cond (q x) (x ∷ ys) ys) (kept_same p q xs (λ y m. h y (inr m)))

pub mapped_same : {X Y : Type 0} (f g : X → Y) (xs : List X) → ((x : X) → In x xs → f x ≡ g x) →
    map f xs ≡ map g xs
mapped_same f g [] h = refl
mapped_same f g (x ∷ xs) h = ap (λ y. y ∷ map f xs) (h x (inl refl))
    ∙ ap (λ ys. g x ∷ ys) (mapped_same f g xs (λ y m. h y (inr m)))

-- ---- numbers
pub in_range : (a n x : ℕ) → In x (range_with_len a n) → (a ≤ x) × (x < a + n)
in_range a zero x m = absurd m
in_range a (suc n) x (inl e) = (omega (arith, e), omega (arith, e))
in_range a (suc n) x (inr m) = let k = in_range (a + 1) n x m in
    (omega (arith, k.0), omega (arith, k.1))

pub range_in : (a n x : ℕ) → a ≤ x → x < a + n → In x (range_with_len a n)
range_in a zero x l h = absurd (omega arith)
range_in a (suc n) x l h = ⊎_elim (λ e. inl e) (λ ne.
    inr (range_in (a + 1) n x (omega (arith, l, ne)) (omega (arith, h)))) (cases_eq a x)

-- the greatest of some numbers, and of a first one, is below none
pub greatest_from : (a : ℕ) (ns : List ℕ) → a ≤ fold max a ns
greatest_from a [] = omega arith
greatest_from a (n ∷ ns) = let k = greatest_from (max a n) ns in omega (arith, k)

pub greatest_in : (a : ℕ) (ns : List ℕ) (n : ℕ) → In n ns → n ≤ fold max a ns
greatest_in a [] n m = absurd m
greatest_in a (x ∷ ns) n (inl e) = let k = greatest_from (max a x) ns in omega (arith, k, e)
greatest_in a (x ∷ ns) n (inr m) = greatest_in (max a x) ns n m

-- where none of a list's values is above a number, neither is the greatest
pub no_higher : {X : Type 0} (f : X → ℕ) (most a : ℕ) (xs : List X) → a ≤ most →
    All (λ x. f x ≤ most) xs → fold max a (map f xs) ≤ most
no_higher f most a [] l all = l
no_higher f most a (x ∷ xs) l all =
    let head = all 0 x (omega arith) in
    no_higher f most (max a (f x)) xs (omega (arith, l, head))
    (λ k d l. all (suc k) d (omega arith))

-- bits that are read one by one
pub bits_are : (f : ℕ → Bool) (ds : List ℕ) (bs : List Bool) → length bs ≡ length ds →
    ((k : ℕ) → k < length ds → get_or bs k false ≡ f (get_or ds k 0)) → bs ≡ map f ds
bits_are f ds bs long each =
    same_lists bs (map f ds) (long ∙ sym (length-map ds f))
    (λ k d l. let l' : k < length ds = omega (arith, l, long) in get_or_default bs k d false l
    ∙ each k l' ∙ sym (get_or-map f ds k 0 d l'))
