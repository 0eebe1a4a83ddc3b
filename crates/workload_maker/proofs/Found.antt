-- What is found in lists that are made number by number.
use Rattle.std.proofs.Common.{◌≡◌, inl, inr, ◌<◌, ℕ, zero, suc, ◌+◌, ◌==◌, Bool, true, false, ◌||◌, if◌then◌else◌, List, [], ◌∷◌, length, map, filter, find, flat_map, unwrap_or, bytes_eq, decimal, get_or, nat_lt, Some, None, refl, sym, ap, ◌∙◌, arith}
use Rattle.std.specs.List.{list_any, position_or_len, range_with_len}
use Rattle.std.specs.Option.{option_or}
use Rattle.std.proofs.lemmas.Bool.{cases_eq, cond-false, cond-true, lt-ltb, ne_eqb, or_parts}
use Rattle.std.proofs.lemmas.List.Folds.{find-append, list_any-append}
use Rattle.std.proofs.lemmas.List.FromFn.{get_or-map-range_with_len, length-map-range_with_len}
use Rattle.std.proofs.lemmas.List.Sums.{passes_at_first, position_or_len_is}
use Rattle.std.proofs.lemmas.Slice.Eq.{bytes_eq-Decides}
use Rattle.surface_model.specs.Parse.{number_in}
use Rattle.surface_model.specs.Rules.{filter_numbered}
use Rattle.surface_model.specs.Schedules.{PatchLine}
use Rattle.surface_model.specs.Text.{has}
use Rattle.workload_maker.proofs.Earlier.{none_kept}
use Rattle.workload_maker.proofs.Going.{range_more}
use Rattle.workload_maker.proofs.Naming.{none_in_range, same_bytes, same_names}

-- ---- the element of a number

find_none : {A : Type 0} (p : A → Bool) (xs : List A) → list_any p xs ≡ false → find p xs ≡ None
find_none p [] h = refl
find_none p (x ∷ xs) h =
    let parts = or_parts (p x) (list_any p xs) h in
    cond-false (p x) (Some x) (find p xs) parts.0 ∙ find_none p xs parts.1

pub find_in_range : {A : Type 0} (p : A → Bool) (f : ℕ → A) (count k : ℕ) → k < count →
    ((j : ℕ) → j < k → p (f j) ≡ false) → p (f k) ≡ true →
    find p (map f (range_with_len 0 count)) ≡ Some (f k)
find_in_range p f zero k l before here = absurd (omega (arith, l))
find_in_range p f (suc count) k l before here =
    let front = map f (range_with_len 0 count) in
    ap (find p) (range_more f count) ∙ find-append p front (f count ∷ [])
    ∙ elim (cases_eq k count) [
      | inl last ↦
          ap (λ o. option_or o (find p (f count ∷ []))) (find_none p front
          (none_in_range p f count (λ j m. before j (omega (arith, m, last)))))
          ∙ cond-true (p (f count)) (Some (f count)) None (ap (λ j. p (f j)) (sym last) ∙ here)
          ∙ ap (λ j. Some (f j)) (sym last)
      | inr other ↦
          ap (λ o. option_or o (find p (f count ∷ [])))
          (find_in_range p f count k (omega (arith, l, other)) before here)
    ]

-- none passes
pub none_breaks : {A : Type 0} (line : A → ℕ) (p : A → Bool) (f : ℕ → A) (count : ℕ) →
    ((k : ℕ) → k < count → p (f k) ≡ false) →
    map line (filter p (map f (range_with_len 0 count))) ≡ []
none_breaks line p f count none =
    ap (map line) (none_kept p (map f (range_with_len 0 count)) (none_in_range p f count none))

pub none_numbered : (test : ℕ → Bool) (n : ℕ) (ps : List PatchLine) →
    ((k : ℕ) → k < n + length ps → test k ≡ false) → filter_numbered test n ps ≡ []
none_numbered test n [] none = refl
none_numbered test n (p ∷ ps) none =
    cond-false (test n) (p ∷ filter_numbered test (n + 1) ps) (filter_numbered test (n + 1) ps)
    (none n (omega arith))
    ∙ none_numbered test (n + 1) ps (λ k l. none k (omega (arith, l)))

-- ---- the number of a name

pub number_of_name : (letter count k : ℕ) → k < count → count < 10000 →
    number_in (map (λ i. letter ∷ decimal i) (range_with_len 0 count)) (letter ∷ decimal k) ≡ k
number_of_name letter count k l few =
    let f = λ (i : ℕ). letter ∷ decimal i in
    let names = map f (range_with_len 0 count) in
    let name = letter ∷ decimal k in
    let long = length-map-range_with_len f 0 count in
    let at = λ (j : ℕ) (m : j < count).
    get_or-map-range_with_len f 0 count j j [] m (omega arith) in
    let first : position_or_len (bytes_eq name) names ≡ k
    = position_or_len_is (bytes_eq name) names k [] (omega (arith, long, l))
    (λ j m. ap (bytes_eq name) (at j (omega (arith, m, l)))
    ∙ same_names letter k j (omega (arith, l, few)) (omega (arith, m, l, few))
    ∙ ne_eqb k j (λ e. omega (arith, e, m)))
    (λ m. ap (bytes_eq name) (at k l) ∙ same_bytes name) in
    ap (λ o. unwrap_or o 0) (ap (λ i. if nat_lt i (length names) then Some i else None) first
    ∙ cond-true (nat_lt k (length names)) (Some k) None
    (lt-ltb k (length names) (omega (arith, long, l))))

some_place : {A : Type 0} (p : A → Bool) (xs : List A) → list_any p xs ≡ true →
    position_or_len p xs < length xs
some_place p [] h = absurd cc
some_place p (x ∷ xs) h = by (p x) refl (some_place p xs)
  where
    by : (t : Bool) → p x ≡ t → (list_any p xs ≡ true → position_or_len p xs < length xs) →
        position_or_len p (x ∷ xs) < length (x ∷ xs)
    by true e rest = rw e (omega arith)
    by false e rest =
        let later = rest (sym (ap (λ t. t || list_any p xs) e) ∙ h) in
        rw e (omega (arith, later))

-- where a name stands among names, it stands at its number
pub name_at_number : (names : List (List ℕ)) (name : List ℕ) → has names name ≡ true →
    get_or names (number_in names name) [] ≡ name
name_at_number names name h =
    let place = some_place (bytes_eq name) names h in
    let found : number_in names name ≡ position_or_len (bytes_eq name) names
    = ap (λ o. unwrap_or o 0)
    (cond-true (nat_lt (position_or_len (bytes_eq name) names) (length names))
    (Some (position_or_len (bytes_eq name) names)) None
    (lt-ltb (position_or_len (bytes_eq name) names) (length names) place)) in
    let passes = passes_at_first (bytes_eq name) names [] place in
    ap (λ i. get_or names i []) found
    ∙ sym ((bytes_eq-Decides name (get_or names (position_or_len (bytes_eq name) names) [])).0
    passes)

pub numbers_differ : (names : List (List ℕ)) (a b : List ℕ) → has names a ≡ true →
    has names b ≡ true → (a ≡ b → ⊥) → (number_in names a == number_in names b) ≡ false
numbers_differ names a b p q differ =
    ne_eqb (number_in names a) (number_in names b) (λ e. differ (sym (name_at_number names a p)
    ∙ ap (λ i. get_or names i []) e ∙ name_at_number names b q))

pub any_flat_map : {A B : Type 0} (p : B → Bool) (f : A → List B) (xs : List A) →
    list_any p (flat_map f xs) ≡ list_any (λ x. list_any p (f x)) xs
any_flat_map p f [] = refl
any_flat_map p f (x ∷ xs) =
    list_any-append p (f x) (flat_map f xs)
    ∙ ap (λ t. list_any p (f x) || t) (any_flat_map p f xs)
