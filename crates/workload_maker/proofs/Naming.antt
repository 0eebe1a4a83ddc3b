-- Numbers as words, and names that are a letter and a number.
use Rattle.std.proofs.Common.{◌≡◌, inl, inr, ◌≤◌, ◌<◌, ◌^◌, ℕ, zero, suc, ◌+◌, ◌-◌, ◌*◌, ◌/◌, ◌%◌, ◌==◌, Bool, true, false, not, ◌&&◌, ◌||◌, List, [], ◌∷◌, ◌++◌, length, map, codes, decimal, bytes_eq, slice_index_or, refl, sym, ap, ◌∙◌, arith}
use Rattle.std.specs.List.{list_all, list_any, range_with_len}
use Rattle.std.proofs.lemmas.Bool.{and_from, cases_eq, ne_eqb, or_from, or_left, or_right}
use Rattle.std.proofs.lemmas.Bool.Decides.{nat_tests, same_from_decides, Decides-eqb}
use Rattle.std.proofs.lemmas.Fmt.{decimal_by_steps, decimal_injective, decimal_nonempty, length-decimal-le}
use Rattle.std.proofs.lemmas.List.Folds.{list_all-append, list_any-append}
use Rattle.std.proofs.lemmas.List.Sums.{fold-append}
use Rattle.std.proofs.lemmas.Slice.Eq.{bytes_eq-Decides}
use Rattle.surface_model.specs.Text.{before_dot, has, is_between, is_empty, is_name, is_name_byte, is_number, is_observable, number_of, seam_of}
use Rattle.workload_maker.proofs.Going.{range_more}
use Rattle.workload_maker.proofs.Spelled.{all_weaker, is_word, lacks, pieces_cut, pieces_none}

pub both : {x y : Bool} → x ≡ true → y ≡ true → (x && y) ≡ true
both {x = x} {y = y} p q = and_from x y p q

-- ---- numbers

abbrev pub is_digit : ℕ → Bool
is_digit b = is_between 48 57 b

small : (n : ℕ) → n < 10000 → n < 2 ^ 64
small n l = omega arith

digit : (n : ℕ) → n < 10 → list_all is_digit ((48 + n) ∷ []) ≡ true
digit n l = grind (arith, nat_tests)

last_digit : (n : ℕ) → list_all is_digit ((48 + n % 10) ∷ []) ≡ true
last_digit n = digit (n % 10) (omega arith)

pub digits_of : (n : ℕ) → n < 10000 → list_all is_digit (decimal n) ≡ true
digits_of n l =
    decimal_by_steps (λ m ds. list_all is_digit ds ≡ true) (λ m h. digit m h)
    (λ m ds large h. list_all-append is_digit ds ((48 + m % 10) ∷ [])
    ∙ and_from (list_all is_digit ds) (list_all is_digit ((48 + m % 10) ∷ [])) h (last_digit m))
    n (small n l)

one_digit : (n : ℕ) → n < 10 → number_of ((48 + n) ∷ []) ≡ n
one_digit n l = omega arith

more_digits : (n : ℕ) (ds : List ℕ) → number_of ds ≡ n / 10 →
    number_of (ds ++ (48 + n % 10) ∷ []) ≡ n
more_digits n ds h =
    fold-append (λ m b. m * 10 + (b - 48)) 0 ds ((48 + n % 10) ∷ [])
    ∙ ap (λ m. m * 10 + ((48 + n % 10) - 48)) h ∙ omega arith

pub number_of_decimal : (n : ℕ) → n < 10000 → number_of (decimal n) ≡ n
number_of_decimal n l =
    decimal_by_steps (λ m ds. number_of ds ≡ m) (λ m h. one_digit m h)
    (λ m ds large h. more_digits m ds h) n (small n l)

pub few_digits : (n : ℕ) → n < 10000 → length (decimal n) ≤ 4
few_digits n l = length-decimal-le 4 n (omega arith) (omega arith) (small n l)

pub some_digits : (n : ℕ) → n < 10000 → 0 < length (decimal n)
some_digits n l = decimal_nonempty n (small n l)

not_empty : (xs : List ℕ) → 0 < length xs → is_empty xs ≡ false
not_empty [] l = absurd (omega arith)
not_empty (x ∷ xs) l = refl

visible : (b : ℕ) → is_digit b ≡ true → is_between 33 126 b ≡ true
visible b h = grind (arith, nat_tests)

pub decimal_is_word : (n : ℕ) → n < 10000 → is_word (decimal n) ≡ true
decimal_is_word n l =
    and_from (not (is_empty (decimal n))) (list_all (is_between 33 126) (decimal n))
    (ap not (not_empty (decimal n) (some_digits n l)))
    (all_weaker is_digit (is_between 33 126) visible (decimal n) (digits_of n l))

within : (low high n : ℕ) → low ≤ n → n ≤ high → is_between low high n ≡ true
within low high n l h = grind (arith, nat_tests)

pub decimal_is_number : (n : ℕ) → n < 10000 → is_number (decimal n) ≡ true
decimal_is_number n l =
    and_from (is_between 1 9 (length (decimal n))) (list_all is_digit (decimal n))
    (within 1 9 (length (decimal n)) (some_digits n l)
    (let few = few_digits n l in omega (arith, few)))
    (digits_of n l)

pub decimal_between : (low high n : ℕ) → n < 10000 → low ≤ n → n ≤ high →
    (is_number (decimal n) && is_between low high (number_of (decimal n))) ≡ true
decimal_between low high n l least most =
    and_from (is_number (decimal n)) (is_between low high (number_of (decimal n)))
    (decimal_is_number n l)
    (ap (is_between low high) (number_of_decimal n l) ∙ within low high n least most)

-- ---- a letter and a number

name_digit : (b : ℕ) → is_digit b ≡ true → is_name_byte b ≡ true
name_digit b h = grind (arith, nat_tests)

pub named : (letter n : ℕ) → is_name_byte letter ≡ true → n < 10000 →
    is_name (letter ∷ decimal n) ≡ true
named letter n h l =
    let few = few_digits n l in
    and_from (is_between 1 16 (length (letter ∷ decimal n)))
    (list_all is_name_byte (letter ∷ decimal n))
    (within 1 16 (length (letter ∷ decimal n)) (omega arith) (omega (arith, few)))
    (and_from (is_name_byte letter) (list_all is_name_byte (decimal n)) h
    (all_weaker is_digit is_name_byte name_digit (decimal n) (digits_of n l)))

pub named_is_word : (letter n : ℕ) → is_between 33 126 letter ≡ true → n < 10000 →
    is_word (letter ∷ decimal n) ≡ true
named_is_word letter n h l =
    and_from (is_between 33 126 letter) (list_all (is_between 33 126) (decimal n)) h
    (all_weaker is_digit (is_between 33 126) visible (decimal n) (digits_of n l))

same_number : (letter a b : ℕ) → a < 10000 → b < 10000 →
    letter ∷ decimal a ≡ letter ∷ decimal b → a ≡ b
same_number letter a b l m e =
    let digits : decimal a ≡ decimal b = cc in
    decimal_injective a b (small a l) (small b m) digits

-- two names with one letter are the same where their numbers are
pub same_names : (letter a b : ℕ) → a < 10000 → b < 10000 →
    bytes_eq (letter ∷ decimal a) (letter ∷ decimal b) ≡ (a == b)
same_names letter a b l m =
    let names = bytes_eq-Decides (letter ∷ decimal a) (letter ∷ decimal b) in
    let numbers = Decides-eqb a b in
    same_from_decides (bytes_eq (letter ∷ decimal a) (letter ∷ decimal b)) (a == b)
    ((λ h. same_number letter a b l m (names.0 h)), (λ e. names.1 (ap (λ n. letter ∷ decimal n) e)))
    numbers

-- ---- lists of names

pub any_in_range : {A : Type 0} (p : A → Bool) (f : ℕ → A) (count k : ℕ) → k < count →
    p (f k) ≡ true → list_any p (map f (range_with_len 0 count)) ≡ true
any_in_range p f zero k l h = absurd (omega (arith, l))
any_in_range p f (suc count) k l h =
    ap (list_any p) (range_more f count)
    ∙ list_any-append p (map f (range_with_len 0 count)) (f count ∷ [])
    ∙ elim (cases_eq k count) [
      | inl here ↦
          or_right (list_any p (map f (range_with_len 0 count))) (p (f count) || false)
          (or_left (p (f count)) false (ap (λ j. p (f j)) (sym here) ∙ h))
      | inr other ↦
          or_left (list_any p (map f (range_with_len 0 count))) (p (f count) || false)
          (any_in_range p f count k (omega (arith, l, other)) h)
    ]

pub none_in_range : {A : Type 0} (p : A → Bool) (f : ℕ → A) (count : ℕ) →
    ((k : ℕ) → k < count → p (f k) ≡ false) → list_any p (map f (range_with_len 0 count)) ≡ false
none_in_range p f zero none = refl
none_in_range p f (suc count) none =
    ap (list_any p) (range_more f count)
    ∙ list_any-append p (map f (range_with_len 0 count)) (f count ∷ [])
    ∙ or_from (list_any p (map f (range_with_len 0 count))) (p (f count) || false)
    (none_in_range p f count (λ k l. none k (omega (arith, l))))
    (or_from (p (f count)) false (none count (omega arith)) refl)

pub all_in_range : {A : Type 0} (p : A → Bool) (f : ℕ → A) (count : ℕ) →
    ((k : ℕ) → k < count → p (f k) ≡ true) → list_all p (map f (range_with_len 0 count)) ≡ true
all_in_range p f zero all = refl
all_in_range p f (suc count) all =
    ap (list_all p) (range_more f count)
    ∙ list_all-append p (map f (range_with_len 0 count)) (f count ∷ [])
    ∙ and_from (list_all p (map f (range_with_len 0 count))) (p (f count) && true)
    (all_in_range p f count (λ k l. all k (omega (arith, l))))
    (and_from (p (f count)) true (all count (omega arith)) refl)

pub same_bytes : (xs : List ℕ) → bytes_eq xs xs ≡ true
same_bytes xs = (bytes_eq-Decides xs xs).1 refl

pub has_name : (letter count k : ℕ) → k < count → has (map (λ i. letter ∷ decimal i)
    (range_with_len 0 count)) (letter ∷ decimal k) ≡ true
has_name letter count k l =
    any_in_range (bytes_eq (letter ∷ decimal k)) (λ i. letter ∷ decimal i) count k l
    (same_bytes (letter ∷ decimal k))

pub lacks_name : (letter count k : ℕ) → count ≤ k → k < 10000 → has (map (λ i. letter ∷ decimal i)
    (range_with_len 0 count)) (letter ∷ decimal k) ≡ false
lacks_name letter count k l h =
    none_in_range (bytes_eq (letter ∷ decimal k)) (λ i. letter ∷ decimal i) count (λ i m.
    same_names letter k i h (omega (arith, l, m, h)) ∙ ne_eqb k i (λ e. omega (arith, e, m, l)))

-- ---- observables

no_dot : (b : ℕ) → is_digit b ≡ true → not (b == 46) ≡ true
no_dot b h = grind (arith, nat_tests)

abbrev pub label : ℕ → List ℕ
label i = 109 ∷ decimal i

label_lacks_dot : (i : ℕ) → i < 10000 → lacks 46 (label i) ≡ true
label_lacks_dot i l = all_weaker is_digit (λ b. not (b == 46)) no_dot (decimal i) (digits_of i l)

pub label_is_observable : (i : ℕ) → i < 10000 → is_observable (label i) ≡ true
label_is_observable i l =
    let front : before_dot (label i) ≡ label i
    = ap (λ ps. slice_index_or ps 0 []) (pieces_none 46 (label i) (label_lacks_dot i l)) in
    ap (λ f. is_name f && (bytes_eq (label i) f || bytes_eq (label i) (seam_of f))) front
    ∙ and_from (is_name (label i)) (bytes_eq (label i) (label i)
    || bytes_eq (label i) (seam_of (label i))) (named 109 i refl l)
    (or_left (bytes_eq (label i) (label i)) (bytes_eq (label i) (seam_of (label i)))
    (same_bytes (label i)))

pub seam_is_observable : (i : ℕ) → i < 10000 → is_observable (seam_of (label i)) ≡ true
seam_is_observable i l =
    let seam = seam_of (label i) in
    let front : before_dot seam ≡ label i
    = ap (λ ps. slice_index_or ps 0 [])
    (pieces_cut 46 (label i) (codes "seam") (label_lacks_dot i l)) in
    ap (λ f. is_name f && (bytes_eq seam f || bytes_eq seam (seam_of f))) front
    ∙ and_from (is_name (label i)) (bytes_eq seam (label i) || bytes_eq seam seam)
    (named 109 i refl l)
    (or_right (bytes_eq seam (label i)) (bytes_eq seam seam) (same_bytes seam))

pub seam_is_word : (i : ℕ) → i < 10000 → is_word (seam_of (label i)) ≡ true
seam_is_word i l =
    list_all-append (is_between 33 126) (decimal i) (codes ".seam")
    ∙ and_from (list_all (is_between 33 126) (decimal i)) true
    (all_weaker is_digit (is_between 33 126) visible (decimal i) (digits_of i l)) refl
