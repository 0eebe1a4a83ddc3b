-- The words of steps, and that they say which step it is.
use Rattle.std.proofs.Common.{◌≡◌, ◌≢◌, ◌<◌, ◌^◌, ℕ, ◌+◌, ◌%◌, ◌≤◌, Bool, true, false, not, ◌&&◌, eqb, nat_lt, List, [], ◌∷◌, ◌++◌, length, map, get_or, All, codes, decimal, refl, sym, ap, ◌∙◌, arith}
use Rattle.std.specs.List.{join_with_byte, list_all}
use Rattle.std.proofs.lemmas.Bool.{and_parts, and_from, ne_eqb}
use Rattle.std.proofs.lemmas.Bool.Decides.{nat_tests}
use Rattle.std.proofs.lemmas.Fmt.{decimal_by_steps, decimal_injective}
use Rattle.std.proofs.lemmas.List.Elements.{All-head, All-tail}
use Rattle.std.proofs.lemmas.List.Splits.{join_with_byte-slice_split}
use Rattle.surface_model.specs.Text.{is_name, is_name_byte, is_between}
use Rattle.report_model.specs.Texts.{bit_text}
use Rattle.report_model.specs.Logs.{IsLogged, IsLogNumber, LoggedStep, Arrived, Committed, Released, words_of}
use Rattle.log_reader.specs.Words.{lacks, words_in}
use Rattle.log_reader.proofs.Bytes.{lacks_append, one_word, words_cut}

-- every byte is above the space
abbrev pub is_plain : List ℕ → Bool
is_plain bytes = list_all (λ b. nat_lt 32 b) bytes

above : (b : ℕ) → nat_lt 32 b ≡ true → (32 < b)
above b h = grind (arith, nat_tests)

pub plain_lacks : (v : ℕ) → v ≤ 32 → (xs : List ℕ) → is_plain xs ≡ true → lacks v xs ≡ true
plain_lacks v l [] p = refl
plain_lacks v l (x ∷ xs) p =
    let parts = and_parts (nat_lt 32 x) (is_plain xs) p in
    let high = above x parts.0 in
    and_from (not (eqb x v)) (lacks v xs) (ap not (ne_eqb x v (λ e. omega (arith, e, high, l))))
    (plain_lacks v l xs parts.1)

plain_append : (xs ys : List ℕ) → is_plain xs ≡ true → is_plain ys ≡ true →
    is_plain (xs ++ ys) ≡ true
plain_append [] ys p q = q
plain_append (x ∷ xs) ys p q =
    let parts = and_parts (nat_lt 32 x) (is_plain xs) p in
    and_from (nat_lt 32 x) (is_plain (xs ++ ys)) parts.0 (plain_append xs ys parts.1 q)

plain_digit : (d : ℕ) → is_plain ((48 + d) ∷ []) ≡ true
plain_digit d = and_from (nat_lt 32 (48 + d)) true (grind (arith, nat_tests)) refl

pub plain_decimal : (n : ℕ) → n < 2 ^ 64 → is_plain (decimal n) ≡ true
plain_decimal n l =
    decimal_by_steps (λ m ds. is_plain ds ≡ true) (λ m small. plain_digit m)
    (λ m ds large p. plain_append ds ((48 + m % 10) ∷ []) p (plain_digit (m % 10))) n l

name_byte : (b : ℕ) → is_name_byte b ≡ true → nat_lt 32 b ≡ true
name_byte b h = grind (arith, nat_tests)

plain_name_bytes : (xs : List ℕ) → list_all is_name_byte xs ≡ true → is_plain xs ≡ true
plain_name_bytes [] h = refl
plain_name_bytes (x ∷ xs) h =
    let parts = and_parts (is_name_byte x) (list_all is_name_byte xs) h in
    and_from (nat_lt 32 x) (is_plain xs) (name_byte x parts.0) (plain_name_bytes xs parts.1)

plain_name : (label : List ℕ) → is_name label ≡ true → is_plain label ≡ true
plain_name label h =
    plain_name_bytes label
    (and_parts (is_between 1 16 (length label)) (list_all is_name_byte label) h).1

pub plain_bit : (bit : Bool) → is_plain (bit_text bit) ≡ true
plain_bit true = refl
plain_bit false = refl

pub wide : (n : ℕ) → n < 2 ^ 32 → n < 2 ^ 64
wide n l = omega arith

-- ---- the words of a step are plain

pub plain_edges : (edges : List ℕ) → All IsLogNumber edges →
    list_all is_plain (map decimal edges) ≡ true
plain_edges [] h = refl
plain_edges (e ∷ edges) h =
    and_from (is_plain (decimal e)) (list_all is_plain (map decimal edges))
    (plain_decimal e (wide e (All-head IsLogNumber e edges h)))
    (plain_edges edges (All-tail IsLogNumber e edges h))

pub plain_words : (step : LoggedStep) → IsLogged step → list_all is_plain (words_of step) ≡ true
plain_words (Arrived slot) l =
    and_from (is_plain (decimal slot)) true (plain_decimal slot (wide slot l)) refl
plain_words (Committed window edges) h =
    and_from (is_plain (decimal window)) (list_all is_plain (map decimal edges))
    (plain_decimal window (wide window h.0)) (plain_edges edges h.1)
plain_words (Released label bit) h =
    and_from (is_plain label) (is_plain (bit_text bit) && true) (plain_name label h)
    (and_from (is_plain (bit_text bit)) true (plain_bit bit) refl)

-- ---- a line and its words

pub lacks_joined : (words : List (List ℕ)) → list_all is_plain words ≡ true →
    lacks 10 (join_with_byte 32 words) ≡ true
lacks_joined [] p = refl
lacks_joined (w ∷ []) p =
    plain_lacks 10 (omega arith) w (and_parts (is_plain w) true p).0
lacks_joined (w ∷ v ∷ words) p =
    let parts = and_parts (is_plain w) (list_all is_plain (v ∷ words)) p in
    lacks_append 10 w (32 ∷ join_with_byte 32 (v ∷ words))
    (plain_lacks 10 (omega arith) w parts.0) (lacks_joined (v ∷ words) parts.1)

pub joined_again : (words : List (List ℕ)) → words ≢ [] → list_all is_plain words ≡ true →
    words_in (join_with_byte 32 words) ≡ words
joined_again [] some p = absurd (some refl)
joined_again (w ∷ []) some p =
    one_word w (plain_lacks 32 (omega arith) w (and_parts (is_plain w) true p).0)
joined_again (w ∷ v ∷ words) some p =
    let parts = and_parts (is_plain w) (list_all is_plain (v ∷ words)) p in
    words_cut (join_with_byte 32 (w ∷ v ∷ words)) w (join_with_byte 32 (v ∷ words))
    (record { whole = refl; first = plain_lacks 32 (omega arith) w parts.0 })
    ∙ ap (λ ws. w ∷ ws) (joined_again (v ∷ words) (λ e. absurd (cc)) parts.1)

pub some_words : (step : LoggedStep) → words_of step ≢ []
some_words (Arrived slot) e = absurd (cc)
some_words (Committed window edges) e = absurd (cc)
some_words (Released label bit) e = absurd (cc)

-- the line of a step without its line feed
abbrev pub bare : LoggedStep → List ℕ
bare step = join_with_byte 32 (words_of step)

pub lacks_bare : (step : LoggedStep) → IsLogged step → lacks 10 (bare step) ≡ true
lacks_bare step h = lacks_joined (words_of step) (plain_words step h)

pub bare_words : (step : LoggedStep) → IsLogged step → words_in (bare step) ≡ words_of step
bare_words step h = joined_again (words_of step) (some_words step) (plain_words step h)

-- what the words of a line spell is the line
pub words_bare : (line : List ℕ) (step : LoggedStep) → words_in line ≡ words_of step →
    line ≡ bare step
words_bare line step e =
    sym (join_with_byte-slice_split 32 line) ∙ ap (join_with_byte 32) e

-- ---- the words say which step it is

pub same_numbers : (xs ys : List ℕ) → All IsLogNumber xs → All IsLogNumber ys →
    map decimal xs ≡ map decimal ys → xs ≡ ys
same_numbers [] [] p q e = refl
same_numbers [] (y ∷ ys) p q e = absurd (cc)
same_numbers (x ∷ xs) [] p q e = absurd (cc)
same_numbers (x ∷ xs) (y ∷ ys) p q e =
    let first : decimal x ≡ decimal y = cc in
    let others : map decimal xs ≡ map decimal ys = cc in
    let same = decimal_injective x y (wide x (All-head IsLogNumber x xs p))
    (wide y (All-head IsLogNumber y ys q)) first in
    let rest = same_numbers xs ys (All-tail IsLogNumber x xs p)
    (All-tail IsLogNumber y ys q) others in
    cc

pub same_bit : (a b : Bool) → bit_text a ≡ bit_text b → a ≡ b
same_bit true true e = refl
same_bit false false e = refl
same_bit true false e = let k : 49 ≡ 48 = ap (λ t. get_or t 0 0) e in absurd (omega (arith, k))
same_bit false true e = let k : 48 ≡ 49 = ap (λ t. get_or t 0 0) e in absurd (omega (arith, k))

-- the first byte of the first word
abbrev pub initial : List (List ℕ) → ℕ
initial words = get_or (get_or words 0 []) 0 0

pub same_step : (s t : LoggedStep) → IsLogged s → IsLogged t → words_of s ≡ words_of t → s ≡ t
same_step (Arrived m) (Arrived n) p q e =
    let number : decimal m ≡ decimal n = cc in
    ap Arrived (decimal_injective m n (wide m p) (wide n q) number)
same_step (Committed w es) (Committed v fs) p q e =
    let number : decimal w ≡ decimal v = cc in
    let others : map decimal es ≡ map decimal fs = cc in
    let window = decimal_injective w v (wide w p.0) (wide v q.0) number in
    let edges = same_numbers es fs p.1 q.1 others in
    cc
same_step (Released l b) (Released k c) p q e =
    let label : l ≡ k = cc in
    let word : bit_text b ≡ bit_text c = cc in
    let bit = same_bit b c word in
    cc
same_step (Arrived m) (Committed v fs) p q e = let k : 97 ≡ 99 =
    ap initial e in absurd (omega (arith, k))
same_step (Arrived m) (Released l b) p q e = let k : 97 ≡ 114 =
    ap initial e in absurd (omega (arith, k))
same_step (Committed w es) (Arrived n) p q e = let k : 99 ≡ 97 =
    ap initial e in absurd (omega (arith, k))
same_step (Committed w es) (Released l b) p q e = let k : 99 ≡ 114 =
    ap initial e in absurd (omega (arith, k))
same_step (Released l b) (Arrived n) p q e = let k : 114 ≡ 97 =
    ap initial e in absurd (omega (arith, k))
same_step (Released l b) (Committed v fs) p q e = let k : 114 ≡ 99 =
    ap initial e in absurd (omega (arith, k))

pub same_bare : (s t : LoggedStep) → IsLogged s → IsLogged t → bare s ≡ bare t → s ≡ t
same_bare s t p q e =
    same_step s t p q (sym (bare_words s p) ∙ ap words_in e ∙ bare_words t q)

-- no step has the last line
pub not_last : (step : LoggedStep) → IsLogged step → bare step ≡ codes "end log" → ⊥
not_last (Arrived m) p e = let k : 97 ≡ 101 = ap (λ t. get_or t 0 0) e in omega (arith, k)
not_last (Committed w []) p e = let k : 99 ≡ 101 = ap (λ t. get_or t 0 0) e in omega (arith, k)
not_last (Committed w (f ∷ fs)) p e = let k : 99 ≡ 101 =
    ap (λ t. get_or t 0 0) e in omega (arith, k)
not_last (Released l b) p e = let k : 114 ≡ 101 = ap (λ t. get_or t 0 0) e in omega (arith, k)
