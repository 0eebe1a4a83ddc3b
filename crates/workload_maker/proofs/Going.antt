-- A text of lines, each without fault after those before it, is without fault.
use Rattle.std.proofs.Common.{◌≡◌, ◌≤◌, ◌<◌, ℕ, zero, suc, ◌+◌, Bool, true, false, nat_le, List, [], ◌∷◌, ◌++◌, length, map, codes, Option, None, refl, sym, ap, subst, ◌∙◌, add-one, append_assoc, append-nil, length-append, arith}
use Rattle.std.specs.List.{list_all, range_with_len}
use Rattle.std.proofs.lemmas.Bool.{and_parts, and_from, cond-false, le-leb}
use Rattle.std.proofs.lemmas.List.Concat.{flat_map-append}
use Rattle.std.proofs.lemmas.List.Folds.{list_all-append}
use Rattle.std.proofs.lemmas.List.FromFn.{map-range_with_len_more}
use Rattle.report_model.specs.Texts.{line}
use Rattle.surface_model.specs.Limits.{most_text_bytes}
use Rattle.surface_model.specs.Text.{LineFault, TextLine, and_before, ends_with_feed, fault_from, fields_of, first_of, is_empty, is_skipped, judged, line_fault, pieces_at, some_count, text_fault, with_numbers, without_empty_end}
use Rattle.workload_maker.proofs.Spelled.{fields_joined, is_line, joined, not_foreign, not_skipped, pieces_of_text, text_of, without_end}

abbrev pub text_line : ℕ → List (List ℕ) → TextLine
text_line number words = record { number = number; fields = words }

-- lines by their words, numbered from this one on
abbrev pub numbered : ℕ → List (List (List ℕ)) → List TextLine
numbered n [] = []
numbered n (words ∷ lines) = text_line n words ∷ numbered (n + 1) lines

-- the fault of a line after these
abbrev pub fault_after : List (List (List ℕ)) → Bool → List (List ℕ) → Option LineFault
fault_after earlier followed words =
    line_fault (numbered 1 earlier) followed (text_line (1 + length earlier) words)

-- each of the lines is without fault where the others before it and these stand before it, and more
-- lines after it
abbrev pub GoOn : (earlier lines : List (List (List ℕ))) → Type 0
GoOn earlier [] = Unit {0}
GoOn earlier (words ∷ lines) =
    (fault_after earlier true words ≡ None) × GoOn (earlier ++ words ∷ []) lines

-- the words of the last line
abbrev pub last_words : List (List ℕ)
last_words = codes "rounds" ∷ []

pub numbered_append : (n : ℕ) (xs ys : List (List (List ℕ))) →
    numbered n (xs ++ ys) ≡ numbered n xs ++ numbered (n + length xs) ys
numbered_append n [] ys =
    let same : n ≡ n + 0 = omega arith in ap (λ m. numbered m ys) same
numbered_append n (words ∷ xs) ys =
    let same : n + 1 + length xs ≡ n + suc (length xs) = omega arith in
    ap (λ ls. text_line n words ∷ ls) (numbered_append (n + 1) xs ys
    ∙ ap (λ m. numbered (n + 1) xs ++ numbered m ys) same)

-- ---- one line

judged_line : (earlier : List TextLine) (rest : List (ℕ × List ℕ)) (n : ℕ)
    (words : List (List ℕ)) → is_line words ≡ true → is_empty rest ≡ false →
    some_count rest ≡ true →
    judged true earlier rest n (joined words) ≡ line_fault earlier true (text_line n words)
judged_line earlier rest n words h more count =
    rw (not_foreign words h, more, not_skipped words h, count, fields_joined words h) refl

more_lines : (n : ℕ) (lines : List (List (List ℕ))) →
    is_empty (with_numbers n (map joined (lines ++ last_words ∷ []))) ≡ false
more_lines n [] = refl
more_lines n (words ∷ lines) = refl

some_more : (n : ℕ) (lines : List (List (List ℕ))) → list_all is_line lines ≡ true →
    some_count (with_numbers n (map joined (lines ++ last_words ∷ []))) ≡ true
some_more n [] h = refl
some_more n (words ∷ lines) h =
    let parts = and_parts (is_line words) (list_all is_line lines) h in
    rw (not_skipped words parts.0) refl

before : (earlier : List (List (List ℕ))) (words : List (List ℕ)) → is_line words ≡ true →
    and_before (numbered 1 earlier) (1 + length earlier) (joined words)
    ≡ numbered 1 (earlier ++ words ∷ [])
before earlier words h =
    cond-false (is_skipped (joined words)) (numbered 1 earlier) (numbered 1 earlier
    ++ record { number = 1 + length earlier; fields = fields_of (joined words) } ∷ [])
    (not_skipped words h)
    ∙ ap (λ fs. numbered 1 earlier ++ text_line (1 + length earlier) fs ∷ [])
    (fields_joined words h)
    ∙ sym (numbered_append 1 earlier (words ∷ []))

-- ---- all lines

faultless_from : (earlier lines : List (List (List ℕ))) → list_all is_line lines ≡ true →
    GoOn earlier lines → fault_after (earlier ++ lines) false last_words ≡ None →
    fault_from true (numbered 1 earlier) (with_numbers (1 + length earlier)
    (map joined (lines ++ last_words ∷ []))) ≡ None
faultless_from earlier [] h goes last =
    ap (λ f. first_of f (1 + length earlier) None)
    (subst (λ e. fault_after e false last_words ≡ None) (append-nil earlier) last)
faultless_from earlier (words ∷ lines) h goes last =
    let parts = and_parts (is_line words) (list_all is_line lines) h in
    let n = 1 + length earlier in
    let rest = with_numbers (n + 1) (map joined (lines ++ last_words ∷ [])) in
    let fine = judged_line (numbered 1 earlier) rest n words parts.0 (more_lines (n + 1) lines)
    (some_more (n + 1) lines parts.1) ∙ goes.0 in
    let next : n + 1 ≡ 1 + length (earlier ++ words ∷ [])
    = omega (arith, length-append earlier (words ∷ [])) in
    let longer : earlier ++ words ∷ lines ≡ (earlier ++ words ∷ []) ++ lines
    = sym (append_assoc earlier (words ∷ []) lines) in
    ap (λ f. first_of f n (fault_from true (and_before (numbered 1 earlier) n (joined words)) rest))
    fine
    ∙ ap (λ e. fault_from true e rest) (before earlier words parts.0)
    ∙ ap (λ m. fault_from true (numbered 1 (earlier ++ words ∷ []))
    (with_numbers m (map joined (lines ++ last_words ∷ [])))) next
    ∙ faultless_from (earlier ++ words ∷ []) lines parts.1 goes.1
    (subst (λ e. fault_after e false last_words ≡ None) longer last)

ends_after : (xs : List ℕ) (y : ℕ) (ys : List ℕ) →
    ends_with_feed (xs ++ y ∷ ys) ≡ ends_with_feed (y ∷ ys)
ends_after [] y ys = refl
ends_after (x ∷ []) y ys = refl
ends_after (x ∷ z ∷ xs) y ys = ends_after (z ∷ xs) y ys

whole_text : (lines : List (List (List ℕ))) →
    ends_with_feed (text_of (lines ++ last_words ∷ [])) ≡ true
whole_text lines =
    ap ends_with_feed (flat_map-append line lines (last_words ∷ []))
    ∙ ends_after (text_of lines) 114 (codes "ounds\n")

-- the lines of a text, numbered, without the empty piece after the last
pub pieces_numbered : (lines : List (List (List ℕ))) → list_all is_line lines ≡ true →
    with_numbers 1 (without_empty_end (pieces_at 10 (text_of lines)))
    ≡ with_numbers 1 (map joined lines)
pieces_numbered lines h =
    ap (λ ps. with_numbers 1 (without_empty_end ps)) (pieces_of_text lines h)
    ∙ ap (with_numbers 1) (without_end (map joined lines))

pub all_lines : (lines : List (List (List ℕ))) → list_all is_line lines ≡ true →
    list_all is_line (lines ++ last_words ∷ []) ≡ true
all_lines lines h =
    list_all-append is_line lines (last_words ∷ [])
    ∙ and_from (list_all is_line lines) true h refl

pub faultless : (lines : List (List (List ℕ))) → list_all is_line lines ≡ true →
    GoOn [] lines → fault_after lines false last_words ≡ None →
    length (text_of (lines ++ last_words ∷ [])) ≤ most_text_bytes →
    text_fault (text_of (lines ++ last_words ∷ [])) ≡ None
faultless lines h goes last short =
    let text = text_of (lines ++ last_words ∷ []) in
    let whole = and_from (ends_with_feed text) (nat_le (length text) most_text_bytes)
    (whole_text lines) (le-leb (length text) most_text_bytes short) in
    ap (λ w. fault_from w [] (with_numbers 1 (without_empty_end (pieces_at 10 text)))) whole
    ∙ ap (fault_from true []) (pieces_numbered (lines ++ last_words ∷ []) (all_lines lines h))
    ∙ faultless_from [] lines h goes last

-- ---- sections

pub goes_both : (earlier xs ys : List (List (List ℕ))) → GoOn earlier xs →
    GoOn (earlier ++ xs) ys → GoOn earlier (xs ++ ys)
goes_both earlier [] ys h k = subst (λ e. GoOn e ys) (append-nil earlier) k
goes_both earlier (words ∷ xs) ys h k = (
  h.0,
  goes_both (earlier ++ words ∷ []) xs ys h.1
      (subst (λ e. GoOn e ys) (sym (append_assoc earlier (words ∷ []) xs)) k),
)

pub range_more : {A : Type 0} (f : ℕ → A) (count : ℕ) →
    map f (range_with_len 0 (suc count)) ≡ map f (range_with_len 0 count) ++ f count ∷ []
range_more f count =
    ap (λ m. map f (range_with_len 0 m)) (sym (add-one count))
    ∙ map-range_with_len_more f 0 count count (omega arith)

pub goes_range : (earlier : List (List (List ℕ))) (f : ℕ → List (List ℕ)) (count : ℕ) →
    ((k : ℕ) → k < count → fault_after (earlier ++ map f (range_with_len 0 k)) true (f k) ≡ None) →
    GoOn earlier (map f (range_with_len 0 count))
goes_range earlier f zero each = tt
goes_range earlier f (suc count) each =
    subst (GoOn earlier) (sym (range_more f count))
    (goes_both earlier (map f (range_with_len 0 count)) (f count ∷ [])
    (goes_range earlier f count (λ k l. each k (omega (arith, l))))
    (each count (omega arith), tt))
