-- The text of a made header has no fault.
use Rattle.std.proofs.Common.{◌≡◌, ◌≤◌, ◌<◌, ℕ, ◌+◌, ◌-◌, ◌*◌, ◌/◌, ◌%◌, Bool, true, false, ◌&&◌, nat_le, nat_lt, if◌then◌else◌, List, [], ◌∷◌, ◌++◌, length, codes, decimal, None, refl, sym, ap, subst, ◌∙◌, append-nil, length-append, arith}
use Rattle.std.specs.List.{list_all, range_with_len}
use Rattle.std.proofs.lemmas.Bool.{and_from, and_parts, le-leb, leb-true}
use Rattle.std.proofs.lemmas.Bool.Decides.{nat_tests}
use Rattle.std.proofs.lemmas.List.Concat.{flat_map-append}
use Rattle.std.proofs.lemmas.List.Folds.{flat_map-map, list_all-append}
use Rattle.std.proofs.lemmas.List.FromFn.{length-map-range_with_len}
use Rattle.report_model.specs.Texts.{line}
use Rattle.surface_model.specs.Limits.{most_patches, most_slots}
use Rattle.surface_model.specs.Text.{text_fault}
use Rattle.workload_maker.specs.Headers.{AreMakeable, cond_count, last_line, lines_text, made_header, merge_count, words_of}
use Rattle.workload_maker.specs.declared.lines.LineKind.{LineKind}
use Rattle.workload_maker.specs.declared.lines.LineKind.TheVariants.{Patch, Init, Merge, Read, Cond}
use Rattle.workload_maker.proofs.Earlier.{AreSoFar, first_words, section, so_far, so_far_is}
use Rattle.workload_maker.proofs.Fine.{cond_is_fine, distance_is_fine, init_is_fine, last_is_fine, merge_is_fine, patch_is_fine, read_is_fine}
use Rattle.workload_maker.proofs.Going.{GoOn, all_lines, fault_after, faultless, goes_both, goes_range, last_words, numbered}
use Rattle.workload_maker.proofs.Naming.{all_in_range, both, decimal_is_word, few_digits, named_is_word, seam_is_word}
use Rattle.workload_maker.proofs.Spelled.{is_line, joined, text_of}

-- ---- how many lines

pub few_merges : (d n l i : ℕ) → i < merge_count d n l → 2 * i + 1 < n
few_merges d n l i h = by (nat_lt (2 * d + 1) (l - 1)) h
  where
    by : (t : Bool) → i < (if t then n / 2 else 0) → 2 * i + 1 < n
    by true g = omega (arith, g)
    by false g = absurd (omega (arith, g))

pub merges_within : (d n l : ℕ) → merge_count d n l ≤ n / 2
merges_within d n l = by (nat_lt (2 * d + 1) (l - 1))
  where
    by : (t : Bool) → (if t then n / 2 else 0) ≤ n / 2
    by true = omega arith
    by false = omega arith

pub few_conds : (d n l i : ℕ) → i < cond_count d n l → i < merge_count d n l
few_conds d n l i h =
    by (nat_le (5 * d + 6) l) (nat_lt (2 * d + 1) (l - 1)) (grind (arith, nat_tests)) h
  where
    by : (s t : Bool) → (s ≡ true → t ≡ true) → i < (if s then n / 2 else 0) →
        i < (if t then n / 2 else 0)
    by true true later g = g
    by true false later g = let no : false ≡ true = later refl in absurd cc
    by false t later g = absurd (omega (arith, g))

conds_within : (d n l : ℕ) → cond_count d n l ≤ n / 2
conds_within d n l = by (nat_le (5 * d + 6) l)
  where
    by : (t : Bool) → (if t then n / 2 else 0) ≤ n / 2
    by true = omega arith
    by false = omega arith

-- ---- the lines of a header

abbrev pub made_lines : (d n l : ℕ) → List (List (List ℕ))
made_lines d n l = so_far d l n n (merge_count d n l) n (cond_count d n l)

of_lines : (d l : ℕ) (kind : LineKind) (count : ℕ) →
    lines_text d l kind count ≡ text_of (section d l kind count)
unfolding lines_text
of_lines d l kind count = sym (flat_map-map line (words_of d l kind) (range_with_len 0 count))

pub header_is : (d n l : ℕ) → made_header d n l ≡ text_of (made_lines d n l ++ last_words ∷ [])
unfolding made_header
header_is d n l =
    let m = merge_count d n l in
    let c = cond_count d n l in
    let p1 = first_words d ++ section d l Patch n in
    let p2 = p1 ++ section d l Init n in
    let p3 = p2 ++ section d l Merge m in
    let p4 = p3 ++ section d l Read n in
    let p5 = p4 ++ section d l Cond c in
    let h1 = of_lines d l Patch n in
    let h2 = of_lines d l Init n in
    let h3 = of_lines d l Merge m in
    let h4 = of_lines d l Read n in
    let h5 = of_lines d l Cond c in
    let a1 = flat_map-append line (first_words d) (section d l Patch n) in
    let a2 = flat_map-append line p1 (section d l Init n) in
    let a3 = flat_map-append line p2 (section d l Merge m) in
    let a4 = flat_map-append line p3 (section d l Read n) in
    let a5 = flat_map-append line p4 (section d l Cond c) in
    let a6 = flat_map-append line p5 (last_words ∷ []) in
    rw (h1, h2, h3, h4, h5) (sym (a6
    ∙ ap (λ t. t ++ last_line) (a5
    ∙ ap (λ t. t ++ text_of (section d l Cond c)) (a4
    ∙ ap (λ t. t ++ text_of (section d l Read n)) (a3
    ∙ ap (λ t. t ++ text_of (section d l Merge m)) (a2
    ∙ ap (λ t. t ++ text_of (section d l Init n)) a1))))))

-- ---- each line after those before it

goes_first : (d : ℕ) → d % 2 ≡ 1 → 3 ≤ d → d ≤ 11 → GoOn [] (first_words d)
goes_first d odd least most = (refl, (distance_is_fine d odd least most, (refl, tt)))

-- what lines give that are as many of each kind
so_far_at : (d l a b m r c : ℕ) (earlier : List (List (List ℕ))) →
    so_far d l a b m r c ≡ earlier → AreSoFar (numbered 1 earlier) a b m r c
so_far_at d l a b m r c earlier same =
    subst (λ e. AreSoFar (numbered 1 e) a b m r c) same (so_far_is d l a b m r c)

goes : (d n l : ℕ) → AreMakeable d n l → GoOn [] (made_lines d n l)
goes d n l h =
    let m = merge_count d n l in
    let c = cond_count d n l in
    let f = first_words d in
    let p1 = f ++ section d l Patch n in
    let p2 = p1 ++ section d l Init n in
    let p3 = p2 ++ section d l Merge m in
    let p4 = p3 ++ section d l Read n in
    let few = h.few in
    let within = merges_within d n l in
    goes_both [] p4 (section d l Cond c)
    (goes_both [] p3 (section d l Read n)
    (goes_both [] p2 (section d l Merge m)
    (goes_both [] p1 (section d l Init n)
    (goes_both [] f (section d l Patch n) (goes_first d h.odd h.least h.greatest)
    (goes_range f (words_of d l Patch) n (λ k s.
    let e = f ++ section d l Patch k in
    patch_is_fine d l k (1 + length e) (numbered 1 e) (omega (arith, s, few))
    (so_far_at d l k 0 0 0 0 e (simp append-nil)))))
    (goes_range p1 (words_of d l Init) n (λ k s.
    let e = p1 ++ section d l Init k in
    init_is_fine d l n k (1 + length e) (numbered 1 e) few s
    (so_far_at d l n k 0 0 0 e (simp append-nil)))))
    (goes_range p2 (words_of d l Merge) m (λ k s.
    let e = p2 ++ section d l Merge k in
    merge_is_fine d l n k (1 + length e) (numbered 1 e) few (few_merges d n l k s)
    (let least = h.least in omega (arith, least)) h.greatest
    (so_far_at d l n n k 0 0 e (simp append-nil)))))
    (goes_range p3 (words_of d l Read) n (λ k s.
    let e = p3 ++ section d l Read k in
    read_is_fine d l n m k (1 + length e) (numbered 1 e) few (omega (arith, within, few)) s
    h.few_slots (so_far_at d l n n m k 0 e (simp append-nil)))))
    (goes_range p4 (words_of d l Cond) c (λ k s.
    let e = p4 ++ section d l Cond k in
    let earlier = few_conds d n l k s in
    let pair = few_merges d n l k earlier in
    cond_is_fine d l n m k (1 + length e) (numbered 1 e) few (omega (arith, within, few)) earlier
    (omega (arith, pair)) h.greatest (so_far_is d l n n m n k)))

goes_last : (d n l : ℕ) → fault_after (made_lines d n l) false last_words ≡ None
goes_last d n l =
    let m = merge_count d n l in
    let c = cond_count d n l in
    last_is_fine n n m n c (1 + length (made_lines d n l)) (numbered 1 (made_lines d n l))
    (so_far_is d l n n m n c)

-- ---- each line is made of words, and short

-- the bytes of words, each with one more
abbrev total : List (List ℕ) → ℕ
total [] = 0
total (w ∷ ws) = length w + 1 + total ws

joined_length : (words : List (List ℕ)) → length (joined words) ≤ total words
joined_length [] = omega arith
joined_length (w ∷ []) = omega arith
joined_length (w ∷ v ∷ words) =
    let rest = joined_length (v ∷ words) in
    let both = length-append w (32 ∷ joined (v ∷ words)) in
    omega (arith, rest, both)

line_length : (words : List (List ℕ)) → total words ≤ 99 → length (line words) ≤ 100
line_length words l =
    let words_long = joined_length words in
    let both = length-append (joined words) (10 ∷ []) in
    omega (arith, words_long, both, l)

-- a line of words whose bytes are few
abbrev is_good : List (List ℕ) → Bool
is_good words = is_line words && nat_le (total words) 99

good_lines : (lines : List (List (List ℕ))) → list_all is_good lines ≡ true →
    list_all is_line lines ≡ true
good_lines [] h = refl
good_lines (words ∷ lines) h =
    let parts = and_parts (is_good words) (list_all is_good lines) h in
    let both = and_parts (is_line words) (nat_le (total words) 99) parts.0 in
    and_from (is_line words) (list_all is_line lines) both.0 (good_lines lines parts.1)

text_length : (lines : List (List (List ℕ))) → list_all is_good lines ≡ true →
    length (text_of lines) ≤ 100 * length lines
text_length [] h = omega arith
text_length (words ∷ lines) h =
    let parts = and_parts (is_good words) (list_all is_good lines) h in
    let both = and_parts (is_line words) (nat_le (total words) 99) parts.0 in
    let short = line_length words (leb-true (total words) 99 both.1) in
    let rest = text_length lines parts.1 in
    let sum = length-append (line words) (text_of lines) in
    omega (arith, short, rest, sum)

patch_good : (d l k : ℕ) → k < most_patches → is_good (words_of d l Patch k) ≡ true
patch_good d l k s =
    let a = few_digits k (omega (arith, s)) in
    let b = few_digits (k / 8) (omega (arith, s)) in
    let c = few_digits (k % 8) (omega arith) in
    both (both (named_is_word 112 k refl (omega (arith, s)))
    (both (decimal_is_word (k / 8) (omega (arith, s)))
    (both (decimal_is_word (k % 8) (omega arith)) refl)))
    (le-leb (total (words_of d l Patch k)) 99 (omega (arith, a, b, c)))

init_good : (d l k : ℕ) → k < most_patches → is_good (words_of d l Init k) ≡ true
init_good d l k s =
    let a = few_digits k (omega (arith, s)) in
    both (both (named_is_word 112 k refl (omega (arith, s))) refl)
    (le-leb (total (words_of d l Init k)) 99 (omega (arith, a)))

merge_good : (d l i : ℕ) → i < most_patches → d ≤ 11 → is_good (words_of d l Merge i) ≡ true
merge_good d l i s most =
    let a = few_digits i (omega (arith, s)) in
    let b = few_digits (2 * i) (omega (arith, s)) in
    let c = few_digits (2 * i + 1) (omega (arith, s)) in
    let e = few_digits (d + 1) (omega (arith, most)) in
    let f = few_digits d (omega (arith, most)) in
    both (both (named_is_word 109 i refl (omega (arith, s)))
    (both (named_is_word 112 (2 * i) refl (omega (arith, s)))
    (both (named_is_word 112 (2 * i + 1) refl (omega (arith, s)))
    (both (decimal_is_word (d + 1) (omega (arith, most)))
    (both (decimal_is_word d (omega (arith, most))) refl)))))
    (le-leb (total (words_of d l Merge i)) 99 (omega (arith, a, b, c, e, f)))

read_good : (d l k : ℕ) → k < most_patches → l ≤ most_slots → is_good (words_of d l Read k) ≡ true
read_good d l k s slots =
    let a = few_digits k (omega (arith, s)) in
    let b = few_digits (l - 1) (omega (arith, slots)) in
    both (both (named_is_word 114 k refl (omega (arith, s)))
    (both (named_is_word 112 k refl (omega (arith, s)))
    (both (decimal_is_word (l - 1) (omega (arith, slots))) refl)))
    (le-leb (total (words_of d l Read k)) 99 (omega (arith, a, b)))

cond_good : (d l i : ℕ) → i < most_patches → d ≤ 11 → is_good (words_of d l Cond i) ≡ true
cond_good d l i s most =
    let a = few_digits i (omega (arith, s)) in
    let b = few_digits (2 * i) (omega (arith, s)) in
    let c = few_digits (5 * (d + 1)) (omega (arith, most)) in
    let e = length-append (decimal i) (codes ".seam") in
    both (both (named_is_word 99 i refl (omega (arith, s)))
    (both (named_is_word 112 (2 * i) refl (omega (arith, s)))
    (both (decimal_is_word (5 * (d + 1)) (omega (arith, most)))
    (both (named_is_word 109 i refl (omega (arith, s)))
    (both (seam_is_word i (omega (arith, s))) refl)))))
    (le-leb (total (words_of d l Cond i)) 99 (omega (arith, a, b, c, e)))

first_good : (d : ℕ) → d ≤ 11 → list_all is_good (first_words d) ≡ true
first_good d most =
    let a = few_digits d (omega (arith, most)) in
    let words = codes "distance" ∷ decimal d ∷ [] in
    both (both (both (decimal_is_word d (omega (arith, most))) refl)
    (le-leb (total words) 99 (omega (arith, a)))) refl

both_good : (xs ys : List (List (List ℕ))) → list_all is_good xs ≡ true →
    list_all is_good ys ≡ true → list_all is_good (xs ++ ys) ≡ true
both_good xs ys p q =
    list_all-append is_good xs ys ∙ and_from (list_all is_good xs) (list_all is_good ys) p q

lines_good : (d n l : ℕ) → AreMakeable d n l → list_all is_good (made_lines d n l) ≡ true
lines_good d n l h =
    let m = merge_count d n l in
    let c = cond_count d n l in
    let p0 = first_words d in
    let p1 = p0 ++ section d l Patch n in
    let p2 = p1 ++ section d l Init n in
    let p3 = p2 ++ section d l Merge m in
    let p4 = p3 ++ section d l Read n in
    let few = h.few in
    let within = merges_within d n l in
    both_good p4 (section d l Cond c)
    (both_good p3 (section d l Read n)
    (both_good p2 (section d l Merge m)
    (both_good p1 (section d l Init n)
    (both_good p0 (section d l Patch n) (first_good d h.greatest)
    (all_in_range is_good (words_of d l Patch) n (λ k s. patch_good d l k (omega (arith, s, few)))))
    (all_in_range is_good (words_of d l Init) n (λ k s. init_good d l k (omega (arith, s, few)))))
    (all_in_range is_good (words_of d l Merge) m (λ k s.
    merge_good d l k (omega (arith, s, few, within)) h.greatest)))
    (all_in_range is_good (words_of d l Read) n (λ k s.
    read_good d l k (omega (arith, s, few)) h.few_slots)))
    (all_in_range is_good (words_of d l Cond) c (λ k s.
    let earlier = few_conds d n l k s in
    cond_good d l k (omega (arith, earlier, few, within)) h.greatest))

pub lines_are_lines : (d n l : ℕ) → AreMakeable d n l →
    list_all is_line (made_lines d n l ++ last_words ∷ []) ≡ true
lines_are_lines d n l h =
    all_lines (made_lines d n l) (good_lines (made_lines d n l) (lines_good d n l h))

count_lines : (d n l : ℕ) → AreMakeable d n l →
    length (made_lines d n l ++ last_words ∷ []) ≤ 400
count_lines d n l h =
    let m = merge_count d n l in
    let c = cond_count d n l in
    let p0 = first_words d in
    let p1 = p0 ++ section d l Patch n in
    let p2 = p1 ++ section d l Init n in
    let p3 = p2 ++ section d l Merge m in
    let p4 = p3 ++ section d l Read n in
    let few = h.few in
    let within = merges_within d n l in
    let fewer = conds_within d n l in
    let l1 = length-map-range_with_len (words_of d l Patch) 0 n in
    let l2 = length-map-range_with_len (words_of d l Init) 0 n in
    let l3 = length-map-range_with_len (words_of d l Merge) 0 m in
    let l4 = length-map-range_with_len (words_of d l Read) 0 n in
    let l5 = length-map-range_with_len (words_of d l Cond) 0 c in
    let a1 = length-append p0 (section d l Patch n) in
    let a2 = length-append p1 (section d l Init n) in
    let a3 = length-append p2 (section d l Merge m) in
    let a4 = length-append p3 (section d l Read n) in
    let a5 = length-append p4 (section d l Cond c) in
    let a6 = length-append (made_lines d n l) (last_words ∷ []) in
    omega (arith, few, within, fewer, l1, l2, l3, l4, l5, a1, a2, a3, a4, a5, a6)

pub short_header : (d n l : ℕ) → AreMakeable d n l → length (made_header d n l) ≤ 40000
short_header d n l h =
    let lines = made_lines d n l ++ last_words ∷ [] in
    let same = header_is d n l in
    let good = both_good (made_lines d n l) (last_words ∷ []) (lines_good d n l h) refl in
    let long = text_length lines good in
    let few = count_lines d n l h in
    let bytes : length (made_header d n l) ≡ length (text_of lines) = ap length same in
    omega (arith, bytes, long, few)

pub faultless_header : (d n l : ℕ) → AreMakeable d n l → text_fault (made_header d n l) ≡ None
faultless_header d n l h =
    let lines = made_lines d n l in
    let same = header_is d n l in
    let short = short_header d n l h in
    let bytes : length (made_header d n l) ≡ length (text_of (lines ++ last_words ∷ []))
    = ap length same in
    ap text_fault same
    ∙ faultless lines (good_lines lines (lines_good d n l h)) (goes d n l h) (goes_last d n l)
    (omega (arith, short, bytes))

pub some_header : (d n l : ℕ) → 1 ≤ length (made_header d n l)
some_header d n l =
    let bytes : length (made_header d n l) ≡ length (text_of (made_lines d n l ++ last_words ∷ []))
    = ap length (header_is d n l) in
    omega (arith, bytes)
