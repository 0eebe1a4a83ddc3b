-- The schedule that a made header gives, and that it is sound.
use Rattle.std.proofs.Common.{◌≡◌, ◌≤◌, ◌<◌, ℕ, zero, suc, ◌+◌, ◌-◌, ◌*◌, ◌/◌, ◌%◌, ◌==◌, true, false, not, ◌||◌, List, [], ◌∷◌, ◌++◌, length, map, filter, codes, bytes_eq, None, refl, sym, ap, ◌∙◌, append-nil, length-append, arith}
use Rattle.std.specs.List.{list_all, list_any, range_with_len}
use Rattle.std.proofs.lemmas.Bool.{and_parts, cond-true, or_from, or_left, or_right}
use Rattle.std.proofs.lemmas.List.Elements.{filter-append}
use Rattle.std.proofs.lemmas.List.Folds.{list_any-append}
use Rattle.std.proofs.lemmas.Simd.{map-map}
use Rattle.surface_model.specs.Limits.{most_patches, most_slots}
use Rattle.surface_model.specs.Parse.{cond_line, init_line, line_at, merge_line, names_of_line, number_at, number_in, observable_order, of_kind, patch_line, read_line, schedule_of, text_lines}
use Rattle.surface_model.specs.Rules.{has_repeats, rule_fault}
use Rattle.surface_model.specs.Schedules.{PatchLine, InitLine, MergeLine, ReadLine, CondLine, Schedule}
use Rattle.surface_model.specs.Text.{TextLine, begins, field, fields_of, has, is_skipped, patch_names, seam_of, with_numbers}
use Rattle.workload_maker.specs.Headers.{AreMakeable, cond_count, made_header, merge_count, merge_label, patch_name, words_of}
use Rattle.workload_maker.specs.Inputs.{IsSound}
use Rattle.workload_maker.specs.declared.lines.LineKind.{LineKind}
use Rattle.workload_maker.specs.declared.lines.LineKind.TheVariants.{Patch, Init, Merge, Read, Cond}
use Rattle.workload_maker.proofs.Earlier.{first_words, kept_five, pick, section, so_far, word_of}
use Rattle.workload_maker.proofs.Found.{any_flat_map, number_of_name, numbers_differ}
use Rattle.workload_maker.proofs.Going.{last_words, numbered, numbered_append, pieces_numbered, range_more, text_line}
use Rattle.workload_maker.proofs.Naming.{any_in_range, number_of_decimal, same_bytes}
use Rattle.workload_maker.proofs.Ruled.{Starts, made_cond, made_init, made_merge, made_patch, made_read, ruled, schedule_with}
use Rattle.workload_maker.proofs.Sound.{faultless_header, few_conds, few_merges, header_is, lines_are_lines, made_lines}
use Rattle.workload_maker.proofs.Spelled.{fields_joined, is_line, joined, not_skipped}

-- ---- the lines of the text

read_again : (n : ℕ) (lines : List (List (List ℕ))) → list_all is_line lines ≡ true →
    map (λ (p : ℕ × List ℕ). text_line p.0 (fields_of p.1)) (filter (λ p. not (is_skipped p.1))
    (with_numbers n (map joined lines))) ≡ numbered n lines
read_again n [] h = refl
read_again n (words ∷ lines) h =
    let parts = and_parts (is_line words) (list_all is_line lines) h in
    let rest = filter (λ (p : ℕ × List ℕ). not (is_skipped p.1))
    (with_numbers (n + 1) (map joined lines)) in
    ap (map (λ (p : ℕ × List ℕ). text_line p.0 (fields_of p.1)))
    (cond-true (not (is_skipped (joined words))) ((n, joined words) ∷ rest) rest
    (ap not (not_skipped words parts.0)))
    ∙ ap (λ fs. text_line n fs ∷ map (λ (p : ℕ × List ℕ). text_line p.0 (fields_of p.1)) rest)
    (fields_joined words parts.0)
    ∙ ap (λ ls. text_line n words ∷ ls) (read_again (n + 1) lines parts.1)

header_lines : (d n l : ℕ) → AreMakeable d n l →
    text_lines (made_header d n l) ≡ numbered 1 (made_lines d n l ++ last_words ∷ [])
header_lines d n l h =
    let lines = made_lines d n l ++ last_words ∷ [] in
    let each = lines_are_lines d n l h in
    ap text_lines (header_is d n l)
    ∙ ap (λ ps. map (λ (p : ℕ × List ℕ). text_line p.0 (fields_of p.1))
    (filter (λ p. not (is_skipped p.1)) ps)) (pieces_numbered lines each)
    ∙ read_again 1 lines each

-- ---- their sections

-- lines of a section, of which the first has this number
abbrev lines_from : (d l : ℕ) → ℕ → LineKind → ℕ → List TextLine
lines_from d l start kind count =
    map (λ i. text_line (start + i) (words_of d l kind i)) (range_with_len 0 count)

numbered_range : (f : ℕ → List (List ℕ)) (n a count : ℕ) →
    numbered (n + a) (map f (range_with_len a count))
    ≡ map (λ i. text_line (n + i) (f i)) (range_with_len a count)
numbered_range f n a zero = refl
numbered_range f n a (suc count) =
    let next : n + a + 1 ≡ n + (a + 1) = omega arith in
    ap (λ ls. text_line (n + a) (f a) ∷ ls)
    (ap (λ k. numbered k (map f (range_with_len (a + 1) count))) next
    ∙ numbered_range f n (a + 1) count)

numbered_section : (d l start : ℕ) (kind : LineKind) (count : ℕ) →
    numbered start (section d l kind count) ≡ lines_from d l start kind count
numbered_section d l start kind count =
    let same : start ≡ start + 0 = omega arith in
    ap (λ k. numbered k (section d l kind count)) same
    ∙ numbered_range (words_of d l kind) start 0 count

abbrev laid : (d n l m c : ℕ) → Starts → ℕ → List TextLine
laid d n l m c starts last =
    numbered 1 (first_words d) ++ lines_from d l starts.patches Patch n
    ++ lines_from d l starts.inits Init n ++ lines_from d l starts.merges Merge m
    ++ lines_from d l starts.reads Read n ++ lines_from d l starts.conds Cond c
    ++ text_line last last_words ∷ []

abbrev starts_of : (d n l m : ℕ) → Starts
starts_of d n l m = record {
  patches = 4;
  inits = 1 + length (first_words d ++ section d l Patch n);
  merges = 1 + length (first_words d ++ section d l Patch n ++ section d l Init n);
  reads = 1 + length (first_words d ++ section d l Patch n ++ section d l Init n
      ++ section d l Merge m);
  conds = 1 + length (first_words d ++ section d l Patch n ++ section d l Init n
      ++ section d l Merge m ++ section d l Read n);
}

lines_laid : (d n l m c : ℕ) →
    numbered 1 (so_far d l n n m n c ++ last_words ∷ [])
    ≡ laid d n l m c (starts_of d n l m) (1 + length (so_far d l n n m n c))
lines_laid d n l m c =
    let p0 = first_words d in
    let p1 = p0 ++ section d l Patch n in
    let p2 = p1 ++ section d l Init n in
    let p3 = p2 ++ section d l Merge m in
    let p4 = p3 ++ section d l Read n in
    let p5 = p4 ++ section d l Cond c in
    let s = starts_of d n l m in
    let k1 = numbered_append 1 p0 (section d l Patch n)
    ∙ ap (λ xs. numbered 1 p0 ++ xs) (numbered_section d l 4 Patch n) in
    let k2 = numbered_append 1 p1 (section d l Init n)
    ∙ ap (λ xs. xs ++ numbered s.inits (section d l Init n)) k1
    ∙ ap (λ xs. numbered 1 p0 ++ lines_from d l 4 Patch n ++ xs)
    (numbered_section d l s.inits Init n) in
    let k3 = numbered_append 1 p2 (section d l Merge m)
    ∙ ap (λ xs. xs ++ numbered s.merges (section d l Merge m)) k2
    ∙ ap (λ xs. numbered 1 p0 ++ lines_from d l 4 Patch n ++ lines_from d l s.inits Init n ++ xs)
    (numbered_section d l s.merges Merge m) in
    let k4 = numbered_append 1 p3 (section d l Read n)
    ∙ ap (λ xs. xs ++ numbered s.reads (section d l Read n)) k3
    ∙ ap (λ xs. numbered 1 p0 ++ lines_from d l 4 Patch n ++ lines_from d l s.inits Init n
    ++ lines_from d l s.merges Merge m ++ xs) (numbered_section d l s.reads Read n) in
    let k5 = numbered_append 1 p4 (section d l Cond c)
    ∙ ap (λ xs. xs ++ numbered s.conds (section d l Cond c)) k4
    ∙ ap (λ xs. numbered 1 p0 ++ lines_from d l 4 Patch n ++ lines_from d l s.inits Init n
    ++ lines_from d l s.merges Merge m ++ lines_from d l s.reads Read n ++ xs)
    (numbered_section d l s.conds Cond c) in
    numbered_append 1 p5 (last_words ∷ [])
    ∙ ap (λ xs. xs ++ text_line (1 + length p5) last_words ∷ []) k5

of_kind_laid : (d n l m c : ℕ) (starts : Starts) (last : ℕ) (word : List ℕ) →
    filter (begins word) (numbered 1 (first_words d)) ≡ [] →
    filter (begins word) (text_line last last_words ∷ []) ≡ [] →
    of_kind word (laid d n l m c starts last)
    ≡ pick (bytes_eq (word_of Patch) word) (lines_from d l starts.patches Patch n)
    ++ pick (bytes_eq (word_of Init) word) (lines_from d l starts.inits Init n)
    ++ pick (bytes_eq (word_of Merge) word) (lines_from d l starts.merges Merge m)
    ++ pick (bytes_eq (word_of Read) word) (lines_from d l starts.reads Read n)
    ++ pick (bytes_eq (word_of Cond) word) (lines_from d l starts.conds Cond c)
of_kind_laid d n l m c starts last word none end =
    let front = numbered 1 (first_words d) ++ lines_from d l starts.patches Patch n
    ++ lines_from d l starts.inits Init n ++ lines_from d l starts.merges Merge m
    ++ lines_from d l starts.reads Read n ++ lines_from d l starts.conds Cond c in
    filter-append (begins word) front (text_line last last_words ∷ [])
    ∙ ap (λ xs. filter (begins word) front ++ xs) end
    ∙ append-nil (filter (begins word) front)
    ∙ kept_five (begins word) (numbered 1 (first_words d))
    (λ i. text_line (starts.patches + i) (words_of d l Patch i))
    (λ i. text_line (starts.inits + i) (words_of d l Init i))
    (λ i. text_line (starts.merges + i) (words_of d l Merge i))
    (λ i. text_line (starts.reads + i) (words_of d l Read i))
    (λ i. text_line (starts.conds + i) (words_of d l Cond i)) n n m n c
    (bytes_eq (word_of Patch) word) (bytes_eq (word_of Init) word) (bytes_eq (word_of Merge) word)
    (bytes_eq (word_of Read) word) (bytes_eq (word_of Cond) word) none (λ i. refl) (λ i. refl)
    (λ i. refl) (λ i. refl) (λ i. refl)

-- ---- their items

same_in_range : {A : Type 0} (f g : ℕ → A) (count : ℕ) → ((i : ℕ) → i < count → f i ≡ g i) →
    map f (range_with_len 0 count) ≡ map g (range_with_len 0 count)
same_in_range f g zero same = refl
same_in_range f g (suc count) same =
    range_more f count
    ∙ ap (λ xs. xs ++ f count ∷ []) (same_in_range f g count (λ i l. same i (omega (arith, l))))
    ∙ ap (λ x. map g (range_with_len 0 count) ++ x ∷ []) (same count (omega arith))
    ∙ sym (range_more g count)

-- items of a section's lines
items_are : {A : Type 0} (d l start : ℕ) (kind : LineKind) (count : ℕ) (item : TextLine → A)
    (made : ℕ → A) →
    ((i : ℕ) → i < count → item (text_line (start + i) (words_of d l kind i)) ≡ made i) →
    map item (lines_from d l start kind count) ≡ map made (range_with_len 0 count)
items_are d l start kind count item made same =
    map-map item (λ i. text_line (start + i) (words_of d l kind i)) (range_with_len 0 count)
    ∙ same_in_range (λ i. item (text_line (start + i) (words_of d l kind i))) made count same

patches_are : (d n l m c : ℕ) (starts : Starts) (last : ℕ) → n ≤ most_patches →
    map patch_line (of_kind (codes "patch") (laid d n l m c starts last))
    ≡ map (made_patch starts.patches) (range_with_len 0 n)
patches_are d n l m c starts last few =
    ap (map patch_line) (of_kind_laid d n l m c starts last (codes "patch") refl refl
    ∙ simp append-nil)
    ∙ items_are d l starts.patches Patch n patch_line (made_patch starts.patches) (λ i p.
    let row = number_of_decimal (i / 8) (omega (arith, p, few)) in
    let column = number_of_decimal (i % 8) (omega arith) in
    rw (row, column) refl)

inits_are : (d n l m c : ℕ) (starts : Starts) (last : ℕ) → n ≤ most_patches →
    map (init_line (map patch_name (range_with_len 0 n)))
    (of_kind (codes "init") (laid d n l m c starts last))
    ≡ map (made_init starts.inits) (range_with_len 0 n)
inits_are d n l m c starts last few =
    let names = map patch_name (range_with_len 0 n) in
    ap (map (init_line names)) (of_kind_laid d n l m c starts last (codes "init") refl refl
    ∙ simp append-nil)
    ∙ items_are d l starts.inits Init n (init_line names) (made_init starts.inits) (λ i p.
    let patch = number_of_name 112 n i p (omega (arith, few)) in
    ap (λ k. record (made_init starts.inits i) { patch = k }) patch)

merges_are : (d n l c : ℕ) (starts : Starts) (last : ℕ) → n ≤ most_patches → d ≤ 11 →
    map (merge_line (map patch_name (range_with_len 0 n)))
    (of_kind (codes "merge") (laid d n l (merge_count d n l) c starts last))
    ≡ map (made_merge d starts.merges) (range_with_len 0 (merge_count d n l))
merges_are d n l c starts last few most =
    let m = merge_count d n l in
    let names = map patch_name (range_with_len 0 n) in
    ap (map (merge_line names)) (of_kind_laid d n l m c starts last (codes "merge") refl refl
    ∙ simp append-nil)
    ∙ items_are d l starts.merges Merge m (merge_line names) (made_merge d starts.merges) (λ i p.
    let pair = few_merges d n l i p in
    let one = number_of_name 112 n (2 * i) (omega (arith, pair)) (omega (arith, few)) in
    let two = number_of_name 112 n (2 * i + 1) pair (omega (arith, few)) in
    let slot = number_of_decimal (d + 1) (omega (arith, most)) in
    let count = number_of_decimal d (omega (arith, most)) in
    rw (one, two, slot, count) refl)

reads_are : (d n l m c : ℕ) (starts : Starts) (last : ℕ) → n ≤ most_patches → l ≤ most_slots →
    map (read_line (map patch_name (range_with_len 0 n)))
    (of_kind (codes "read") (laid d n l m c starts last))
    ≡ map (made_read l starts.reads) (range_with_len 0 n)
reads_are d n l m c starts last few slots =
    let names = map patch_name (range_with_len 0 n) in
    ap (map (read_line names)) (of_kind_laid d n l m c starts last (codes "read") refl refl
    ∙ simp append-nil)
    ∙ items_are d l starts.reads Read n (read_line names) (made_read l starts.reads) (λ i p.
    let patch = number_of_name 112 n i p (omega (arith, few)) in
    let slot = number_of_decimal (l - 1) (omega (arith, slots)) in
    rw (patch, slot) refl)

abbrev made_labels : List (List ℕ) → ℕ → List ℕ
made_labels names i =
    number_in names (merge_label i) ∷ number_in names (seam_of (merge_label i)) ∷ []

conds_are : (d n l m : ℕ) (starts : Starts) (last : ℕ) (observables : List (List ℕ)) →
    n ≤ most_patches →
    d ≤ 11 →
    map (cond_line (map patch_name (range_with_len 0 n)) observables)
    (of_kind (codes "cond") (laid d n l m (cond_count d n l) starts last))
    ≡ map (made_cond d (made_labels observables) starts.conds) (range_with_len 0 (cond_count d n l))
conds_are d n l m starts last observables few most =
    let c = cond_count d n l in
    let names = map patch_name (range_with_len 0 n) in
    ap (map (cond_line names observables))
    (of_kind_laid d n l m c starts last (codes "cond") refl refl)
    ∙ items_are d l starts.conds Cond c (cond_line names observables)
    (made_cond d (made_labels observables) starts.conds) (λ i p.
    let pair = few_merges d n l i (few_conds d n l i p) in
    let patch = number_of_name 112 n (2 * i) (omega (arith, pair)) (omega (arith, few)) in
    let slot = number_of_decimal (5 * (d + 1)) (omega (arith, most)) in
    rw (patch, slot) refl)

-- ---- observables

-- a name that the line of a merge gives is an observable
named_by_merge : (d n l m c : ℕ) (starts : Starts) (last i : ℕ) (name : List ℕ) → i < m →
    list_any (bytes_eq name) (merge_label i ∷ seam_of (merge_label i) ∷ []) ≡ true →
    has (observable_order (laid d n l m c starts last)) name ≡ true
named_by_merge d n l m c starts last i name small h =
    let test = λ (line : TextLine). list_any (bytes_eq name) (names_of_line line) in
    let x2 = numbered 1 (first_words d) ++ lines_from d l starts.patches Patch n
    ++ lines_from d l starts.inits Init n in
    let merges = lines_from d l starts.merges Merge m in
    let reads = lines_from d l starts.reads Read n in
    let conds = lines_from d l starts.conds Cond c in
    let end = text_line last last_words ∷ [] in
    any_flat_map (bytes_eq name) names_of_line (laid d n l m c starts last)
    ∙ list_any-append test (x2 ++ merges ++ reads ++ conds) end
    ∙ or_left (list_any test (x2 ++ merges ++ reads ++ conds)) (list_any test end)
    (list_any-append test (x2 ++ merges ++ reads) conds
    ∙ or_left (list_any test (x2 ++ merges ++ reads)) (list_any test conds)
    (list_any-append test (x2 ++ merges) reads
    ∙ or_left (list_any test (x2 ++ merges)) (list_any test reads)
    (list_any-append test x2 merges
    ∙ or_right (list_any test x2) (list_any test merges)
    (any_in_range test (λ k. text_line (starts.merges + k) (words_of d l Merge k)) m i small h))))

label_is_no_seam : (i : ℕ) → merge_label i ≡ seam_of (merge_label i) → ⊥
label_is_no_seam i e =
    let longer = length-append (merge_label i) (codes ".seam") in
    let same : length (merge_label i) ≡ length (seam_of (merge_label i)) = ap length e in
    omega (arith, longer, same)

named_once : (d n l m c : ℕ) (starts : Starts) (last i : ℕ) → i < m →
    has_repeats (made_labels (observable_order (laid d n l m c starts last)) i) ≡ false
named_once d n l m c starts last i small =
    let names = observable_order (laid d n l m c starts last) in
    let label = merge_label i in
    let seam = seam_of (merge_label i) in
    let one = named_by_merge d n l m c starts last i label small
    (or_left (bytes_eq label label) (bytes_eq label seam || false) (same_bytes label)) in
    let two = named_by_merge d n l m c starts last i seam small
    (or_right (bytes_eq seam label) (bytes_eq seam seam || false)
    (or_left (bytes_eq seam seam) false (same_bytes seam))) in
    let differ = numbers_differ names seam label two one (λ e. label_is_no_seam i (sym e)) in
    or_from ((number_in names seam == number_in names label) || false) (has_repeats
    (number_in names seam ∷ [])) (or_from (number_in names seam == number_in names label) false
    differ refl) refl

-- ---- the schedule

-- the schedule that lines give
abbrev schedule_from : List TextLine → Schedule
schedule_from lines =
    schedule_with (number_at (line_at lines 1) 1) (number_at (line_at lines 2) 1)
    (number_at (line_at lines 2) 2) (line_at lines (length lines - 1)).number
    (map patch_line (of_kind (codes "patch") lines))
    (map (init_line (patch_names lines)) (of_kind (codes "init") lines))
    (map (merge_line (patch_names lines)) (of_kind (codes "merge") lines))
    (map (read_line (patch_names lines)) (of_kind (codes "read") lines))
    (map (cond_line (patch_names lines) (observable_order lines)) (of_kind (codes "cond") lines))

laid_names : (d n l m c : ℕ) (starts : Starts) (last : ℕ) →
    patch_names (laid d n l m c starts last) ≡ map patch_name (range_with_len 0 n)
laid_names d n l m c starts last =
    ap (map (λ (line : TextLine). field line 1))
    (of_kind_laid d n l m c starts last (codes "patch") refl refl ∙ simp append-nil)
    ∙ items_are d l starts.patches Patch n (λ line. field line 1) patch_name (λ i p. refl)

schedule_laid : (d n l : ℕ) (starts : Starts) (last : ℕ) → AreMakeable d n l →
    rule_fault (schedule_from (laid d n l (merge_count d n l) (cond_count d n l) starts last))
    ≡ None
schedule_laid d n l starts last h =
    let m = merge_count d n l in
    let c = cond_count d n l in
    let lines = laid d n l m c starts last in
    let names = laid_names d n l m c starts last in
    let observables = observable_order lines in
    let ps = patches_are d n l m c starts last h.few in
    let is = inits_are d n l m c starts last h.few in
    let ms = merges_are d n l c starts last h.few h.greatest in
    let rs = reads_are d n l m c starts last h.few h.few_slots in
    let cs = conds_are d n l m starts last observables h.few h.greatest in
    let x = number_at (line_at lines 1) 1 in
    let y = number_at (line_at lines 2) 1 in
    let z = number_at (line_at lines 2) 2 in
    let r = (line_at lines (length lines - 1)).number in
    let inits = of_kind (codes "init") lines in
    let merges = of_kind (codes "merge") lines in
    let reads = of_kind (codes "read") lines in
    let conds = of_kind (codes "cond") lines in
    ap (λ ns. rule_fault (schedule_with x y z r (map patch_line (of_kind (codes "patch") lines))
    (map (init_line ns) inits) (map (merge_line ns) merges) (map (read_line ns) reads)
    (map (cond_line ns observables) conds))) names
    ∙ ap (λ f. rule_fault f) (with_all x y z r ps is ms rs cs)
    ∙ ruled x y z r d n l starts (made_labels observables) h
    (λ i p. named_once d n l m c starts last i (few_conds d n l i p))
  where
    with_all : (x y z r : ℕ) {ps ps' : List PatchLine} {is is' : List InitLine}
        {ms ms' : List MergeLine} {rs rs' : List ReadLine} {cs cs' : List CondLine} → ps ≡ ps' →
        is ≡ is' → ms ≡ ms' → rs ≡ rs' → cs ≡ cs' →
        schedule_with x y z r ps is ms rs cs ≡ schedule_with x y z r ps' is' ms' rs' cs'
    with_all x y z r a b c d e = cc

pub ruled_header : (d n l : ℕ) → AreMakeable d n l →
    rule_fault (schedule_of (made_header d n l)) ≡ None
ruled_header d n l h =
    let m = merge_count d n l in
    let c = cond_count d n l in
    let lines : text_lines (made_header d n l)
    ≡ laid d n l m c (starts_of d n l m) (1 + length (so_far d l n n m n c))
    = header_lines d n l h ∙ lines_laid d n l m c in
    ap (λ ls. rule_fault (schedule_from ls)) lines
    ∙ schedule_laid d n l (starts_of d n l m) (1 + length (so_far d l n n m n c)) h

-- no line of a made header is at fault, and its schedule breaks no rule
pub sound_header : (d n l : ℕ) → AreMakeable d n l → IsSound (made_header d n l)
sound_header d n l h = record { faultless = faultless_header d n l h; ruled = ruled_header d n l h }
