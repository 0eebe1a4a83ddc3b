-- The lines of a made header up to some line, and what they give to those after them.
use Rattle.std.proofs.Common.{◌≡◌, ℕ, suc, ◌+◌, Bool, true, false, ◌||◌, if◌then◌else◌, List, [], ◌∷◌, ◌++◌, length, map, filter, codes, decimal, bytes_eq, count_by, slice_index_or, refl, sym, ap, ◌∙◌, append-nil, length-append, arith}
use Rattle.std.specs.List.{list_any, range_with_len}
use Rattle.std.proofs.lemmas.Bool.{cond-false, or_parts}
use Rattle.std.proofs.lemmas.List.{length-map}
use Rattle.std.proofs.lemmas.List.Elements.{filter-append}
use Rattle.std.proofs.lemmas.List.FromFn.{length-map-range_with_len}
use Rattle.std.proofs.lemmas.List.Sums.{length-filter}
use Rattle.std.proofs.lemmas.Simd.{map-map}
use Rattle.surface_model.specs.Text.{TextLine, begins, given, is_of_many, patch_names}
use Rattle.workload_maker.specs.Headers.{merge_label, numbered as numbered_name, patch_name, words_of}
use Rattle.workload_maker.specs.declared.lines.LineKind.{LineKind}
use Rattle.workload_maker.specs.declared.lines.LineKind.TheVariants.{Patch, Init, Merge, Read, Cond}
use Rattle.workload_maker.proofs.Going.{numbered, text_line}
use Rattle.workload_maker.proofs.Naming.{all_in_range, none_in_range}
use Rattle.workload_maker.proofs.Spelled.{all_kept}

-- ---- the lines

abbrev pub read_label : ℕ → List ℕ
read_label k = numbered_name (codes "r") k

abbrev pub cond_label : ℕ → List ℕ
cond_label i = numbered_name (codes "c") i

abbrev pub first_words : ℕ → List (List (List ℕ))
first_words d =
    (codes "swiper" ∷ codes "1" ∷ []) ∷ (codes "distance" ∷ decimal d ∷ [])
    ∷ (codes "weights" ∷ codes "10" ∷ codes "10" ∷ []) ∷ []

-- the first so many lines of a kind
abbrev pub section : (d l : ℕ) → LineKind → ℕ → List (List (List ℕ))
section d l kind count = map (words_of d l kind) (range_with_len 0 count)

-- so many lines of each kind
abbrev pub so_far : (d l a b m r c : ℕ) → List (List (List ℕ))
so_far d l a b m r c =
    first_words d ++ section d l Patch a ++ section d l Init b ++ section d l Merge m
    ++ section d l Read r ++ section d l Cond c

-- ---- lines of a kind

abbrev pub word_of : LineKind → List ℕ
word_of Patch = codes "patch"
word_of Init = codes "init"
word_of Merge = codes "merge"
word_of Read = codes "read"
word_of Cond = codes "cond"

abbrev pub word_at : ℕ → List (List ℕ) → List ℕ
word_at k words = slice_index_or words k []

abbrev pub pick : {A : Type 0} → Bool → List A → List A
pick true xs = xs
pick false xs = []

pub none_kept : {A : Type 0} (p : A → Bool) (xs : List A) → list_any p xs ≡ false → filter p xs ≡ []
none_kept p [] h = refl
none_kept p (x ∷ xs) h =
    let parts = or_parts (p x) (list_any p xs) h in
    cond-false (p x) (x ∷ filter p xs) (filter p xs) parts.0 ∙ none_kept p xs parts.1

of_section : {A : Type 0} (p : A → Bool) (f : ℕ → A) (count : ℕ) (t : Bool) →
    ((i : ℕ) → p (f i) ≡ t) →
    filter p (map f (range_with_len 0 count)) ≡ pick t (map f (range_with_len 0 count))
of_section p f count true h =
    all_kept p (map f (range_with_len 0 count)) (all_in_range p f count (λ k l. h k))
of_section p f count false h =
    none_kept p (map f (range_with_len 0 count)) (none_in_range p f count (λ k l. h k))

-- of five sections after some elements that fail
pub kept_five : {A : Type 0} (p : A → Bool) (front : List A) (f1 f2 f3 f4 f5 : ℕ → A)
    (c1 c2 c3 c4 c5 : ℕ) (t1 t2 t3 t4 t5 : Bool) → filter p front ≡ [] →
    ((i : ℕ) → p (f1 i) ≡ t1) → ((i : ℕ) → p (f2 i) ≡ t2) → ((i : ℕ) → p (f3 i) ≡ t3) →
    ((i : ℕ) → p (f4 i) ≡ t4) → ((i : ℕ) → p (f5 i) ≡ t5) →
    filter p (front ++ map f1 (range_with_len 0 c1) ++ map f2 (range_with_len 0 c2)
    ++ map f3 (range_with_len 0 c3) ++ map f4 (range_with_len 0 c4) ++ map f5 (range_with_len 0 c5))
    ≡ pick t1 (map f1 (range_with_len 0 c1)) ++ pick t2 (map f2 (range_with_len 0 c2))
    ++ pick t3 (map f3 (range_with_len 0 c3)) ++ pick t4 (map f4 (range_with_len 0 c4))
    ++ pick t5 (map f5 (range_with_len 0 c5))
kept_five p front f1 f2 f3 f4 f5 c1 c2 c3 c4 c5 t1 t2 t3 t4 t5 none h1 h2 h3 h4 h5 =
    let s1 = map f1 (range_with_len 0 c1) in
    let s2 = map f2 (range_with_len 0 c2) in
    let s3 = map f3 (range_with_len 0 c3) in
    let s4 = map f4 (range_with_len 0 c4) in
    let s5 = map f5 (range_with_len 0 c5) in
    let k1 = filter-append p front s1 ∙ ap (λ xs. xs ++ filter p s1) none
    ∙ of_section p f1 c1 t1 h1 in
    let k2 = filter-append p (front ++ s1) s2 ∙ ap (λ xs. xs ++ filter p s2) k1
    ∙ ap (λ xs. pick t1 s1 ++ xs) (of_section p f2 c2 t2 h2) in
    let k3 = filter-append p (front ++ s1 ++ s2) s3 ∙ ap (λ xs. xs ++ filter p s3) k2
    ∙ ap (λ xs. pick t1 s1 ++ pick t2 s2 ++ xs) (of_section p f3 c3 t3 h3) in
    let k4 = filter-append p (front ++ s1 ++ s2 ++ s3) s4 ∙ ap (λ xs. xs ++ filter p s4) k3
    ∙ ap (λ xs. pick t1 s1 ++ pick t2 s2 ++ pick t3 s3 ++ xs) (of_section p f4 c4 t4 h4) in
    filter-append p (front ++ s1 ++ s2 ++ s3 ++ s4) s5 ∙ ap (λ xs. xs ++ filter p s5) k4
    ∙ ap (λ xs. pick t1 s1 ++ pick t2 s2 ++ pick t3 s3 ++ pick t4 s4 ++ xs)
    (of_section p f5 c5 t5 h5)

-- those lines of which a test of the first word holds
kept_so_far : (d l a b m r c : ℕ) (test : List ℕ → Bool) →
    filter (λ words. test (word_at 0 words)) (first_words d) ≡ [] →
    filter (λ words. test (word_at 0 words)) (so_far d l a b m r c)
    ≡ pick (test (word_of Patch)) (section d l Patch a)
    ++ pick (test (word_of Init)) (section d l Init b)
    ++ pick (test (word_of Merge)) (section d l Merge m)
    ++ pick (test (word_of Read)) (section d l Read r)
    ++ pick (test (word_of Cond)) (section d l Cond c)
kept_so_far d l a b m r c test none =
    kept_five (λ words. test (word_at 0 words)) (first_words d) (words_of d l Patch)
    (words_of d l Init) (words_of d l Merge) (words_of d l Read) (words_of d l Cond) a b m r c
    (test (word_of Patch)) (test (word_of Init)) (test (word_of Merge)) (test (word_of Read))
    (test (word_of Cond)) none (λ i. refl) (λ i. refl) (λ i. refl) (λ i. refl) (λ i. refl)

-- ---- what numbered lines give

unnumbered : {B : Type 0} (q : TextLine → Bool) (g : TextLine → B) (p : List (List ℕ) → Bool)
    (h : List (List ℕ) → B) → ((n : ℕ) (words : List (List ℕ)) → q (text_line n words) ≡ p words) →
    ((n : ℕ) (words : List (List ℕ)) → g (text_line n words) ≡ h words) →
    (n : ℕ) (lines : List (List (List ℕ))) →
    map g (filter q (numbered n lines)) ≡ map h (filter p lines)
unnumbered q g p h same kept n [] = refl
unnumbered q g p h same kept n (words ∷ lines) =
    ap (λ t. map g (if t then text_line n words ∷ filter q (numbered (n + 1) lines)
    else filter q (numbered (n + 1) lines))) (same n words)
    ∙ by (p words) (unnumbered q g p h same kept (n + 1) lines)
  where
    by : (t : Bool) → map g (filter q (numbered (n + 1) lines)) ≡ map h (filter p lines) →
        map g (if t then text_line n words ∷ filter q (numbered (n + 1) lines)
        else filter q (numbered (n + 1) lines))
        ≡ map h (if t then words ∷ filter p lines else filter p lines)
    by true e = ap (λ x. x ∷ map g (filter q (numbered (n + 1) lines))) (kept n words)
        ∙ ap (λ xs. h words ∷ xs) e
    by false e = e

-- field k of the lines that begin with a word
abbrev given_words : List ℕ → ℕ → List (List (List ℕ)) → List (List ℕ)
given_words word k lines =
    map (word_at k) (filter (λ words. bytes_eq (word_at 0 words) word) lines)

given_is : (word : List ℕ) (k n : ℕ) (lines : List (List (List ℕ))) →
    given word k (numbered n lines) ≡ given_words word k lines
given_is word k n lines =
    unnumbered (begins word) (λ line. slice_index_or line.fields k [])
    (λ words. bytes_eq (word_at 0 words) word) (word_at k) (λ m words. refl) (λ m words. refl) n
    lines

abbrev field_0 : TextLine → List ℕ
field_0 line = slice_index_or line.fields 0 []

-- the lines that are bounded together
abbrev is_bounded : List ℕ → Bool
is_bounded word = bytes_eq word (codes "merge") || bytes_eq word (codes "read")
    || bytes_eq word (codes "cond")

bounded_is : (n : ℕ) (lines : List (List (List ℕ))) →
    count_by is_of_many (numbered n lines)
    ≡ length (filter (λ words. is_bounded (word_at 0 words)) lines)
bounded_is n lines =
    let test = λ (words : List (List ℕ)). is_bounded (word_at 0 words) in
    sym (length-filter is_of_many (numbered n lines))
    ∙ sym (length-map (filter is_of_many (numbered n lines)) field_0)
    ∙ ap length (unnumbered is_of_many field_0 test (word_at 0) (λ m words. refl) (λ m words. refl)
    n lines)
    ∙ length-map (filter test lines) (word_at 0)

-- what these lines give
pub record AreSoFar (earlier : List TextLine) (a b m r c : ℕ) : Type 0 where
  pub patches : patch_names earlier ≡ map patch_name (range_with_len 0 a)
  pub inits : given (codes "init") 1 earlier ≡ map patch_name (range_with_len 0 b)
  pub merges : given (codes "merge") 1 earlier ≡ map merge_label (range_with_len 0 m)
  pub reads : given (codes "read") 1 earlier ≡ map read_label (range_with_len 0 r)
  pub read_patches : given (codes "read") 2 earlier ≡ map patch_name (range_with_len 0 r)
  pub conds : given (codes "cond") 1 earlier ≡ map cond_label (range_with_len 0 c)
  pub patch_count : count_by (begins (codes "patch")) earlier ≡ a
  pub bounded : count_by is_of_many earlier ≡ m + r + c
  pub place : (k : ℕ) × (length earlier ≡ suc (suc (suc k)))

given_so_far : (d l a b m r c : ℕ) (word : List ℕ) (k : ℕ) →
    filter (λ words. bytes_eq (word_at 0 words) word) (first_words d) ≡ [] →
    given word k (numbered 1 (so_far d l a b m r c)) ≡ map (word_at k)
    (pick (bytes_eq (word_of Patch) word) (section d l Patch a)
    ++ pick (bytes_eq (word_of Init) word) (section d l Init b)
    ++ pick (bytes_eq (word_of Merge) word) (section d l Merge m)
    ++ pick (bytes_eq (word_of Read) word) (section d l Read r)
    ++ pick (bytes_eq (word_of Cond) word) (section d l Cond c))
given_so_far d l a b m r c word k none =
    given_is word k 1 (so_far d l a b m r c)
    ∙ ap (map (word_at k)) (kept_so_far d l a b m r c (λ w. bytes_eq w word) none)

-- one of the sections alone
alone : (k : ℕ) (d l : ℕ) (kind : LineKind) (count : ℕ) →
    map (word_at k) (section d l kind count)
    ≡ map (λ i. word_at k (words_of d l kind i)) (range_with_len 0 count)
alone k d l kind count = map-map (word_at k) (words_of d l kind) (range_with_len 0 count)

long : (d l : ℕ) (kind : LineKind) (count : ℕ) → length (section d l kind count) ≡ count
long d l kind count = length-map-range_with_len (words_of d l kind) 0 count

patches_so_far : (d l a b m r c : ℕ) →
    patch_names (numbered 1 (so_far d l a b m r c)) ≡ map patch_name (range_with_len 0 a)
patches_so_far d l a b m r c =
    given_so_far d l a b m r c (codes "patch") 1 refl
    ∙ ap (map (word_at 1)) (simp append-nil) ∙ alone 1 d l Patch a

bounded_so_far : (d l a b m r c : ℕ) →
    count_by is_of_many (numbered 1 (so_far d l a b m r c)) ≡ m + r + c
bounded_so_far d l a b m r c =
    let merges = section d l Merge m in
    let reads = section d l Read r in
    let conds = section d l Cond c in
    let counted = bounded_is 1 (so_far d l a b m r c)
    ∙ ap length (kept_so_far d l a b m r c is_bounded refl) in
    let one = length-append (merges ++ reads) conds in
    let two = length-append merges reads in
    let lm = long d l Merge m in
    let lr = long d l Read r in
    let lc = long d l Cond c in
    counted ∙ omega (arith, one, two, lm, lr, lc)

counted_so_far : (d l a b m r c : ℕ) →
    count_by (begins (codes "patch")) (numbered 1 (so_far d l a b m r c)) ≡ a
counted_so_far d l a b m r c =
    let lines = filter (begins (codes "patch")) (numbered 1 (so_far d l a b m r c)) in
    sym (length-filter (begins (codes "patch")) (numbered 1 (so_far d l a b m r c)))
    ∙ sym (length-map lines (λ (line : TextLine). slice_index_or line.fields 1 []))
    ∙ ap length (patches_so_far d l a b m r c) ∙ length-map-range_with_len patch_name 0 a

pub so_far_is : (d l a b m r c : ℕ) → AreSoFar (numbered 1 (so_far d l a b m r c)) a b m r c
so_far_is d l a b m r c = record {
  patches = patches_so_far d l a b m r c;
  inits = given_so_far d l a b m r c (codes "init") 1 refl
      ∙ ap (map (word_at 1)) (simp append-nil) ∙ alone 1 d l Init b;
  merges = given_so_far d l a b m r c (codes "merge") 1 refl
      ∙ ap (map (word_at 1)) (simp append-nil) ∙ alone 1 d l Merge m;
  reads = given_so_far d l a b m r c (codes "read") 1 refl
      ∙ ap (map (word_at 1)) (simp append-nil) ∙ alone 1 d l Read r;
  read_patches = given_so_far d l a b m r c (codes "read") 2 refl
      ∙ ap (map (word_at 2)) (simp append-nil) ∙ alone 2 d l Read r;
  conds = given_so_far d l a b m r c (codes "cond") 1 refl ∙ alone 1 d l Cond c;
  patch_count = counted_so_far d l a b m r c;
  bounded = bounded_so_far d l a b m r c;
  place = (
    length (numbered 4 (section d l Patch a ++ section d l Init b ++ section d l Merge m
        ++ section d l Read r ++ section d l Cond c)),
    refl,
  );
}
