-- No line of a made header is at fault.
use Rattle.std.proofs.Common.{◌≡◌, ◌≤◌, ◌<◌, ℕ, suc, ◌+◌, ◌-◌, ◌*◌, ◌/◌, ◌%◌, ◌==◌, Bool, true, false, not, ◌||◌, nat_le, List, [], ◌∷◌, ◌++◌, length, map, codes, decimal, bytes_eq, count_by, None, refl, ap, ◌∙◌, arith}
use Rattle.std.specs.List.{list_any, range_with_len}
use Rattle.std.proofs.Math.Dec.{eqb-suc-zero}
use Rattle.std.proofs.lemmas.Bool.{and_left, lt-leb, or_from, or_left, or_right}
use Rattle.std.proofs.lemmas.Bool.Decides.{nat_tests}
use Rattle.std.proofs.lemmas.List.Folds.{list_any-append}
use Rattle.surface_model.specs.Limits.{most_patches, most_slots}
use Rattle.surface_model.specs.Layout.{is_even}
use Rattle.surface_model.specs.Text.{TextLine, all_fields, begins, given, has, has_shape, is_bad_distance, is_between, is_in_place, is_in_range, is_known, is_new, is_repeated_life, is_too_many, is_well_formed, labels_of, line_fault, observable_names, patch_names, seam_of}
use Rattle.workload_maker.specs.Headers.{merge_label, patch_name, words_of}
use Rattle.workload_maker.specs.declared.lines.LineKind.TheVariants.{Patch, Init, Merge, Read, Cond}
use Rattle.workload_maker.proofs.Earlier.{AreSoFar, cond_label, read_label}
use Rattle.workload_maker.proofs.Going.{text_line}
use Rattle.workload_maker.proofs.Naming.{any_in_range, both, decimal_between, has_name, label_is_observable, lacks_name, named, none_in_range, number_of_decimal, same_bytes, seam_is_observable}
use Rattle.std.proofs.lemmas.Simd.{map-map}

-- every test of a line comes out well
record IsFine (earlier : List TextLine) (followed : Bool) (line : TextLine) : Type 0 where
  in_place : is_in_place (length earlier) followed line ≡ true
  not_first : (length earlier == 0) ≡ false
  shape : has_shape line ≡ true
  formed : all_fields is_well_formed line ≡ true
  range : all_fields is_in_range line ≡ true
  known : all_fields (is_known earlier) line ≡ true
  new : all_fields (is_new earlier) line ≡ true
  once : is_repeated_life earlier line ≡ false
  distance : is_bad_distance line ≡ false
  few : is_too_many earlier line ≡ false

fine : (earlier : List TextLine) (followed : Bool) (line : TextLine) →
    IsFine earlier followed line → line_fault earlier followed line ≡ None
fine earlier followed line h =
    let in_place = h.in_place in
    let not_first = h.not_first in
    let shape = h.shape in
    let formed = h.formed in
    let range = h.range in
    let known = h.known in
    let new = h.new in
    let once = h.once in
    let distance = h.distance in
    let few = h.few in
    rw (in_place, not_first, shape, formed, range, known, new, once, distance, few) refl

-- ---- tests of fields

fresh : (names : List (List ℕ)) (name : List ℕ) → has names name ≡ false →
    not (has names name) ≡ true
fresh names name h = ap not h

under : (n limit : ℕ) → n < limit → nat_le limit n ≡ false
under n limit l = lt-leb limit n l

patch_is_known : (earlier : List TextLine) (a k : ℕ) →
    patch_names earlier ≡ map patch_name (range_with_len 0 a) → k < a →
    has (patch_names earlier) (patch_name k) ≡ true
patch_is_known earlier a k given_ small =
    ap (λ names. has names (patch_name k)) given_ ∙ has_name 112 a k small

-- ---- lines of patches

pub patch_is_fine : (d l k n : ℕ) (earlier : List TextLine) → k < most_patches →
    AreSoFar earlier k 0 0 0 0 →
    line_fault earlier true (text_line n (words_of d l Patch k)) ≡ None
patch_is_fine d l k n earlier small given_ =
    let line = text_line n (words_of d l Patch k) in
    fine earlier true line (record {
      in_place = ap (λ m. is_in_place m true line) given_.place.1;
      not_first = ap (λ m. m == 0) given_.place.1 ∙ eqb-suc-zero (suc (suc given_.place.0));
      shape = refl;
      formed = both (named 112 k refl (omega (arith, small))) refl;
      range = both
          (decimal_between 0 15 (k / 8) (omega (arith, small)) (omega arith) (omega (arith, small)))
          (both (decimal_between 0 15 (k % 8) (omega arith) (omega arith) (omega arith)) refl);
      known = refl;
      new = both (ap (λ names. not (has names (patch_name k))) given_.patches
          ∙ ap not (lacks_name 112 k k (omega arith) (omega (arith, small)))) refl;
      once = refl;
      distance = refl;
      few = or_from (nat_le 64 (count_by (begins (codes "patch")) earlier)) false
          (ap (nat_le 64) given_.patch_count ∙ under k 64 small) refl;
    })

-- ---- other lines

pub init_is_fine : (d l a k n : ℕ) (earlier : List TextLine) → a ≤ most_patches → k < a →
    AreSoFar earlier a k 0 0 0 →
    line_fault earlier true (text_line n (words_of d l Init k)) ≡ None
init_is_fine d l a k n earlier most small given_ =
    let line = text_line n (words_of d l Init k) in
    fine earlier true line (record {
      in_place = ap (λ m. is_in_place m true line) given_.place.1;
      not_first = ap (λ m. m == 0) given_.place.1 ∙ eqb-suc-zero (suc (suc given_.place.0));
      shape = refl;
      formed = both (named 112 k refl (omega (arith, small, most))) refl;
      range = refl;
      known = both (patch_is_known earlier a k given_.patches small) refl;
      new = refl;
      once = or_from (has (given (codes "init") 1 earlier) (patch_name k)) false
          (ap (λ names. has names (patch_name k)) given_.inits
          ∙ lacks_name 112 k k (omega arith) (omega (arith, small, most))) refl;
      distance = refl;
      few = refl;
    })

-- a name with another letter
other_letter : (letter other count k : ℕ) → (letter == other) ≡ false →
    has (map (λ i. other ∷ decimal i) (range_with_len 0 count)) (letter ∷ decimal k) ≡ false
other_letter letter other count k differ =
    none_in_range (bytes_eq (letter ∷ decimal k)) (λ i. other ∷ decimal i) count (λ i h.
    and_left (letter == other) (bytes_eq (decimal k) (decimal i)) differ)

-- a label that no earlier line gives
label_is_new : (earlier : List TextLine) (a b m r c : ℕ) (name : List ℕ) →
    AreSoFar earlier a b m r c →
    has (map merge_label (range_with_len 0 m)) name ≡ false →
    has (map read_label (range_with_len 0 r)) name ≡ false →
    has (map cond_label (range_with_len 0 c)) name ≡ false →
    has (labels_of earlier) name ≡ false
label_is_new earlier a b m r c name given_ merges reads conds =
    let ms = given (codes "merge") 1 earlier in
    let rs = given (codes "read") 1 earlier in
    let cs = given (codes "cond") 1 earlier in
    let test = bytes_eq name in
    list_any-append test (ms ++ rs) cs
    ∙ or_from (list_any test (ms ++ rs)) (list_any test cs)
    (list_any-append test ms rs ∙ or_from (list_any test ms) (list_any test rs)
    (ap (λ names. has names name) given_.merges ∙ merges)
    (ap (λ names. has names name) given_.reads ∙ reads))
    (ap (λ names. has names name) given_.conds ∙ conds)

pub merge_is_fine : (d l a i n : ℕ) (earlier : List TextLine) → a ≤ most_patches →
    2 * i + 1 < a →
    1 ≤ d → d ≤ 11 → AreSoFar earlier a a i 0 0 →
    line_fault earlier true (text_line n (words_of d l Merge i)) ≡ None
merge_is_fine d l a i n earlier most small least greatest given_ =
    let line = text_line n (words_of d l Merge i) in
    let name = merge_label i in
    let few = is_few i (omega (arith, most, small)) in
    fine earlier true line (record {
      in_place = ap (λ m. is_in_place m true line) given_.place.1;
      not_first = ap (λ m. m == 0) given_.place.1 ∙ eqb-suc-zero (suc (suc given_.place.0));
      shape = refl;
      formed = both (named 109 i refl (omega (arith, small, most)))
          (both (named 112 (2 * i) refl (omega (arith, small, most)))
          (both (named 112 (2 * i + 1) refl (omega (arith, small, most))) refl));
      range = both (decimal_between 0 4095 (d + 1) (omega (arith, greatest)) (omega arith)
          (omega (arith, greatest)))
          (both (decimal_between 1 4095 d (omega (arith, greatest)) least (omega (arith, greatest)))
          refl);
      known = both (patch_is_known earlier a (2 * i) given_.patches (omega (arith, small)))
          (both (patch_is_known earlier a (2 * i + 1) given_.patches small) refl);
      new = both (fresh (labels_of earlier) name (label_is_new earlier a a i 0 0 name given_
          (lacks_name 109 i i (omega arith) (omega (arith, small, most))) refl refl)) refl;
      once = refl;
      distance = refl;
      few = ap (nat_le 256) given_.bounded ∙ few;
    })
  where
    is_few : (i : ℕ) → i < most_patches → nat_le 256 (i + 0 + 0) ≡ false
    is_few i h = under (i + 0 + 0) 256 (omega (arith, h))

pub read_is_fine : (d l a m k n : ℕ) (earlier : List TextLine) → a ≤ most_patches →
    m ≤ most_patches → k < a → l ≤ most_slots → AreSoFar earlier a a m k 0 →
    line_fault earlier true (text_line n (words_of d l Read k)) ≡ None
read_is_fine d l a m k n earlier most merges small slots given_ =
    let line = text_line n (words_of d l Read k) in
    let name = read_label k in
    fine earlier true line (record {
      in_place = ap (λ j. is_in_place j true line) given_.place.1;
      not_first = ap (λ j. j == 0) given_.place.1 ∙ eqb-suc-zero (suc (suc given_.place.0));
      shape = refl;
      formed = both (named 114 k refl (omega (arith, small, most)))
          (both (named 112 k refl (omega (arith, small, most))) refl);
      range = both (decimal_between 0 4095 (l - 1) (omega (arith, slots)) (omega arith)
          (omega (arith, slots))) refl;
      known = both (patch_is_known earlier a k given_.patches small) refl;
      new = both (fresh (labels_of earlier) name (label_is_new earlier a a m k 0 name given_
          (other_letter 114 109 m k refl)
          (lacks_name 114 k k (omega arith) (omega (arith, small, most))) refl)) refl;
      once = ap (λ names. has names (patch_name k)) given_.read_patches
          ∙ lacks_name 112 k k (omega arith) (omega (arith, small, most));
      distance = refl;
      few = ap (nat_le 256) given_.bounded
          ∙ under (m + k + 0) 256 (omega (arith, merges, small, most));
    })

-- a merge's label and its seam's are observables
observable_is_known : (earlier : List TextLine) (a b m r c i : ℕ) → i < m →
    AreSoFar earlier a b m r c → has (observable_names earlier) (merge_label i) ≡ true
observable_is_known earlier a b m r c i small given_ =
    let ms = given (codes "merge") 1 earlier in
    let rs = given (codes "read") 1 earlier in
    let test = bytes_eq (merge_label i) in
    list_any-append test (ms ++ map seam_of ms) rs
    ∙ or_left (list_any test (ms ++ map seam_of ms)) (list_any test rs)
    (list_any-append test ms (map seam_of ms)
    ∙ or_left (list_any test ms) (list_any test (map seam_of ms))
    (ap (λ names. has names (merge_label i)) given_.merges ∙ has_name 109 m i small))

seam_is_known : (earlier : List TextLine) (a b m r c i : ℕ) → i < m →
    AreSoFar earlier a b m r c → has (observable_names earlier) (seam_of (merge_label i)) ≡ true
seam_is_known earlier a b m r c i small given_ =
    let ms = given (codes "merge") 1 earlier in
    let rs = given (codes "read") 1 earlier in
    let test = bytes_eq (seam_of (merge_label i)) in
    list_any-append test (ms ++ map seam_of ms) rs
    ∙ or_left (list_any test (ms ++ map seam_of ms)) (list_any test rs)
    (list_any-append test ms (map seam_of ms)
    ∙ or_right (list_any test ms) (list_any test (map seam_of ms))
    (ap (λ names. has (map seam_of names) (seam_of (merge_label i))) given_.merges
    ∙ ap (list_any test) (map-map seam_of merge_label (range_with_len 0 m))
    ∙ any_in_range test (λ j. seam_of (merge_label j)) m i small
    (same_bytes (seam_of (merge_label i)))))

pub cond_is_fine : (d l a m i n : ℕ) (earlier : List TextLine) → a ≤ most_patches →
    m ≤ most_patches → i < m →
    2 * i < a → d ≤ 11 → AreSoFar earlier a a m a i →
    line_fault earlier true (text_line n (words_of d l Cond i)) ≡ None
cond_is_fine d l a m i n earlier most merges small patch greatest given_ =
    let line = text_line n (words_of d l Cond i) in
    let name = cond_label i in
    fine earlier true line (record {
      in_place = ap (λ j. is_in_place j true line) given_.place.1;
      not_first = ap (λ j. j == 0) given_.place.1 ∙ eqb-suc-zero (suc (suc given_.place.0));
      shape = refl;
      formed = both (named 99 i refl (omega (arith, small, merges)))
          (both (named 112 (2 * i) refl (omega (arith, patch, most)))
          (both (label_is_observable i (omega (arith, small, merges)))
          (both (seam_is_observable i (omega (arith, small, merges))) refl)));
      range = both (decimal_between 0 4095 (5 * (d + 1)) (omega (arith, greatest)) (omega arith)
          (omega (arith, greatest))) refl;
      known = both (patch_is_known earlier a (2 * i) given_.patches patch)
          (both (observable_is_known earlier a a m a i i small given_)
          (both (seam_is_known earlier a a m a i i small given_) refl));
      new = both (fresh (labels_of earlier) name (label_is_new earlier a a m a i name given_
          (other_letter 99 109 m i refl) (other_letter 99 114 a i refl)
          (lacks_name 99 i i (omega arith) (omega (arith, small, merges))))) refl;
      once = refl;
      distance = refl;
      few = ap (nat_le 256) given_.bounded
          ∙ under (m + a + i) 256 (omega (arith, merges, small, most));
    })

-- ---- the lines that stand alone

pub last_is_fine : (a b m r c n : ℕ) (earlier : List TextLine) → AreSoFar earlier a b m r c →
    line_fault earlier false (text_line n (codes "rounds" ∷ [])) ≡ None
last_is_fine a b m r c n earlier given_ =
    let line = text_line n (codes "rounds" ∷ []) in
    fine earlier false line (record {
      in_place = ap (λ j. is_in_place j false line) given_.place.1;
      not_first = ap (λ j. j == 0) given_.place.1 ∙ eqb-suc-zero (suc (suc given_.place.0));
      shape = refl;
      formed = refl;
      range = refl;
      known = refl;
      new = refl;
      once = refl;
      distance = refl;
      few = refl;
    })

pub distance_is_fine : (d : ℕ) → d % 2 ≡ 1 → 3 ≤ d → d ≤ 11 →
    line_fault (text_line 1 (codes "swiper" ∷ codes "1" ∷ []) ∷ []) true
    (text_line 2 (codes "distance" ∷ decimal d ∷ [])) ≡ None
distance_is_fine d odd least most =
    let first = text_line 1 (codes "swiper" ∷ codes "1" ∷ []) in
    let line = text_line 2 (codes "distance" ∷ decimal d ∷ []) in
    fine (first ∷ []) true line (record {
      in_place = refl;
      not_first = refl;
      shape = refl;
      formed = refl;
      range = both (decimal_between 0 999999999 d (omega (arith, most)) (omega arith)
          (omega (arith, most))) refl;
      known = refl;
      new = refl;
      once = refl;
      distance = ap (λ n. is_even n || not (is_between 3 11 n))
          (number_of_decimal d (omega (arith, most))) ∙ good d odd least most;
      few = refl;
    })
  where
    good : (d : ℕ) → d % 2 ≡ 1 → 3 ≤ d → d ≤ 11 → (is_even d || not (is_between 3 11 d)) ≡ false
    good d odd least most = grind (arith, nat_tests)
