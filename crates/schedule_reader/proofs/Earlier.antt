-- What the tables say of the lines so far.
use Rattle.std.proofs.Common.{◌≡◌, ℕ, zero, suc, ◌+◌, Bool, true, false, not, ◌&&◌, ◌||◌, eqb, cond, List, [], ◌∷◌, ◌++◌, length, map, filter, refl, ap, sym, ◌∙◌, arith, bytes_eq, codes, Option, Some, None, append_assoc, count_by}
use Rattle.std.specs.Prelude.{if◌then◌else◌, ◌==◌, nat_le}
use Rattle.std.specs.List.{list_all}
use Rattle.std.proofs.Math.Dec.{eqb-suc-zero}
use Rattle.std.proofs.lemmas.List.{length-append, append-nil, map-append}
use Rattle.std.proofs.lemmas.List.Folds.{list_any-append}
use Rattle.std.proofs.lemmas.List.Sums.{sum_by-cons}
use Rattle.surface_model.specs.Schedules.{PatchLine, MergeLine, ReadLine, CondLine}
use Rattle.surface_model.specs.declared.FieldKind.{FieldKind}
use Rattle.surface_model.specs.declared.FieldKind.TheVariants.{NewPatch, OldPatch, NewLabel, ABasis, ANumber, OldObservable}
use Rattle.surface_model.specs.Text.{TextLine, LineFault, BadLine, BadNumber, UnknownName, Repeated, BadDistance, TooMany, field, begins, has, given, seam_of, patch_names, labels_of, observable_names, is_of_many, is_too_many, is_repeated_life, is_known, is_new, has_shape, typed_fields, all_fields, is_well_formed, is_in_range, is_in_place, is_bad_distance, line_fault}
use Rattle.surface_model.specs.Parse.{names_of_line, observable_order, patch_line, merge_line, read_line, cond_line}
use Rattle.schedule_reader.specs.declared.known.Place.{Place}
use Rattle.schedule_reader.specs.declared.known.Place.TheVariants.{Version, Distance as AtDistance, Weights as AtWeights, Body}
use Rattle.schedule_reader.specs.declared.known.Check.TheVariants.{Name, New}
use Rattle.schedule_reader.specs.Known.{Tables, no_tables, with_line, with_names, names_in, labels_in, many_in, is_repeated_in, is_too_many_in, rank_of, next_place, test_of, fault_in}
use Rattle.schedule_reader.proofs.ByKind.{same_word}

-- the tables after these lines
abbrev pub from : Tables → List TextLine → Tables
from t [] = t
from t (l ∷ ls) = from (with_line t l) ls

abbrev pub after : List TextLine → Tables
after ls = from no_tables ls

pub from_push : (t : Tables) (ls : List TextLine) (l : TextLine) → from t (ls ++ l ∷ [])
    ≡ with_line (from t ls) l
from_push t [] l = refl
from_push t (k ∷ ls) l = from_push (with_line t k) ls l

-- ---- lists that grow with lines of one kind

pub listed : {Y : Type 0} (X : Tables → List Y) (word : List ℕ) (item : TextLine → Y)
    → ((t : Tables) (l : TextLine) → X (with_line t l) ≡ (if begins word l then X t ++ item l ∷ []
    else X t))
    → (t : Tables) (ls : List TextLine) → X (from t ls) ≡ X t ++ map item (filter (begins word) ls)
listed X word item step t [] = sym (append-nil (X t))
listed X word item step t (l ∷ ls) = listed X word item step (with_line t l) ls
    ∙ ap (λ xs. xs ++ map item (filter (begins word) ls)) (step t l) ∙ by (begins word l)
  where
    by : (b : Bool) → (if b then X t ++ item l ∷ [] else X t) ++ map item (filter (begins word) ls)
        ≡ X t ++ map item (cond b (l ∷ filter (begins word) ls) (filter (begins word) ls))
    by true = append_assoc (X t) (item l ∷ []) (map item (filter (begins word) ls))
    by false = refl

-- a function of a list that grows or stays
mapped : {Y Z : Type 0} (f : Y → Z) (xs : List Y) (y : Y) (z : Z) (b : Bool) → f y ≡ z →
    map f (if b then xs ++ y ∷ [] else xs) ≡ (if b then map f xs ++ z ∷ [] else map f xs)
mapped f xs y z true e = map-append f xs (y ∷ []) ∙ ap (λ w. map f xs ++ w ∷ []) e
mapped f xs y z false e = refl

pub names_are : (ls : List TextLine) → names_in (after ls) ≡ patch_names ls
names_are ls = listed names_in (codes "patch") (λ l. field l 1) (λ t l. mapped (λ (p : PatchLine).
    p.name) t.patches (patch_line l) (field l 1) (begins (codes "patch") l) refl) no_tables ls

pub prepared_are : (ls : List TextLine) → (after ls).prepared ≡ given (codes "init") 1 ls
prepared_are ls = listed (λ (t : Tables). t.prepared) (codes "init") (λ l. field l 1) (λ t l. refl)
    no_tables ls

pub measured_are : (ls : List TextLine) → (after ls).measured ≡ given (codes "read") 2 ls
measured_are ls = listed (λ (t : Tables). t.measured) (codes "read") (λ l. field l 2) (λ t l. refl)
    no_tables ls

merges_are : (ls : List TextLine) → map (λ (m : MergeLine). m.label) (after ls).merges
    ≡ given (codes "merge") 1 ls
merges_are ls = listed (λ (t : Tables). map (λ (m : MergeLine). m.label) t.merges) (codes "merge")
    (λ l. field l 1) (λ t l. mapped (λ (m : MergeLine). m.label) t.merges _ (field l 1)
    (begins (codes "merge") l) refl) no_tables ls

reads_are : (ls : List TextLine) → map (λ (r : ReadLine). r.label) (after ls).reads
    ≡ given (codes "read") 1 ls
reads_are ls = listed (λ (t : Tables). map (λ (r : ReadLine). r.label) t.reads) (codes "read") (λ l.
    field l 1) (λ t l. mapped (λ (r : ReadLine). r.label) t.reads _ (field l 1)
    (begins (codes "read") l) refl) no_tables ls

conds_are : (ls : List TextLine) → map (λ (c : CondLine). c.label) (after ls).conds
    ≡ given (codes "cond") 1 ls
conds_are ls = listed (λ (t : Tables). map (λ (c : CondLine). c.label) t.conds) (codes "cond") (λ l.
    field l 1) (λ t l. mapped (λ (c : CondLine). c.label) t.conds _ (field l 1)
    (begins (codes "cond") l) refl) no_tables ls

pub labels_are : (ls : List TextLine) → labels_in (after ls) ≡ labels_of ls
labels_are ls =
    ap (λ ms. ms ++ map (λ (r : ReadLine). r.label) (after ls).reads
    ++ map (λ (c : CondLine). c.label) (after ls).conds) (merges_are ls)
    ∙ ap (λ rs. given (codes "merge") 1 ls ++ rs
    ++ map (λ (c : CondLine). c.label) (after ls).conds) (reads_are ls)
    ∙ ap (λ cs. given (codes "merge") 1 ls ++ given (codes "read") 1 ls ++ cs) (conds_are ls)

-- ---- words apart

pub apart : (a b : List ℕ) (l : TextLine) → bytes_eq a b ≡ false → begins a l ≡ true →
    begins b l ≡ false
apart a b l d h = ap (λ w. bytes_eq w b) (same_word (field l 0) a h) ∙ d

-- ---- observables

names_step : (os : List (List ℕ)) (l : TextLine) → with_names os l ≡ os ++ names_of_line l
names_step os l = by (begins (codes "merge") l) (begins (codes "read") l)
  where
    by : (m r : Bool) → (if m then os ++ field l 1 ∷ seam_of (field l 1) ∷ [] else if r then os
        ++ field l 1 ∷ [] else os) ≡ os ++ (if m then field l 1 ∷ seam_of (field l 1) ∷ [] else if r
        then field l 1 ∷ [] else [])
    by true r = refl
    by false true = refl
    by false false = sym (append-nil os)

observables_from : (t : Tables) (ls : List TextLine) → (from t ls).observables ≡ t.observables
    ++ observable_order ls
observables_from t [] = sym (append-nil t.observables)
observables_from t (l ∷ ls) = observables_from (with_line t l) ls
    ∙ ap (λ os. os ++ observable_order ls) (names_step t.observables l)
    ∙ append_assoc t.observables (names_of_line l) (observable_order ls)

pub observables_are : (ls : List TextLine) → (after ls).observables ≡ observable_order ls
observables_are ls = observables_from no_tables ls

or_merge : (a s A S R : Bool) → ((a || (s || false)) || ((A || S) || R))
    ≡ (((a || A) || (s || S)) || R)
or_merge true s A S R = refl
or_merge false true true S R = refl
or_merge false true false S R = refl
or_merge false false A S R = refl

or_read : (a A S R : Bool) → ((a || false) || ((A || S) || R)) ≡ ((A || S) || (a || R))
or_read true true S R = refl
or_read true false true R = refl
or_read true false false R = refl
or_read false A S R = refl

abbrev in_order : List ℕ → List (List ℕ) → List (List ℕ) → Bool
in_order f ms rs = (has ms f || has (map seam_of ms) f) || has rs f

order_has : (ls : List TextLine) (f : List ℕ) → has (observable_order ls) f
    ≡ in_order f (given (codes "merge") 1 ls) (given (codes "read") 1 ls)
order_has [] f = refl
order_has (l ∷ ls) f =
    list_any-append (bytes_eq f) (names_of_line l) (observable_order ls)
    ∙ ap (λ b. has (names_of_line l) f || b) (order_has ls f)
    ∙ by (begins (codes "merge") l) (begins (codes "read") l)
    (apart (codes "merge") (codes "read") l refl)
  where
    by : (m r : Bool) → (m ≡ true → r ≡ false)
        → (has (if m then field l 1 ∷ seam_of (field l 1) ∷ [] else if r then field l 1 ∷ []
        else []) f || in_order f (map (λ k. field k 1) (filter (begins (codes "merge")) ls))
        (map (λ k. field k 1) (filter (begins (codes "read")) ls)))
        ≡ in_order f (map (λ k. field k 1) (cond m (l ∷ filter (begins (codes "merge")) ls)
        (filter (begins (codes "merge")) ls))) (map (λ k. field k 1)
        (cond r (l ∷ filter (begins (codes "read")) ls) (filter (begins (codes "read")) ls)))
    by true true x = absurd (let y = x refl in cc)
    by true false x =
        or_merge (bytes_eq f (field l 1)) (bytes_eq f (seam_of (field l 1)))
        (has (map (λ k. field k 1) (filter (begins (codes "merge")) ls)) f)
        (has (map seam_of (map (λ k. field k 1) (filter (begins (codes "merge")) ls))) f)
        (has (map (λ k. field k 1) (filter (begins (codes "read")) ls)) f)
    by false true x =
        or_read (bytes_eq f (field l 1))
        (has (map (λ k. field k 1) (filter (begins (codes "merge")) ls)) f)
        (has (map seam_of (map (λ k. field k 1) (filter (begins (codes "merge")) ls))) f)
        (has (map (λ k. field k 1) (filter (begins (codes "read")) ls)) f)
    by false false x = refl

-- in whatever order an observable is looked for
pub observables_have : (ls : List TextLine) (f : List ℕ) → has (after ls).observables f
    ≡ has (observable_names ls) f
observables_have ls f =
    let ms = given (codes "merge") 1 ls in
    let rs = given (codes "read") 1 ls in
    ap (λ os. has os f) (observables_are ls)
    ∙ order_has ls f ∙ sym (list_any-append (bytes_eq f) (ms ++ map seam_of ms) rs
    ∙ ap (λ b. b || has rs f) (list_any-append (bytes_eq f) ms (map seam_of ms)))

-- ---- counts

counted : (N : Tables → ℕ) (test : TextLine → Bool) →
    ((t : Tables) (l : TextLine) → N (with_line t l) ≡ N t + cond (test l) 1 0) →
    (t : Tables) (ls : List TextLine) → N (from t ls) ≡ N t + count_by test ls
counted N test step t [] = omega arith
counted N test step t (l ∷ ls) =
    let h = counted N test step (with_line t l) ls in
    let s = step t l in
    let c = sum_by-cons (λ x. cond (test x) 1 0) l ls in
    omega arith

pub longer : {Y : Type 0} (xs : List Y) (y : Y) (b : Bool) → length (if b then xs ++ y ∷ [] else xs)
    ≡ length xs + cond b 1 0
longer xs y true = length-append xs (y ∷ [])
longer xs y false = omega arith

pub patches_counted : (ls : List TextLine) → length (after ls).patches
    ≡ count_by (begins (codes "patch")) ls
patches_counted ls = let h = counted (λ (t : Tables). length t.patches) (begins (codes "patch"))
    (λ t l. longer t.patches (patch_line l) (begins (codes "patch") l)) no_tables ls in omega arith

-- one more of the lines that are bounded together
pub many_step : (t : Tables) (l : TextLine) → many_in (with_line t l)
    ≡ many_in t + cond (is_of_many l) 1 0
many_step t l =
    let m = longer t.merges (merge_line (names_in t) l) (begins (codes "merge") l) in
    let r = longer t.reads (read_line (names_in t) l) (begins (codes "read") l) in
    let k = longer t.conds (cond_line (names_in t) t.observables l) (begins (codes "cond") l) in
    omega (
      arith,
      m,
      r,
      k,
      sum (length t.merges) (length t.reads) (length t.conds)
          (begins (codes "merge") l) (begins (codes "read") l) (begins (codes "cond") l)
          (apart (codes "merge") (codes "read") l refl) (apart (codes "merge") (codes "cond") l
          refl)
          (apart (codes "read") (codes "cond") l refl),
    )
  where
    sum : (a b c : ℕ) (m r k : Bool) → (m ≡ true → r ≡ false) → (m ≡ true → k ≡ false) →
        (r ≡ true → k ≡ false) → (a + cond m 1 0) + (b + cond r 1 0) + (c + cond k 1 0)
        ≡ (a + b + c) + cond (m || r || k) 1 0
    sum a b c true true k x y z = absurd (let e = x refl in cc)
    sum a b c true false true x y z = absurd (let e = y refl in cc)
    sum a b c true false false x y z = omega arith
    sum a b c false true true x y z = absurd (let e = z refl in cc)
    sum a b c false true false x y z = omega arith
    sum a b c false false true x y z = omega arith
    sum a b c false false false x y z = omega arith

pub many_counted : (ls : List TextLine) → many_in (after ls) ≡ count_by is_of_many ls
many_counted ls = let h = counted many_in is_of_many many_step no_tables ls in omega arith

-- ---- places

abbrev place_of : ℕ → Place
place_of zero = Version
place_of (suc zero) = AtDistance
place_of (suc (suc zero)) = AtWeights
place_of (suc (suc (suc n))) = Body

next_is : (n : ℕ) → next_place (place_of n) ≡ place_of (suc n)
next_is zero = refl
next_is (suc zero) = refl
next_is (suc (suc zero)) = refl
next_is (suc (suc (suc n))) = refl

placed : (t : Tables) (n : ℕ) (ls : List TextLine) → t.place ≡ place_of n → (from t ls).place
    ≡ place_of (n + length ls)
placed t n [] h = h ∙ ap place_of (omega arith)
placed t n (l ∷ ls) h = placed (with_line t l) (suc n) ls (ap next_place h ∙ next_is n)
    ∙ ap place_of (omega arith)

place_is : (ls : List TextLine) → (after ls).place ≡ place_of (length ls)
place_is ls = placed no_tables 0 ls refl ∙ ap place_of (omega arith)

in_place_at : (n : ℕ) (fo : Bool) (l : TextLine) → is_in_place n fo l
    ≡ is_in_place (rank_of (place_of n)) fo l
in_place_at zero fo l = refl
in_place_at (suc zero) fo l = refl
in_place_at (suc (suc zero)) fo l = refl
in_place_at (suc (suc (suc n))) fo l = refl

first_at : (n : ℕ) → eqb n 0 ≡ eqb (rank_of (place_of n)) 0
first_at zero = refl
first_at (suc zero) = refl
first_at (suc (suc zero)) = refl
first_at (suc (suc (suc n))) = eqb-suc-zero (suc (suc n))

-- ---- the fault of the next line

all_same : (one two : FieldKind → List ℕ → Bool) →
    ((k : FieldKind) (f : List ℕ) → one k f ≡ two k f) → (ps : List (FieldKind × List ℕ))
    → list_all (λ (p : FieldKind × List ℕ). one p.0 p.1) ps
    ≡ list_all (λ (p : FieldKind × List ℕ). two p.0 p.1) ps
all_same one two e [] = refl
all_same one two e (p ∷ ps) = ap (λ b. b && list_all (λ (q : FieldKind × List ℕ). one q.0 q.1) ps)
    (e p.0 p.1) ∙ ap (λ b. two p.0 p.1 && b) (all_same one two e ps)

known_same : (ls : List TextLine) (k : FieldKind) (f : List ℕ) →
    is_known ls k f ≡ test_of (after ls) Name k f
known_same ls NewPatch f = refl
known_same ls OldPatch f = ap (λ ns. has ns f) (sym (names_are ls))
known_same ls NewLabel f = refl
known_same ls ABasis f = refl
known_same ls (ANumber low high) f = refl
known_same ls OldObservable f = sym (observables_have ls f)

new_same : (ls : List TextLine) (k : FieldKind) (f : List ℕ) →
    is_new ls k f ≡ test_of (after ls) New k f
new_same ls NewPatch f = ap (λ ns. not (has ns f)) (sym (names_are ls))
new_same ls OldPatch f = refl
new_same ls NewLabel f = ap (λ ns. not (has ns f)) (sym (labels_are ls))
new_same ls ABasis f = refl
new_same ls (ANumber low high) f = refl
new_same ls OldObservable f = refl

repeated_same : (ls : List TextLine) (l : TextLine) → is_repeated_life ls l
    ≡ is_repeated_in (after ls) l
repeated_same ls l =
    ap (λ ns. (begins (codes "init") l && has ns (field l 1)) || (begins (codes "read") l
    && has (given (codes "read") 2 ls) (field l 2))) (sym (prepared_are ls))
    ∙ ap (λ ns. (begins (codes "init") l && has (after ls).prepared (field l 1))
    || (begins (codes "read") l && has ns (field l 2))) (sym (measured_are ls))

few_same : (ls : List TextLine) (l : TextLine) → is_too_many ls l ≡ is_too_many_in (after ls) l
few_same ls l =
    ap (λ n. (begins (codes "patch") l && nat_le 64 n)
    || (is_of_many l && nat_le 256 (count_by is_of_many ls))) (sym (patches_counted ls))
    ∙ ap (λ n. (begins (codes "patch") l && nat_le 64 (length (after ls).patches))
    || (is_of_many l && nat_le 256 n)) (sym (many_counted ls))

-- the fault by the six tests that look at earlier lines
abbrev by_tests : TextLine → Bool → Bool → Bool → Bool → Bool → Bool → Option LineFault
by_tests l place first known new repeated many =
    if not place then Some BadLine
    else if first then None
    else if not (has_shape l && all_fields is_well_formed l) then Some BadLine
    else if not (all_fields is_in_range l) then Some BadNumber
    else if not known then Some UnknownName
    else if not new || repeated then Some Repeated
    else if is_bad_distance l then Some BadDistance
    else if many then Some TooMany
    else None

-- the tables say what the lines say
pub fault_same : (ls : List TextLine) (fo : Bool) (l : TextLine) → line_fault ls fo l
    ≡ fault_in (after ls) fo l
fault_same ls fo l =
    let place = in_place_at (length ls) fo l
    ∙ ap (λ p. is_in_place (rank_of p) fo l) (sym (place_is ls)) in
    let first = first_at (length ls) ∙ ap (λ p. eqb (rank_of p) 0) (sym (place_is ls)) in
    let known = all_same (is_known ls) (test_of (after ls) Name) (known_same ls) (typed_fields l) in
    let new = all_same (is_new ls) (test_of (after ls) New) (new_same ls) (typed_fields l) in
    ap (λ b. by_tests l b (length ls == 0) (all_fields (is_known ls) l) (all_fields (is_new ls) l)
    (is_repeated_life ls l) (is_too_many ls l)) place
    ∙ ap (λ b. by_tests l (is_in_place (rank_of (after ls).place) fo l) b (all_fields (is_known ls)
    l) (all_fields (is_new ls) l) (is_repeated_life ls l) (is_too_many ls l)) first
    ∙ ap (λ b. by_tests l (is_in_place (rank_of (after ls).place) fo l) (rank_of (after ls).place
    == 0) b (all_fields (is_new ls) l) (is_repeated_life ls l) (is_too_many ls l)) known
    ∙ ap (λ b. by_tests l (is_in_place (rank_of (after ls).place) fo l) (rank_of (after ls).place
    == 0) (all_fields (test_of (after ls) Name) l) b (is_repeated_life ls l) (is_too_many ls l))
    new
    ∙ ap (λ b. by_tests l (is_in_place (rank_of (after ls).place) fo l) (rank_of (after ls).place
    == 0) (all_fields (test_of (after ls) Name) l) (all_fields (test_of (after ls) New) l) b
    (is_too_many ls l)) (repeated_same ls l)
    ∙ ap (λ b. by_tests l (is_in_place (rank_of (after ls).place) fo l) (rank_of (after ls).place
    == 0) (all_fields (test_of (after ls) Name) l) (all_fields (test_of (after ls) New) l)
    (is_repeated_in (after ls) l) b) (few_same ls l)

-- whether a line is in place, by the tables
pub place_in : (ls : List TextLine) (fo : Bool) (l : TextLine) → is_in_place (length ls) fo l
    ≡ is_in_place (rank_of (after ls).place) fo l
place_in ls fo l = in_place_at (length ls) fo l
    ∙ ap (λ p. is_in_place (rank_of p) fo l) (sym (place_is ls))
