-- The items of faultless lines are those of the schedule: a name's number doesn't change when more
-- names follow.
use Rattle.std.proofs.Common.{◌≡◌, ℕ, suc, ◌+◌, ◌<◌, ◌≤◌, Bool, true, false, not, ◌&&◌, ◌||◌, eqb, leb, ltb, cond, List, [], ◌∷◌, ◌++◌, length, map, drop, refl, ap, sym, ◌∙◌, subst, arith, bytes_eq, codes, slice_index_or, Some, None, unwrap_or, append_assoc, length-append}
use Rattle.std.specs.Prelude.{if◌then◌else◌}
use Rattle.std.specs.List.{list_any, list_all, position, position_or_len}
use Rattle.std.proofs.lemmas.Bool.{eqb-true}
use Rattle.std.proofs.lemmas.Bool.Decides.{nat_tests}
use Rattle.std.proofs.lemmas.List.{append-nil, map-append}
use Rattle.std.proofs.lemmas.List.Elements.{filter-append}
use Rattle.std.proofs.lemmas.Grind.{flat_map-append}
use Rattle.surface_model.specs.Schedules.{InitLine, MergeLine, ReadLine, CondLine}
use Rattle.surface_model.specs.declared.FieldKind.{FieldKind}
use Rattle.surface_model.specs.declared.FieldKind.TheVariants.{OldObservable}
use Rattle.surface_model.specs.Text.{TextLine, field, begins, has, patch_names, kinds_with, shape_of}
use Rattle.surface_model.specs.Parse.{number_in, number_at, basis_of, of_kind, observable_order, names_of_line, init_line, merge_line, read_line, cond_line}
use Rattle.schedule_reader.specs.declared.known.Check.TheVariants.{Name}
use Rattle.schedule_reader.specs.Known.{Tables, no_tables, names_in, test_of}
use Rattle.schedule_reader.proofs.Numbers.{and_left, and_right}
use Rattle.schedule_reader.proofs.Typed.{typed_at, typed_next, all_from}
use Rattle.schedule_reader.proofs.ByKind.{same_word, IsClean}
use Rattle.schedule_reader.proofs.Earlier.{after, from_push, names_are, observables_are}

-- ---- a name keeps its number

pub place_stays : {X : Type 0} (p : X → Bool) (xs ys : List X) → list_any p xs ≡ true →
    (position_or_len p (xs ++ ys) ≡ position_or_len p xs) × (position_or_len p xs < length xs)
place_stays p [] ys h = absurd (cc)
place_stays p (x ∷ xs) ys h = by (p x) h (λ e. place_stays p xs ys e)
  where
    by : (b : Bool) → (b || list_any p xs) ≡ true → (list_any p xs ≡ true →
        (position_or_len p (xs ++ ys) ≡ position_or_len p xs) × (position_or_len p xs < length xs))
        → (cond (not b) (1 + position_or_len p (xs ++ ys)) 0 ≡ cond (not b) (1 + position_or_len p
        xs) 0) × (cond (not b) (1 + position_or_len p xs) 0 < length (x ∷ xs))
    by true h more = (refl, omega arith)
    by false h more = let k = more h in (ap (λ n. 1 + n) k.0, omega (arith, k.1))

below : (n m : ℕ) → n < m → ltb n m ≡ true
below n m h = grind (arith, nat_tests)

pub found_at : {X : Type 0} (p : X → Bool) (xs : List X) → position_or_len p xs < length xs →
    unwrap_or (position p xs) 0 ≡ position_or_len p xs
found_at p xs h = ap (λ b. unwrap_or (cond b (Some (position_or_len p xs)) None) 0)
    (below (position_or_len p xs) (length xs) h)

pub number_stays : (names more : List (List ℕ)) (f : List ℕ) → has names f ≡ true →
    number_in (names ++ more) f ≡ number_in names f
number_stays names more f h =
    let k = place_stays (bytes_eq f) names more h in
    let lt : position_or_len (bytes_eq f) (names ++ more) < length (names ++ more) =
    omega (arith, k.0, k.1, length-append names more) in
    found_at (bytes_eq f) (names ++ more) lt ∙ k.0 ∙ sym (found_at (bytes_eq f) names k.1)

numbers_stay : (names more fs : List (List ℕ)) → list_all (has names) fs ≡ true →
    map (number_in (names ++ more)) fs ≡ map (number_in names) fs
numbers_stay names more [] h = refl
numbers_stay names more (f ∷ fs) h =
    ap (λ n. n ∷ map (number_in (names ++ more)) fs)
    (number_stays names more f (and_left (has names f) (list_all (has names) fs) h))
    ∙ ap (λ ns. number_in names f ∷ ns)
    (numbers_stay names more fs (and_right (has names f) (list_all (has names) fs) h))

-- ---- the names to which a line refers are given

pub record Refers (t : Tables) (l : TextLine) : Type 0 where
  pub init : begins (codes "init") l ≡ true → has (names_in t) (field l 1) ≡ true
  pub one : begins (codes "merge") l ≡ true → has (names_in t) (field l 2) ≡ true
  pub two : begins (codes "merge") l ≡ true → has (names_in t) (field l 3) ≡ true
  pub read : begins (codes "read") l ≡ true → has (names_in t) (field l 2) ≡ true
  pub cond : begins (codes "cond") l ≡ true → has (names_in t) (field l 2) ≡ true
  pub labels : begins (codes "cond") l ≡ true → list_all (has t.observables) (drop 4 l.fields)
      ≡ true
  pub enough : begins (codes "cond") l ≡ true → 4 < length l.fields

-- a clean line that begins so is of that kind
pub as_kind : (P : TextLine → Type 0) (n : ℕ) (fs : List (List ℕ)) (word : List ℕ) →
    begins word (record { number = n; fields = fs }) ≡ true → bytes_eq [] word ≡ false
    → ((rest : List (List ℕ)) → fs ≡ word ∷ rest →
    P (record { number = n; fields = word ∷ rest })) → P (record { number = n; fields = fs })
as_kind P n [] word h none f = absurd (cc)
as_kind P n (w ∷ rest) word h none f =
    let e = same_word w word h in
    subst (λ v. P (record { number = n; fields = v ∷ rest })) (sym e)
    (f rest (ap (λ v. v ∷ rest) e))

observed : (t : Tables) (fs : List (List ℕ)) → list_all (λ (p : FieldKind × List ℕ).
    test_of t Name p.0 p.1) (kinds_with [] fs) ≡ list_all (has t.observables) fs
observed t [] = refl
observed t (f ∷ fs) = ap (λ b. has t.observables f && b) (observed t fs)

observed_from : (t : Tables) (fs : List (List ℕ)) → list_all (λ (p : FieldKind × List ℕ).
    test_of t Name p.0 p.1) (kinds_with (OldObservable ∷ []) fs) ≡ list_all (has t.observables) fs
observed_from t [] = refl
observed_from t (f ∷ fs) = ap (λ b. has t.observables f && b) (observed t fs)

-- a test of all is a test of those after
behind : (test : FieldKind → List ℕ → Bool) (kinds : List FieldKind)
    (fields : List (List ℕ)) (i : ℕ) → i < length fields → all_from test kinds fields i ≡ true →
    all_from test kinds fields (i + 1) ≡ true
behind test kinds fields i h e =
    and_right (test (slice_index_or kinds i OldObservable) (slice_index_or fields i []))
    (all_from test kinds fields (i + 1)) (sym (typed_next test kinds fields i h) ∙ e)

abbrev pub kinds_of : List ℕ → List FieldKind
kinds_of word = unwrap_or (shape_of word) []

-- so many fields
pub so_many : (t : Tables) (word : List ℕ) (rest : List (List ℕ)) (n m : ℕ) →
    eqb (length (word ∷ rest)) m ≡ true → m ≡ suc n → length rest ≡ n
so_many t word rest n m h e = omega (arith, eqb-true (length (word ∷ rest)) m h)

pub at_least : (rest : List (List ℕ)) → leb 5 (length (codes "cond" ∷ rest)) ≡ true →
    4 ≤ length rest
at_least rest h = grind (arith, nat_tests)

pub refers : (t : Tables) (l : TextLine) → IsClean t l → Refers t l
refers t l c = record {
  init = λ h. as_kind (λ k. IsClean t k → has (names_in t) (field k 1) ≡ true) l.number l.fields
      (codes "init") h refl
      (λ rest e k. let n = so_many t (codes "init") rest 3 4 k.shape refl in
      typed_at (test_of t Name) (kinds_of (codes "init")) rest 0 (omega arith) k.known) c;
  one = λ h. as_kind (λ k. IsClean t k → has (names_in t) (field k 2) ≡ true) l.number l.fields
      (codes "merge") h refl
      (λ rest e k. let n = so_many t (codes "merge") rest 5 6 k.shape refl in
      typed_at (test_of t Name) (kinds_of (codes "merge")) rest 1 (omega arith) k.known) c;
  two = λ h. as_kind (λ k. IsClean t k → has (names_in t) (field k 3) ≡ true) l.number l.fields
      (codes "merge") h refl
      (λ rest e k. let n = so_many t (codes "merge") rest 5 6 k.shape refl in
      typed_at (test_of t Name) (kinds_of (codes "merge")) rest 2 (omega arith) k.known) c;
  read = λ h. as_kind (λ k. IsClean t k → has (names_in t) (field k 2) ≡ true) l.number l.fields
      (codes "read") h refl
      (λ rest e k. let n = so_many t (codes "read") rest 4 5 k.shape refl in
      typed_at (test_of t Name) (kinds_of (codes "read")) rest 1 (omega arith) k.known) c;
  cond = λ h. as_kind (λ k. IsClean t k → has (names_in t) (field k 2) ≡ true) l.number l.fields
      (codes "cond") h refl
      (λ rest e k. let n = at_least rest k.shape in
      typed_at (test_of t Name) (kinds_of (codes "cond")) rest 1 (omega arith) k.known) c;
  labels = λ h. as_kind (λ k. IsClean t k → list_all (has t.observables) (drop 4 k.fields)
      ≡ true) l.number l.fields (codes "cond") h refl
      (λ rest e k.
      let n = at_least rest k.shape in
      sym (observed_from t (drop 3 rest))
      ∙ behind (test_of t Name) (kinds_of (codes "cond")) rest 2 (omega arith)
      (behind (test_of t Name) (kinds_of (codes "cond")) rest 1 (omega arith)
      (behind (test_of t Name) (kinds_of (codes "cond")) rest 0 (omega arith) k.known))) c;
  enough = λ h. as_kind (λ k. IsClean t k → 4 < length k.fields) l.number l.fields (codes "cond") h
      refl (λ rest e k. let n = at_least rest k.shape in omega (arith, n)) c;
}

-- ---- the items agree

abbrev init_with : TextLine → ℕ → InitLine
init_with l n = record {
  line = l.number;
  patch = n;
  basis = basis_of (field l 2);
  slot = number_at l 3;
}

abbrev merge_with : TextLine → ℕ → ℕ → MergeLine
merge_with l n m = record {
  line = l.number;
  label = field l 1;
  one = n;
  two = m;
  slot = number_at l 4;
  count = number_at l 5;
}

abbrev read_with : TextLine → ℕ → ReadLine
read_with l n = record {
  line = l.number;
  label = field l 1;
  patch = n;
  basis = basis_of (field l 3);
  slot = number_at l 4;
}

abbrev cond_with : TextLine → ℕ → List ℕ → CondLine
cond_with l n ns = record {
  line = l.number;
  label = field l 1;
  patch = n;
  slot = number_at l 3;
  labels = ns;
}

-- the items of these lines, where more names follow
pub record Agrees (e : List TextLine) : Type 0 where
  pub inits : (ns : List (List ℕ)) →
      map (init_line (patch_names e ++ ns)) (of_kind (codes "init") e) ≡ (after e).inits
  pub merges : (ns : List (List ℕ)) →
      map (merge_line (patch_names e ++ ns)) (of_kind (codes "merge") e) ≡ (after e).merges
  pub reads : (ns : List (List ℕ)) →
      map (read_line (patch_names e ++ ns)) (of_kind (codes "read") e) ≡ (after e).reads
  pub conds : (ns os : List (List ℕ)) → map (cond_line (patch_names e ++ ns) (observable_order e
      ++ os)) (of_kind (codes "cond") e) ≡ (after e).conds

-- one more line of a kind
one_more : {Y : Type 0} (make made : TextLine →
    Y) (word : List ℕ) (e : List TextLine) (l : TextLine) (ys : List Y) → map make (of_kind word e)
    ≡ ys → (begins word l ≡ true → make l ≡ made l)
    → map make (of_kind word (e ++ l ∷ [])) ≡ (if begins word l then ys ++ made l ∷ [] else ys)
one_more make made word e l ys h same =
    ap (map make) (filter-append (begins word) e (l ∷ []))
    ∙ map-append make (of_kind word e) (of_kind word (l ∷ []))
    ∙ ap (λ xs. xs ++ map make (of_kind word (l ∷ []))) h ∙ by (begins word l) same
  where
    by : (b : Bool) → (b ≡ true → make l ≡ made l) → ys ++ map make (cond b (l ∷ []) [])
        ≡ (if b then ys ++ made l ∷ [] else ys)
    by true same = ap (λ y. ys ++ y ∷ []) (same refl)
    by false same = append-nil ys

-- the names that follow, with those of the next line before
names_push : (e : List TextLine) (l : TextLine) (ns : List (List ℕ)) → patch_names (e ++ l ∷ [])
    ++ ns ≡ patch_names e ++ (patch_names (l ∷ []) ++ ns)
names_push e l ns =
    ap (λ xs. map (λ k. field k 1) xs ++ ns) (filter-append (begins (codes "patch")) e (l ∷ []))
    ∙ ap (λ xs. xs ++ ns) (map-append (λ k. field k 1) (of_kind (codes "patch") e)
    (of_kind (codes "patch") (l ∷ [])))
    ∙ append_assoc (patch_names e) (patch_names (l ∷ [])) ns

order_push : (e : List TextLine) (l : TextLine) (os : List (List ℕ)) →
    observable_order (e ++ l ∷ []) ++ os ≡ observable_order e ++ (observable_order (l ∷ []) ++ os)
order_push e l os = ap (λ xs. xs ++ os) (flat_map-append names_of_line e (l ∷ []))
    ∙ append_assoc (observable_order e) (observable_order (l ∷ [])) os

-- the number of a name among more names is that in the tables
among : (e : List TextLine) (more : List (List ℕ)) (f : List ℕ) → has (names_in (after e)) f
    ≡ true → number_in (patch_names e ++ more) f ≡ number_in (names_in (after e)) f
among e more f h = number_stays (patch_names e) more f (sym (ap (λ ns. has ns f) (names_are e)) ∙ h)
    ∙ ap (λ ns. number_in ns f) (sym (names_are e))

labels_among : (e : List TextLine) (more fs : List (List ℕ)) →
    list_all (has (after e).observables) fs ≡ true → map (number_in (observable_order e ++ more)) fs
    ≡ map (number_in (after e).observables) fs
labels_among e more fs h =
    numbers_stay (observable_order e) more fs (sym (ap (λ os. list_all (has os) fs)
    (observables_are e)) ∙ h) ∙ ap (λ os. map (number_in os) fs) (sym (observables_are e))

pub agrees_push : (e : List TextLine) (l : TextLine) → Agrees e → Refers (after e) l →
    Agrees (e ++ l ∷ [])
agrees_push e l a r = record {
  inits = λ ns.
      ap (λ names. map (init_line names) (of_kind (codes "init") (e ++ l ∷ []))) (names_push e l ns)
      ∙ one_more (init_line (patch_names e ++ (patch_names (l ∷ []) ++ ns))) (init_line (names_in
      (after e))) (codes "init") e l (after e).inits (a.inits (patch_names (l ∷ []) ++ ns))
      (λ h. ap (λ n. init_with l n) (among e (patch_names (l ∷ []) ++ ns) (field l 1) (r.init h)))
      ∙ ap (λ t. t.inits) (sym (from_push no_tables e l));
  merges = λ ns.
      ap (λ names. map (merge_line names) (of_kind (codes "merge") (e ++ l ∷ [])))
      (names_push e l ns)
      ∙ one_more (merge_line (patch_names e ++ (patch_names (l ∷ []) ++ ns))) (merge_line (names_in
      (after e))) (codes "merge") e l (after e).merges (a.merges (patch_names (l ∷ []) ++ ns))
      (λ h. ap (λ n. merge_with l n (number_in (patch_names e ++ (patch_names (l ∷ []) ++ ns))
      (field l 3))) (among e (patch_names (l ∷ []) ++ ns) (field l 2) (r.one h))
      ∙ ap (λ n. merge_with l (number_in (names_in (after e)) (field l 2)) n)
      (among e (patch_names (l ∷ []) ++ ns) (field l 3) (r.two h)))
      ∙ ap (λ t. t.merges) (sym (from_push no_tables e l));
  reads = λ ns.
      ap (λ names. map (read_line names) (of_kind (codes "read") (e ++ l ∷ []))) (names_push e l ns)
      ∙ one_more (read_line (patch_names e ++ (patch_names (l ∷ []) ++ ns))) (read_line (names_in
      (after e))) (codes "read") e l (after e).reads (a.reads (patch_names (l ∷ []) ++ ns))
      (λ h. ap (λ n. read_with l n) (among e (patch_names (l ∷ []) ++ ns) (field l 2) (r.read h)))
      ∙ ap (λ t. t.reads) (sym (from_push no_tables e l));
  conds = λ ns os.
      ap (λ names. map (cond_line names (observable_order (e ++ l ∷ []) ++ os))
      (of_kind (codes "cond") (e ++ l ∷ []))) (names_push e l ns)
      ∙ ap (λ names. map (cond_line (patch_names e ++ (patch_names (l ∷ []) ++ ns)) names)
      (of_kind (codes "cond") (e ++ l ∷ []))) (order_push e l os)
      ∙ one_more (cond_line (patch_names e ++ (patch_names (l ∷ []) ++ ns)) (observable_order e
      ++ (observable_order (l ∷ []) ++ os)))
      (cond_line (names_in (after e)) (after e).observables) (codes "cond") e l (after e).conds
      (a.conds (patch_names (l ∷ []) ++ ns) (observable_order (l ∷ []) ++ os))
      (λ h. ap (λ n. cond_with l n (map (number_in (observable_order e ++ (observable_order (l ∷ [])
      ++ os))) (drop 4 l.fields))) (among e (patch_names (l ∷ []) ++ ns) (field l 2) (r.cond h))
      ∙ ap (λ ls. cond_with l (number_in (names_in (after e)) (field l 2)) ls)
      (labels_among e (observable_order (l ∷ []) ++ os) (drop 4 l.fields) (r.labels h)))
      ∙ ap (λ t. t.conds) (sym (from_push no_tables e l));
}
