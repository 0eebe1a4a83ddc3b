-- The lines of each slot, by their spans, and how many lines there are.
use Rattle.std.proofs.Common.{◌≡◌, ◌<◌, ◌≤◌, ℕ, zero, suc, ◌+◌, ◌==◌, ⊎_elim, Bool, true, false, cond, refl, sym, subst, ap, ◌∙◌, arith, List, [], ◌∷◌, ◌++◌, All, filter, get_or, length, map, slice_index, slice_index_or}
use Rattle.std.specs.Prelude.{Some, find, option_map, slice_get}
use Rattle.std.proofs.Math.Seq.{get_or-append_seam}
use Rattle.std.specs.List.{AllByRecursion, IsDistinct, list_any, range_with_len}
use Rattle.std.specs.Option.{option_map_or}
use Rattle.std.proofs.lemmas.Bool.{false≢true, ne_eqb, or_cases, true≢false}
use Rattle.std.proofs.lemmas.Bool.Decides.{nat_tests}
use Rattle.std.proofs.lemmas.Bool.{eqb-true}
use Rattle.std.proofs.lemmas.List.{append_assoc, length-append, length-map}
use Rattle.std.proofs.lemmas.List.FromFn.{length-map-range_with_len}
use Rattle.std.proofs.lemmas.List.Elements.{All-head, All-tail}
use Rattle.std.proofs.lemmas.Option.{get_or_from_slice_get}
use Rattle.std.proofs.lemmas.Map.Keys.{IsDistinct-cons}
use Rattle.std.proofs.lemmas.Map.Steps.{length-le_from_distinct_below}
use Rattle.surface_model.specs.Schedules.{InitLine, MergeLine, ReadLine, Schedule}
use Rattle.surface_model.specs.Layout.{is_among, last_slot, read_slot, split_slot}
use Rattle.surface_model.specs.Accepted.{AreDistinct, IsInRange}
use Rattle.surface_model.specs.Limits.{most_labels, most_patches}
pub use Rattle.surface_model.proofs.Ranges.{few_slots}
use Rattle.detector_graph.specs.Rows.{group_of}
use Rattle.timetable.specs.declared.span.Span.{Span}
use Rattle.timetable.specs.declared.lines.SpanKind.{SpanKind}
use Rattle.timetable.specs.declared.lines.SpanKind.TheVariants.{Inits, Lives, Merges, Reads, Splits, Starts}
use Rattle.timetable.specs.Spans.{AreReadings, has_slot, init_span, life_span, merge_span, no_span, read_span, spans_of, split_span, spread_over, start_span}
use Rattle.timetable.specs.Times.{AreLikeLong, Times, alive_at, inits_at, merges_at, numbered, numbers_of, reads_at, splits_at, starts_at, times_of}
use Rattle.patch_layout.specs.Items.{read_line}
use Rattle.timetable.proofs.Numbers.{numbers_known, numbers_map}

-- one slot alone
pub alone : (a t : ℕ) → is_among a (a + 1) t ≡ (a == t)
alone a t = grind (arith, nat_tests)

map_same : {Y : Type 0} (f g : ℕ → Y) (ts : List ℕ) → ((t : ℕ) → f t ≡ g t) → map f ts ≡ map g ts
map_same f g [] h = refl
map_same f g (t ∷ ts) h = ap (λ y. y ∷ map f ts) (h t) ∙ ap (λ ys. g t ∷ ys) (map_same f g ts h)

spread_same : {X : Type 0} (f : X → Span) (test : ℕ → X → Bool) (lines : List X) (n : ℕ) →
    ((t : ℕ) (x : X) → has_slot t (f x) ≡ test t x) → spread_over (map f lines) n
    ≡ map (λ t. numbers_of (test t) lines) (range_with_len 0 n)
spread_same f test lines n h =
    map_same (λ t. numbers_of (has_slot t) (map f lines)) (λ t. numbers_of (test t) lines)
    (range_with_len 0 n) (λ t. numbers_map f (has_slot t) (test t) lines (h t))

pub some_items : (xs : List ℕ) → (length xs == 0) ≡ false → 0 < length xs
some_items [] h = absurd (true≢false h)
some_items (x ∷ xs) h = omega arith

-- the reading of a patch is the first of its row
first_numbered : {X : Type 0} (d : X) (test : X → Bool) (n : ℕ) (before xs all : List X) →
    all ≡ before ++ xs → length before ≡ n →
    option_map (λ k. get_or all k d) (slice_get (numbered n test xs) 0) ≡ find test xs
unfolding numbered
first_numbered d test n before [] all e l = refl
first_numbered d test n before (x ∷ xs) all e l =
    by_test (test x) (first_numbered d test (n + 1) (before ++ x ∷ []) xs all (e
    ∙ sym (append_assoc before (x ∷ []) xs)) (length-append before (x ∷ []) ∙ ap (λ k. k + 1) l))
  where
    here : get_or all n d ≡ x
    here = ap (λ ys. get_or ys n d) e ∙ ap (λ k. get_or (before ++ x ∷ xs) k d) (sym l)
        ∙ get_or-append_seam before x xs d

    by_test : (t : Bool) → option_map (λ k. get_or all k d) (slice_get (numbered (n + 1) test xs) 0)
        ≡ find test xs →
        option_map (λ k. get_or all k d) (slice_get (cond t (n ∷ numbered (n + 1) test xs)
        (numbered (n + 1) test xs)) 0) ≡ cond t (Some x) (find test xs)
    by_test true h = ap (λ y. Some y) here
    by_test false h = h

-- the numbers of a group, where each line says which it is of
grouped_from : {X : Type 0} (f : X → ℕ) (w : ℕ) (n : ℕ) (before : List ℕ) (xs : List X)
    (all : List ℕ) → all ≡ before ++ map f xs → length before ≡ n →
    filter (λ k. slice_index all k == w) (range_with_len n (length xs))
    ≡ numbered n (λ x. f x == w) xs
unfolding numbered
grouped_from f w n before [] all e l = refl
grouped_from f w n before (x ∷ xs) all e l =
    ap (λ g. cond (g == w) (n ∷ filter (λ k. slice_index all k == w) (range_with_len (n + 1) (length
    xs))) (filter (λ k. slice_index all k == w) (range_with_len (n + 1) (length xs)))) here
    ∙ ap (λ ks. cond (f x == w) (n ∷ ks) ks)
    (grouped_from f w (n + 1) (before ++ f x ∷ []) xs all (e ∙ sym (append_assoc before (f x ∷ [])
    (map f xs))) (length-append before (f x ∷ []) ∙ ap (λ k. k + 1) l))
  where
    here : get_or all n 0 ≡ f x
    here = ap (λ ys. get_or ys n 0) e ∙ ap (λ k. get_or (before ++ f x ∷ map f xs) k 0) (sym l)
        ∙ get_or-append_seam before (f x) (map f xs) 0

pub grouped_is : {X : Type 0} (f : X → ℕ) (xs : List X) (w : ℕ) → group_of (map f xs) w
    ≡ numbers_of (λ x. f x == w) xs
grouped_is f xs w = ap (λ k. filter (λ x. slice_index (map f xs) x == w) (range_with_len 0 k))
    (length-map xs f) ∙ grouped_from f w 0 [] xs (map f xs) refl refl

get_map : {X : Type 0} (f : X → ℕ) (xs : List X) (k d : ℕ) (x : X) → k < length xs →
    get_or (map f xs) k d ≡ f (get_or xs k x)
get_map f [] k d x l = absurd (omega (arith, l))
get_map f (y ∷ ys) zero d x l = refl
get_map f (y ∷ ys) (suc k) d x l = get_map f ys k d x (omega (arith, l))

pub patches_known : (s : Schedule) (patches : List ℕ) → IsInRange s → patches
    ≡ map (λ (line : ReadLine). line.patch) s.reads → All (λ p. p < length s.patches) patches
patches_known s patches r e = subst (All (λ p. p < length s.patches)) (sym e) known
  where
    known : All (λ p. p < length s.patches) (map (λ (line : ReadLine). line.patch) s.reads)
    known k d l =
        let n = length-map s.reads (λ (line : ReadLine). line.patch) in
        let l' : k < length s.reads = omega (arith, l, n) in
        subst (λ p. p < length s.patches) (sym (get_map (λ (line : ReadLine). line.patch) s.reads k
        d (read_line s 0) l')) (r.reads k (read_line s 0) l').0

pub readings_are : (s : Schedule) (patches : List ℕ) (rows : List (List ℕ)) →
    patches ≡ map (λ (line : ReadLine). line.patch) s.reads → length rows ≡ length s.patches →
    ((w : ℕ) → slice_index_or rows w [] ≡ group_of patches w) → AreReadings s rows
readings_are s patches rows e count each = record {
  count = count;
  each = λ p. each p
      ∙ ap (λ ps. group_of ps p) e ∙ grouped_is (λ (line : ReadLine). line.patch) s.reads p;
}

module _ (s : Schedule) (rows : List (List ℕ)) (patch : ℕ) (row : List ℕ)
    (given : AreReadings s rows) (at : slice_get rows patch ≡ Some row) where
  row_read : row ≡ numbers_of (λ (line : ReadLine). line.patch == patch) s.reads
  row_read = sym (get_or_from_slice_get rows patch row [] at) ∙ given.each patch

  pub reads_known : All (λ n. n < length s.reads) row
  reads_known = subst (All (λ n. n < length s.reads)) (sym row_read)
      (numbers_known (λ (line : ReadLine). line.patch == patch) s.reads)

  pub read_by : (d : ReadLine) → read_slot s patch ≡ option_map_or (λ (line : ReadLine). line.slot)
      (option_map (λ k. get_or s.reads k d) (slice_get row 0)) 0
  read_by d =
      ap (λ o. option_map_or (λ (line : ReadLine). line.slot) o 0)
      (sym (ap (λ r. option_map (λ k. get_or s.reads k d) (slice_get r 0)) row_read ∙ first_numbered
      d (λ (line : ReadLine). line.patch == patch) 0 [] s.reads s.reads refl refl))

  pub read_first : (k : ℕ) → slice_get row 0 ≡ Some k → (read_line s k).slot ≡ read_slot s patch
  read_first k e = sym (read_by _ ∙ ap (λ o. option_map_or (λ (line : ReadLine). line.slot)
      (option_map (λ k. read_line s k) o) 0) e)

  pub read_never : length row ≡ 0 → 0 ≡ read_slot s patch
  read_never e =
      sym (read_by (read_line s 0) ∙ ap (λ r. option_map_or (λ (line : ReadLine). line.slot)
      (option_map (λ k. get_or s.reads k (read_line s 0)) (slice_get r 0)) 0) (no_items row e))
    where
      no_items : (xs : List ℕ) → length xs ≡ 0 → xs ≡ []
      no_items [] h = refl
      no_items (x ∷ xs) h = absurd (omega (arith, h))

module _ (s : Schedule) (n : ℕ) where
  pub inits_spread : spread_over (spans_of s Inits) n ≡ map (inits_at s) (range_with_len 0 n)
  inits_spread = spread_same init_span (λ t (line : InitLine). line.slot == t) s.inits n (λ t line.
      alone line.slot t)

  pub reads_spread : spread_over (spans_of s Reads) n ≡ map (reads_at s) (range_with_len 0 n)
  reads_spread = spread_same read_span (λ t (line : ReadLine). line.slot == t) s.reads n (λ t line.
      alone line.slot t)

  pub starts_spread : spread_over (spans_of s Starts) n ≡ map (starts_at s) (range_with_len 0 n)
  starts_spread = spread_same start_span (λ t (merge : MergeLine). merge.slot == t) s.merges n
      (λ t merge. alone merge.slot t)

  pub splits_spread : spread_over (spans_of s Splits) n ≡ map (splits_at s) (range_with_len 0 n)
  splits_spread = spread_same split_span (λ t (merge : MergeLine). split_slot merge == t) s.merges n
      (λ t merge. alone (split_slot merge) t)

  pub alive_spread : spread_over (spans_of s Lives) n ≡ map (alive_at s) (range_with_len 0 n)
  alive_spread = spread_same (life_span s) (λ t (line : InitLine).
      is_among line.slot (read_slot s line.patch) t) s.inits n (λ t line. refl)

  pub merges_spread : spread_over (spans_of s Merges) n ≡ map (merges_at s) (range_with_len 0 n)
  merges_spread = spread_same merge_span (λ t (merge : MergeLine).
      is_among merge.slot (split_slot merge) t) s.merges n (λ t merge. refl)

-- the span of a line
pub span_at : {X : Type 0} (f : X → Span) (xs : List X) (k : ℕ) (d : X) → k < length (map f xs) →
    f (get_or xs k d) ≡ get_or (map f xs) k no_span
span_at f [] k d l = absurd (omega (arith, l))
span_at f (x ∷ xs) zero d l = refl
span_at f (x ∷ xs) (suc k) d l = span_at f xs k d (omega (arith, l))

-- ---- how many lines there are

apart : (x : ℕ) (ys : List ℕ) → All (λ y. x ≡ y → ⊥) ys → AllByRecursion (λ y. (x == y) ≡ false) ys
apart x [] h = tt
apart x (y ∷ ys) h = (
  ne_eqb x y (All-head (λ y. x ≡ y → ⊥) y ys h),
  apart x ys (All-tail (λ y. x ≡ y → ⊥) y ys h),
)

distinct : (xs : List ℕ) → AreDistinct xs → IsDistinct (λ x y. x == y) xs
unfolding IsDistinct
distinct [] h = tt
distinct (x ∷ xs) h = IsDistinct-cons (λ x y. x == y) x xs (apart x xs h.0) (distinct xs h.1)

few_keys : {X : Type 0} (f : X → ℕ) (n : ℕ) (xs : List X) → All (λ x. f x < n) xs → (q : ℕ) →
    list_any (λ y. q == y) (map f xs) ≡ true → q < n
few_keys f n [] all q h = absurd (false≢true h)
few_keys f n (x ∷ xs) all q h =
    ⊎_elim (λ e. let k = eqb-true q (f x) e in let l = All-head (λ x. f x < n) x xs all in
    omega (arith, k, l)) (λ r. few_keys f n xs (All-tail (λ x. f x < n) x xs all) q r)
    (or_cases (q == f x) (list_any (λ y. q == y) (map f xs)) h)

pub few_inits : (s : Schedule) → IsInRange s → length s.inits ≤ length s.patches
few_inits s r =
    let a = length-le_from_distinct_below (map (λ (line : InitLine). line.patch) s.inits)
    (length s.patches) (distinct (map (λ (line : InitLine). line.patch) s.inits) r.one_init)
    (few_keys (λ (line : InitLine). line.patch) (length s.patches) s.inits (λ i d l.
    (r.inits i d l).0)) in
    let b = length-map s.inits (λ (line : InitLine). line.patch) in
    omega (arith, a, b)

pub few_spans : (s : Schedule) (kind : SpanKind) → IsInRange s → length s.patches ≤ most_patches →
    length (spans_of s kind) ≤ most_labels
few_spans s Inits r p = let few = few_inits s r in let long = length-map s.inits init_span in
    omega (arith, few, long, p)
few_spans s Reads r p = let few = r.few in let long = length-map s.reads read_span in
    omega (arith, few, long)
few_spans s Starts r p = let few = r.few in let long = length-map s.merges start_span in
    omega (arith, few, long)
few_spans s Splits r p = let few = r.few in let long = length-map s.merges split_span in
    omega (arith, few, long)
few_spans s Lives r p = let few = few_inits s r in let long = length-map s.inits (life_span s) in
    omega (arith, few, long, p)
few_spans s Merges r p = let few = r.few in let long = length-map s.merges merge_span in
    omega (arith, few, long)

-- ---- all of them

pub times_made : (s : Schedule) (n : ℕ) (times : Times) → n ≡ last_slot s + 1 → times.inits
    ≡ map (inits_at s) (range_with_len 0 n) → times.reads ≡ map (reads_at s) (range_with_len 0 n) →
    times.starts ≡ map (starts_at s) (range_with_len 0 n) →
    times.splits ≡ map (splits_at s) (range_with_len 0 n) →
    times.alive ≡ map (alive_at s) (range_with_len 0 n) → times.merges
    ≡ map (merges_at s) (range_with_len 0 n) → (times ≡ times_of s) × AreLikeLong n times
unfolding times_of
times_made s n times e a b c d f g =
    let slots = range_with_len 0 (last_slot s + 1) in
    let made : List (List ℕ) → List (List ℕ) → List (List ℕ) → List (List ℕ) → List (List ℕ) →
    List (List ℕ) → Times = λ i r st sp al me. record {
      inits = i;
      reads = r;
      starts = st;
      splits = sp;
      alive = al;
      merges = me;
    } in
    let on : ℕ → Times =
    λ m. made (map (inits_at s) (range_with_len 0 m)) (map (reads_at s) (range_with_len 0 m))
    (map (starts_at s) (range_with_len 0 m)) (map (splits_at s) (range_with_len 0 m))
    (map (alive_at s) (range_with_len 0 m)) (map (merges_at s) (range_with_len 0 m)) in
    let same : made times.inits times.reads times.starts times.splits times.alive times.merges
    ≡ on n = cc in (
      same ∙ ap on e,
      record {
        inits = ap length a ∙ length-map-range_with_len (inits_at s) 0 n;
        reads = ap length b ∙ length-map-range_with_len (reads_at s) 0 n;
        starts = ap length c ∙ length-map-range_with_len (starts_at s) 0 n;
        splits = ap length d ∙ length-map-range_with_len (splits_at s) 0 n;
        alive = ap length f ∙ length-map-range_with_len (alive_at s) 0 n;
        merges = ap length g ∙ length-map-range_with_len (merges_at s) 0 n;
      },
    )
