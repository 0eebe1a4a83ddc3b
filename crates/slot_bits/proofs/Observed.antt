-- The observables of a schedule, line by line.
use Rattle.std.proofs.Common.{◌≡◌, ℕ, zero, suc, ◌+◌, ◌-◌, ◌<◌, ◌≤◌, ◌==◌, Bool, true, false, cond, ◌&&◌, ◌||◌, refl, sym, ap, ◌∙◌, arith, subst, List, [], ◌∷◌, ◌++◌, map, filter, flat_map, take, length, get_or}
use Rattle.std.specs.Prelude.{nat_lt, nat_le}
use Rattle.std.specs.List.{list_any, range_with_len}
use Rattle.std.proofs.lemmas.Bool.{true≢false}
use Rattle.std.proofs.lemmas.Bool.Decides.{nat_tests}
use Rattle.std.proofs.lemmas.List.{append_assoc, append-nil, take_more, map-append}
use Rattle.graph_model.proofs.Ranges.{range_more}
use Rattle.std.proofs.lemmas.List.Folds.{list_any_more}
use Rattle.std.proofs.lemmas.List.Elements.{filter-append}
use Rattle.surface_model.specs.Schedules.{MergeLine, ReadLine, Schedule}
use Rattle.surface_model.specs.Layout.{is_among}
use Rattle.surface_model.specs.Measurements.{merge_observables, read_observable, observables}
use Rattle.slot_bits.specs.Observed.{PlacedObservable, placed_observable}
use Rattle.slot_bits.specs.Watched.{of_reads, observed_at}
use Rattle.std.proofs.lemmas.List.Concat.{flat_map-append}

-- ---- those of one line

pub reads-append : (s : Schedule) (n : ℕ) (xs ys : List ReadLine) →
    of_reads s n (xs ++ ys) ≡ of_reads s n xs ++ of_reads s n ys
reads-append s n xs ys =
    let p : ReadLine → Bool = λ m. m.line == n in
    ap (λ rs. map (placed_observable s) (map (read_observable s) rs)) (filter-append p xs ys)
    ∙ ap (map (placed_observable s)) (map-append (read_observable s) (filter p xs) (filter p ys))
    ∙ map-append (placed_observable s) (map (read_observable s) (filter p xs))
    (map (read_observable s) (filter p ys))

-- one more item of a loop
pub more : {X Y : Type 0} (f : List X → List Y) → ((xs ys : List X) → f (xs ++ ys) ≡ f xs ++ f ys) →
    (start items next : List Y) (xs : List X) (i : ℕ) (x : X) → i < length xs → x ≡ get_or xs i x →
    items ≡ start ++ f (take i xs) → next ≡ items ++ f (x ∷ []) →
    next ≡ start ++ f (take (i + 1) xs)
more f hom start items next xs i x l e h k =
    k ∙ ap (λ ys. ys ++ f (x ∷ [])) h ∙ append_assoc start (f (take i xs)) (f (x ∷ []))
    ∙ ap (λ ys. start ++ ys) (sym (hom (take i xs) (x ∷ [])))
    ∙ ap (λ y. start ++ f (take i xs ++ y ∷ [])) e
    ∙ ap (λ ys. start ++ f ys) (sym (take_more xs i x l))

-- ---- the next line

neither : (a b : Bool) → a || b ≡ false → (a ≡ false) × (b ≡ false)
neither true b h = absurd (true≢false h)
neither false b h = (refl, h)

none_of : (a b : Bool) → a ≡ false → b ≡ false → a || b ≡ false
none_of true b h k = absurd (true≢false h)
none_of false b h k = k

less_among : (from next until x : ℕ) → next ≤ until → (nat_le from x && nat_lt x until) ≡ false →
    (nat_le from x && nat_lt x next) ≡ false
less_among from next until x l h = grind (arith, nat_tests)

pub fewer : {X : Type 0} (f : X → ℕ) (from next until : ℕ) (xs : List X) → next ≤ until →
    list_any (λ x. is_among from until (f x)) xs ≡ false →
    list_any (λ x. is_among from next (f x)) xs ≡ false
fewer f from next until [] l h = refl
fewer f from next until (x ∷ xs) l h =
    let k = neither (is_among from until (f x)) (list_any (λ x. is_among from until (f x)) xs) h in
    none_of (is_among from next (f x)) (list_any (λ x. is_among from next (f x)) xs)
    (less_among from next until (f x) l k.0) (fewer f from next until xs l k.1)

pub record IsNearer (from next until line : ℕ) : Type 0 where
  pub low : from ≤ next
  pub high : next ≤ until
  pub own : is_among from next line ≡ false

never_self : (from x : ℕ) → (nat_le from x && nat_lt x x) ≡ false
never_self from x = grind (arith, nat_tests)

in_span : (from until x : ℕ) → (nat_le from x && nat_lt x until) ≡ true → (from ≤ x) × (x ≤ until)
in_span from until x h = grind (arith, nat_tests)

nearer_by : (from until x : ℕ) (b : Bool) → is_among from until x ≡ b → from ≤ until →
    IsNearer from (cond b x until) until x
nearer_by from until x true e l = let k = in_span from until x e in
    record { low = k.0; high = k.1; own = never_self from x }
nearer_by from until x false e l = record { low = l; high = omega arith; own = e }

pub next_more : {X : Type 0} (f : X → ℕ) (from next until until' : ℕ) (xs : List X) (i : ℕ)
    (x : X) → i < length xs → x ≡ get_or xs i x →
    next ≡ cond (is_among from until (f x)) (f x) until → (from ≤ until) →
    (until ≤ until') → list_any (λ y. is_among from until (f y)) (take i xs) ≡ false →
    (from ≤ next) × (next ≤ until')
    × (list_any (λ y. is_among from next (f y)) (take (i + 1) xs) ≡ false)
next_more f from next until until' xs i x l e h low high none =
    let k : IsNearer from next until (f x) =
    subst (λ n. IsNearer from n until (f x)) (sym h)
    (nearer_by from until (f x) (is_among from until (f x)) refl low) in
    let a = k.low in let b = k.high in (
      a,
      omega (arith, b, high),
      list_any_more (λ y. is_among from next (f y)) xs i x l
          ∙ none_of (list_any (λ y. is_among from next (f y)) (take i xs))
          (is_among from next (f (get_or xs i x))) (fewer f from next until (take i xs) b none)
          (subst (λ y. is_among from next (f y) ≡ false) e k.own),
    )

other_line : (from until x n : ℕ) → from ≤ n → n < until →
    (nat_le from x && nat_lt x until) ≡ false → (x == n) ≡ false
other_line from until x n a b h = grind (arith, nat_tests)

none_at : {X : Type 0} (f : X → ℕ) (from until n : ℕ) (xs : List X) → from ≤ n → n < until →
    list_any (λ x. is_among from until (f x)) xs ≡ false → filter (λ x. f x == n) xs ≡ []
none_at f from until n [] a b h = refl
none_at f from until n (x ∷ xs) a b h =
    let k = neither (is_among from until (f x)) (list_any (λ x. is_among from until (f x)) xs) h in
    ap (λ t. cond t (x ∷ filter (λ x. f x == n) xs) (filter (λ x. f x == n) xs))
    (other_line from until (f x) n a b k.0) ∙ none_at f from until n xs a b k.1

module _ (s : Schedule) (from until : ℕ) (low : from ≤ until)
    (merges : list_any (λ (m : MergeLine). is_among from until m.line) s.merges ≡ false)
    (reads : list_any (λ (r : ReadLine). is_among from until r.line) s.reads ≡ false) where
  nothing : (n : ℕ) → from ≤ n → n < until → observed_at s n ≡ []
  nothing n a b =
      let mf : MergeLine → ℕ = λ m. m.line in let rf : ReadLine → ℕ = λ r. r.line in
      ap (λ ms. map (placed_observable s) (flat_map (merge_observables s) ms)
      ++ of_reads s n s.reads) (none_at mf from until n s.merges a b merges)
      ∙ ap (λ rs. map (placed_observable s) (map (read_observable s) rs))
      (none_at rf from until n s.reads a b reads)

  up_to : (k : ℕ) → from + k ≤ until → flat_map (observed_at s) (range_with_len 0 (from + k))
      ≡ flat_map (observed_at s) (range_with_len 0 from)
  up_to zero l = let e : from + 0 ≡ from = omega arith in
      ap (λ n. flat_map (observed_at s) (range_with_len 0 n)) e
  up_to (suc k) l =
      let e : from + suc k ≡ from + k + 1 = omega arith in
      ap (λ n. flat_map (observed_at s) (range_with_len 0 n)) e
      ∙ ap (flat_map (observed_at s)) (range_more 0 (from + k))
      ∙ flat_map-append (observed_at s) (range_with_len 0 (from + k)) ((0 + (from + k)) ∷ [])
      ∙ ap (λ ys. flat_map (observed_at s) (range_with_len 0 (from + k)) ++ (ys ++ []))
      (nothing (0 + (from + k)) (omega arith) (omega (arith, l)))
      ∙ append-nil (flat_map (observed_at s) (range_with_len 0 (from + k)))
      ∙ up_to k (omega (arith, l))

  pub skipped : flat_map (observed_at s) (range_with_len 0 until)
      ≡ flat_map (observed_at s) (range_with_len 0 from)
  skipped = let e : until ≡ from + (until - from) = omega (arith, low) in
      ap (λ n. flat_map (observed_at s) (range_with_len 0 n)) e
      ∙ up_to (until - from) (omega (arith, low))

-- ---- all lines

pub one_more : (s : Schedule) (all next : List PlacedObservable) (n : ℕ) →
    all ≡ flat_map (observed_at s) (range_with_len 0 n) → next ≡ all ++ observed_at s n →
    next ≡ flat_map (observed_at s) (range_with_len 0 (n + 1))
one_more s all next n h k =
    let z : n ≡ 0 + n = omega arith in
    k ∙ ap (λ ys. ys ++ observed_at s n) h
    ∙ ap (λ ys. flat_map (observed_at s) (range_with_len 0 n) ++ ys)
    (sym (append-nil (observed_at s n)))
    ∙ ap (λ m. flat_map (observed_at s) (range_with_len 0 n) ++ flat_map (observed_at s) (m ∷ [])) z
    ∙ sym (flat_map-append (observed_at s) (range_with_len 0 n) ((0 + n) ∷ []))
    ∙ ap (flat_map (observed_at s)) (sym (range_more 0 n))

map_flat_map : {X Y Z : Type 0} (g : Y → Z) (f : X → List Y) (h : X → List Z) (xs : List X) →
    ((x : X) → h x ≡ map g (f x)) → flat_map h xs ≡ map g (flat_map f xs)
map_flat_map g f h [] e = refl
map_flat_map g f h (x ∷ xs) e =
    ap (λ ys. ys ++ flat_map h xs) (e x) ∙ ap (λ ys. map g (f x) ++ ys) (map_flat_map g f h xs e)
    ∙ sym (map-append g (f x) (flat_map f xs))

pub all_lines : (s : Schedule) → flat_map (observed_at s) (range_with_len 0 s.rounds_line)
    ≡ map (placed_observable s) (observables s)
all_lines s =
    map_flat_map (placed_observable s)
    (λ n. flat_map (merge_observables s) (filter (λ (merge : MergeLine). merge.line == n) s.merges)
    ++ map (read_observable s) (filter (λ (line : ReadLine). line.line == n) s.reads))
    (observed_at s) (range_with_len 0 s.rounds_line)
    (λ n. sym (map-append (placed_observable s)
    (flat_map (merge_observables s) (filter (λ (merge : MergeLine). merge.line == n) s.merges))
    (map (read_observable s) (filter (λ (line : ReadLine). line.line == n) s.reads))))
