-- The rows of a timetable.
use Rattle.std.proofs.Common.{◌≡◌, ◌<◌, ℕ, ◌+◌, ◌==◌, sym, ap, ◌∙◌, arith, subst, List, [], All, length, map, get_or}
use Rattle.std.specs.Prelude.{Some, slice_get}
use Rattle.std.specs.List.{range_with_len}
use Rattle.std.proofs.lemmas.List.FromFn.{get_or-map-range_with_len, length-map-range_with_len}
use Rattle.std.proofs.lemmas.Option.{get_or_from_slice_get, slice_get_within}
use Rattle.surface_model.specs.Schedules.{InitLine, MergeLine, ReadLine, Schedule}
use Rattle.surface_model.specs.Layout.{is_among, last_slot, read_slot, split_slot}
use Rattle.timetable.specs.Times.{Times, alive_at, inits_at, merges_at, reads_at, splits_at, starts_at, times_of}
use Rattle.timetable.proofs.Numbers.{numbers_known}

-- the row of a slot
pub row_is : {X : Type 0} (f : ℕ → List X) (n t : ℕ) (lists : List (List X)) (row : List X) →
    lists ≡ map f (range_with_len 0 n) → slice_get lists t ≡ Some row → row ≡ f t
row_is f n t lists row e g =
    let l = slice_get_within lists t row g in
    let k = ap length e ∙ length-map-range_with_len f 0 n in
    sym (get_or_from_slice_get lists t row [] g) ∙ ap (λ ls. get_or ls t []) e
    ∙ get_or-map-range_with_len f 0 n t t [] (omega (arith, l, k)) (omega arith)

pub slots_are : (s : Schedule) (times : Times) → times ≡ times_of s → length times.inits
    ≡ last_slot s + 1
unfolding times_of
slots_are s times e = ap (λ (t : Times). length t.inits) e
    ∙ length-map-range_with_len (inits_at s) 0 (last_slot s + 1)

pub inits_are : (s : Schedule) (times : Times) (t : ℕ) (row : List ℕ) → times ≡ times_of s →
    slice_get times.inits t ≡ Some row → row ≡ inits_at s t
unfolding times_of
inits_are s times t row e g =
    row_is (inits_at s) (last_slot s + 1) t times.inits row (ap (λ (x : Times). x.inits) e) g

pub inits_known : (s : Schedule) (times : Times) (t : ℕ) (row : List ℕ) → times ≡ times_of s →
    slice_get times.inits t ≡ Some row → All (λ n. n < length s.inits) row
inits_known s times t row e g = subst (All (λ n. n < length s.inits)) (sym
    (inits_are s times t row e g)) (numbers_known (λ (line : InitLine). line.slot == t) s.inits)

pub reads_are : (s : Schedule) (times : Times) (t : ℕ) (row : List ℕ) → times ≡ times_of s →
    slice_get times.reads t ≡ Some row → row ≡ reads_at s t
unfolding times_of
reads_are s times t row e g =
    row_is (reads_at s) (last_slot s + 1) t times.reads row (ap (λ (x : Times). x.reads) e) g

pub reads_known : (s : Schedule) (times : Times) (t : ℕ) (row : List ℕ) → times ≡ times_of s →
    slice_get times.reads t ≡ Some row → All (λ n. n < length s.reads) row
reads_known s times t row e g = subst (All (λ n. n < length s.reads)) (sym
    (reads_are s times t row e g)) (numbers_known (λ (line : ReadLine). line.slot == t) s.reads)

pub starts_are : (s : Schedule) (times : Times) (t : ℕ) (row : List ℕ) → times ≡ times_of s →
    slice_get times.starts t ≡ Some row → row ≡ starts_at s t
unfolding times_of
starts_are s times t row e g =
    row_is (starts_at s) (last_slot s + 1) t times.starts row (ap (λ (x : Times). x.starts) e) g

pub starts_known : (s : Schedule) (times : Times) (t : ℕ) (row : List ℕ) → times ≡ times_of s →
    slice_get times.starts t ≡ Some row → All (λ n. n < length s.merges) row
starts_known s times t row e g = subst (All (λ n. n < length s.merges))
    (sym (starts_are s times t row e g)) (numbers_known (λ (m : MergeLine). m.slot == t) s.merges)

pub splits_are : (s : Schedule) (times : Times) (t : ℕ) (row : List ℕ) → times ≡ times_of s →
    slice_get times.splits t ≡ Some row → row ≡ splits_at s t
unfolding times_of
splits_are s times t row e g =
    row_is (splits_at s) (last_slot s + 1) t times.splits row (ap (λ (x : Times). x.splits) e) g

pub splits_known : (s : Schedule) (times : Times) (t : ℕ) (row : List ℕ) → times ≡ times_of s →
    slice_get times.splits t ≡ Some row → All (λ n. n < length s.merges) row
splits_known s times t row e g = subst (All (λ n. n < length s.merges)) (sym
    (splits_are s times t row e g)) (numbers_known (λ (m : MergeLine). split_slot m == t) s.merges)

pub alive_are : (s : Schedule) (times : Times) (t : ℕ) (row : List ℕ) → times ≡ times_of s →
    slice_get times.alive t ≡ Some row → row ≡ alive_at s t
unfolding times_of
alive_are s times t row e g =
    row_is (alive_at s) (last_slot s + 1) t times.alive row (ap (λ (x : Times). x.alive) e) g

pub alive_known : (s : Schedule) (times : Times) (t : ℕ) (row : List ℕ) → times ≡ times_of s →
    slice_get times.alive t ≡ Some row → All (λ n. n < length s.inits) row
alive_known s times t row e g =
    subst (All (λ n. n < length s.inits)) (sym (alive_are s times t row e g))
    (numbers_known (λ (line : InitLine). is_among line.slot (read_slot s line.patch) t) s.inits)

pub merges_are : (s : Schedule) (times : Times) (t : ℕ) (row : List ℕ) → times ≡ times_of s →
    slice_get times.merges t ≡ Some row → row ≡ merges_at s t
unfolding times_of
merges_are s times t row e g =
    row_is (merges_at s) (last_slot s + 1) t times.merges row (ap (λ (x : Times). x.merges) e) g

pub merges_known : (s : Schedule) (times : Times) (t : ℕ) (row : List ℕ) → times ≡ times_of s →
    slice_get times.merges t ≡ Some row → All (λ n. n < length s.merges) row
merges_known s times t row e g = subst (All (λ n. n < length s.merges)) (sym (merges_are s times t
    row e g)) (numbers_known (λ (m : MergeLine). is_among m.slot (split_slot m) t) s.merges)
