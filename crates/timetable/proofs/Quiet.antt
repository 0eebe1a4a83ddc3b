-- A slot in which nothing begins or ends has the regions of the slot before.
use Rattle.std.proofs.Common.{◌≡◌, ◌<◌, ℕ, zero, suc, ◌+◌, ◌-◌, ◌==◌, Bool, true, false, cond, not, ◌&&◌, ◌||◌, refl, sym, ap, ◌∙◌, arith, List, [], ◌∷◌, ◌++◌, filter, length, map, get_or}
use Rattle.std.specs.Prelude.{nat_lt, nat_le, find, Some}
use Rattle.std.specs.List.{list_any, range_with_len}
use Rattle.std.specs.Option.{option_map_or}
use Rattle.std.proofs.Math.Dec.{eqb-suc-zero}
use Rattle.std.proofs.lemmas.Bool.{false≢true, true≢false}
use Rattle.std.proofs.lemmas.Bool.Decides.{nat_tests}
use Rattle.std.proofs.lemmas.List.FromFn.{get_or-map-range_with_len}
use Rattle.surface_model.specs.Schedules.{InitLine, MergeLine, ReadLine, Schedule}
use Rattle.surface_model.specs.Layout.{is_among, is_merged_at, last_slot, merged_region, patches_at, read_slot, region_of_patch, regions_at, split_slot}
use Rattle.timetable.specs.Times.{Times, ends_none, had_ends, has_ends, has_none, is_quiet, is_still, numbers_of, times_of}
use Rattle.timetable.proofs.Numbers.{numbers_none}
use Rattle.timetable.proofs.Timed.{slots_are}

-- ---- by the lists

none_at : {X : Type 0} (test : ℕ → X → Bool) (xs : List X) (n t : ℕ) (lists : List (List ℕ)) →
    lists ≡ map (λ t. numbers_of (test t) xs) (range_with_len 0 n) → t < n → has_none lists t
    ≡ not (list_any (test t) xs)
none_at test xs n t lists e l =
    ap (λ ls. length (get_or ls t []) == 0) e ∙ ap (λ row. length row == 0)
    (get_or-map-range_with_len (λ t. numbers_of (test t) xs) 0 n t t [] l (omega arith))
    ∙ numbers_none (test t) xs

not_either : (a b : Bool) → (not a && not b) ≡ not (a || b)
not_either true b = refl
not_either false b = refl

module _ (s : Schedule) (times : Times) (given : times ≡ times_of s) where
  no_init : (t : ℕ) → t < last_slot s + 1 → has_none times.inits t
      ≡ not (list_any (λ (line : InitLine). line.slot == t) s.inits)
  unfolding times_of
  no_init t l = none_at (λ t (line : InitLine). line.slot == t) s.inits (last_slot s + 1) t
      times.inits (ap (λ (x : Times). x.inits) given) l

  no_start : (t : ℕ) → t < last_slot s + 1 → has_none times.starts t
      ≡ not (list_any (λ (merge : MergeLine). merge.slot == t) s.merges)
  unfolding times_of
  no_start t l = none_at (λ t (merge : MergeLine). merge.slot == t) s.merges (last_slot s + 1) t
      times.starts (ap (λ (x : Times). x.starts) given) l

  no_read : (t : ℕ) → t < last_slot s + 1 → has_none times.reads t
      ≡ not (list_any (λ (line : ReadLine). line.slot == t) s.reads)
  unfolding times_of
  no_read t l = none_at (λ t (line : ReadLine). line.slot == t) s.reads (last_slot s + 1) t
      times.reads (ap (λ (x : Times). x.reads) given) l

  no_split : (t : ℕ) → t < last_slot s + 1 → has_none times.splits t
      ≡ not (list_any (λ (merge : MergeLine). split_slot merge == t) s.merges)
  unfolding times_of
  no_split t l = none_at (λ t (merge : MergeLine). split_slot merge == t) s.merges (last_slot s + 1)
      t times.splits (ap (λ (x : Times). x.splits) given) l

  no_ends : (t : ℕ) → t < last_slot s + 1 → ends_none times t ≡ not (has_ends s t)
  no_ends t l =
      ap (λ b. b && has_none times.splits t) (no_read t l) ∙ ap (λ b.
      not (list_any (λ (line : ReadLine). line.slot == t) s.reads) && b) (no_split t l)
      ∙ not_either (list_any (λ (line : ReadLine). line.slot == t) s.reads)
      (list_any (λ (merge : MergeLine). split_slot merge == t) s.merges)

  no_ends_before : (t : ℕ) → t < last_slot s + 1 → ((t == 0) || ends_none times (t - 1))
      ≡ not (had_ends s t)
  no_ends_before zero l = refl
  no_ends_before (suc t) l =
      let e : suc t - 1 ≡ t = omega arith in
      ap (λ b. b || ends_none times (suc t - 1)) (eqb-suc-zero t) ∙ ap (ends_none times) e
      ∙ no_ends t (omega (arith, l))

  still_is : (t : ℕ) → t < last_slot s + 1 → is_still times t ≡ is_quiet s t
  still_is t l =
      ap (λ b. (b && has_none times.starts t)
      && (ends_none times t && ((t == 0) || ends_none times (t - 1)))) (no_init t l)
      ∙ ap (λ b. (not (list_any (λ (line : InitLine). line.slot == t) s.inits) && b)
      && (ends_none times t && ((t == 0) || ends_none times (t - 1)))) (no_start t l)
      ∙ ap (λ b. (not (list_any (λ (line : InitLine). line.slot == t) s.inits)
      && not (list_any (λ (merge : MergeLine). merge.slot == t) s.merges))
      && (b && ((t == 0) || ends_none times (t - 1)))) (no_ends t l)
      ∙ ap (λ b. (not (list_any (λ (line : InitLine). line.slot == t) s.inits)
      && not (list_any (λ (merge : MergeLine). merge.slot == t) s.merges))
      && (not (has_ends s t) && b)) (no_ends_before t l)

pub quiet_as : (s : Schedule) (times : Times) (t : ℕ) → times ≡ times_of s →
    t < length times.inits → is_still times t ≡ is_quiet s t
quiet_as s times t e l = let k = slots_are s times e in still_is s times e t (omega (arith, l, k))

-- ---- the regions

-- what a quiet slot lacks
pub record IsStill (s : Schedule) (u : ℕ) : Type 0 where
  pub inits : list_any (λ (line : InitLine). line.slot == suc u) s.inits ≡ false
  pub starts : list_any (λ (merge : MergeLine). merge.slot == suc u) s.merges ≡ false
  pub reads : list_any (λ (line : ReadLine). line.slot == suc u) s.reads ≡ false
  pub splits : list_any (λ (merge : MergeLine). split_slot merge == suc u) s.merges ≡ false
  pub reads_before : list_any (λ (line : ReadLine). line.slot == u) s.reads ≡ false
  pub splits_before : list_any (λ (merge : MergeLine). split_slot merge == u) s.merges ≡ false

both : (a b : Bool) → (a && b) ≡ true → (a ≡ true) × (b ≡ true)
both true b h = (refl, h)
both false b h = absurd (false≢true h)

neither : (a b : Bool) → not (a || b) ≡ true → (a ≡ false) × (b ≡ false)
neither true b h = absurd (false≢true h)
neither false true h = absurd (false≢true h)
neither false false h = (refl, refl)

pub quiet_is : (s : Schedule) (u : ℕ) → is_quiet s (suc u) ≡ true → IsStill s u
quiet_is s u h =
    let begins = list_any (λ (line : InitLine). line.slot == suc u) s.inits in
    let starts = list_any (λ (merge : MergeLine). merge.slot == suc u) s.merges in
    let k = both (not begins && not starts) (not (has_ends s (suc u)) && not (has_ends s u)) h in
    let first = neither begins starts (sym (not_either begins starts) ∙ k.0) in
    let second = both (not (has_ends s (suc u))) (not (has_ends s u)) k.1 in
    let here = neither (list_any (λ (line : ReadLine). line.slot == suc u) s.reads)
    (list_any (λ (merge : MergeLine). split_slot merge == suc u) s.merges) second.0 in
    let before = neither (list_any (λ (line : ReadLine). line.slot == u) s.reads)
    (list_any (λ (merge : MergeLine). split_slot merge == u) s.merges) second.1 in
    record {
      inits = first.0;
      starts = first.1;
      reads = here.0;
      splits = here.1;
      reads_before = before.0;
      splits_before = before.1;
    }

none_of : (a b : Bool) → (a || b) ≡ false → (a ≡ false) × (b ≡ false)
none_of true b h = absurd (true≢false h)
none_of false b h = (refl, h)

-- tests that agree where two others fail
kept_same : {X : Type 0} (a b p q : X → Bool) (xs : List X) → list_any a xs ≡ false → list_any b xs
    ≡ false → ((x : X) → a x ≡ false → b x ≡ false → p x ≡ q x) → filter p xs ≡ filter q xs
kept_same a b p q [] h k same = refl
kept_same a b p q (x ∷ xs) h k same =
    let f = none_of (a x) (list_any a xs) h in let g = none_of (b x) (list_any b xs) k in
    ap (λ t. cond t (x ∷ filter p xs) (filter p xs)) (same x f.0 g.0)
    ∙ ap (λ ys. cond (q x) (x ∷ ys) ys) (kept_same a b p q xs f.1 g.1 same)

any_same : {X : Type 0} (a b p q : X → Bool) (xs : List X) → list_any a xs ≡ false → list_any b xs
    ≡ false → ((x : X) → a x ≡ false → b x ≡ false → p x ≡ q x) → list_any p xs ≡ list_any q xs
any_same a b p q [] h k same = refl
any_same a b p q (x ∷ xs) h k same =
    let f = none_of (a x) (list_any a xs) h in let g = none_of (b x) (list_any b xs) k in
    ap (λ t. t || list_any p xs) (same x f.0 g.0)
    ∙ ap (λ t. q x || t) (any_same a b p q xs f.1 g.1 same)

same_among : (low high u : ℕ) → (low == suc u) ≡ false → (high == suc u) ≡ false →
    (nat_le low u && nat_lt u high) ≡ (nat_le low (suc u) && nat_lt (suc u) high)
same_among low high u a b = grind (arith, nat_tests)

-- a patch is not read in the slot
not_read : (test : ReadLine → Bool) (u : ℕ) (reads : List ReadLine) →
    list_any (λ (r : ReadLine). r.slot == suc u) reads ≡ false →
    (option_map_or (λ (r : ReadLine). r.slot) (find test reads) 0 == suc u) ≡ false
not_read test u [] h = grind (arith, nat_tests)
not_read test u (r ∷ rs) h =
    let k = none_of (r.slot == suc u) (list_any (λ (r : ReadLine). r.slot == suc u) rs) h in
    by_test (test r) k.0 (not_read test u rs k.1)
  where
    by_test : (b : Bool) → (r.slot == suc u) ≡ false →
        (option_map_or (λ (r : ReadLine). r.slot) (find test rs) 0 == suc u) ≡ false →
        (option_map_or (λ (r : ReadLine). r.slot) (cond b (Some r) (find test rs)) 0 == suc u)
        ≡ false
    by_test true e k = e
    by_test false e k = k

module _ (s : Schedule) (u : ℕ) (still : IsStill s u) where
  same_merges : filter (λ (m : MergeLine). is_among m.slot (split_slot m) u) s.merges
      ≡ filter (λ (m : MergeLine). is_among m.slot (split_slot m) (suc u)) s.merges
  same_merges =
      kept_same (λ (m : MergeLine). m.slot == suc u) (λ (m : MergeLine). split_slot m == suc u)
      (λ (m : MergeLine). is_among m.slot (split_slot m) u) (λ (m : MergeLine).
      is_among m.slot (split_slot m) (suc u)) s.merges
      still.starts still.splits (λ m a b. same_among m.slot (split_slot m) u a b)

  same_merged : (p : ℕ) → is_merged_at s u p ≡ is_merged_at s (suc u) p
  same_merged p =
      any_same (λ (m : MergeLine). m.slot == suc u) (λ (m : MergeLine). split_slot m == suc u)
      (λ (m : MergeLine). is_among m.slot (split_slot m) u && ((m.one == p) || (m.two == p)))
      (λ (m : MergeLine). is_among m.slot (split_slot m) (suc u) && ((m.one == p) || (m.two == p)))
      s.merges still.starts still.splits
      (λ m a b. ap (λ t. t && ((m.one == p) || (m.two == p)))
      (same_among m.slot (split_slot m) u a b))

  same_patches : patches_at s u ≡ patches_at s (suc u)
  same_patches =
      ap (map (λ (line : InitLine). region_of_patch s line.patch))
      (kept_same (λ (line : InitLine). line.slot == suc u) (λ (line : InitLine).
      line.slot == suc u) (λ (line : InitLine). is_among line.slot (read_slot s line.patch) u
      && not (is_merged_at s u line.patch))
      (λ (line : InitLine). is_among line.slot (read_slot s line.patch) (suc u)
      && not (is_merged_at s (suc u) line.patch)) s.inits still.inits still.inits
      (λ line a b. ap (λ t. t
      && not (is_merged_at s u line.patch)) (same_among line.slot (read_slot s line.patch) u a
      (not_read (λ (r : ReadLine). r.patch == line.patch) u s.reads still.reads))
      ∙ ap (λ t. is_among line.slot (read_slot s line.patch) (suc u)
      && not t) (same_merged line.patch)))

  pub same_regions : regions_at s u ≡ regions_at s (suc u)
  same_regions = ap (λ rs. rs ++ map (merged_region s)
      (filter (λ (m : MergeLine). is_among m.slot (split_slot m) u) s.merges)) same_patches
      ∙ ap (λ ms. patches_at s (suc u) ++ map (merged_region s) ms) same_merges

pub quiet_regions : (s : Schedule) (t : ℕ) → is_quiet s t ≡ true →
    regions_at s t ≡ regions_at s (t - 1)
quiet_regions s zero h = refl
quiet_regions s (suc u) h = let e : u ≡ suc u - 1 = omega arith in
    sym (same_regions s u (quiet_is s u h)) ∙ ap (regions_at s) e
