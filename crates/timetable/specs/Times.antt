-- Which lines of a schedule begin, go on or end in each slot.
use Rattle.std.specs.Prelude.{◌≡◌, ◌+◌, ◌-◌, ◌&&◌, ◌||◌, ◌==◌, ◌∷◌, ℕ, zero, suc, Bool, false, List, [], not, if◌then◌else◌, length, map, slice_index_or}
use Rattle.std.specs.List.{list_any, range_with_len}
use Rattle.surface_model.specs.Schedules.{InitLine, MergeLine, ReadLine, Schedule}
use Rattle.surface_model.specs.Layout.{is_among, last_slot, read_slot, split_slot}

-- the numbers of the lines that pass the test, where the first line has the number n
unfoldable pub numbered : {X : Type 0} → ℕ → (X → Bool) → List X → List ℕ
numbered n test [] = []
numbered n test (line ∷ lines) = if test line then n ∷ numbered (n + 1) test lines
    else numbered (n + 1) test lines

-- the numbers of the lines that pass the test, from 0 on
abbrev pub numbers_of : {X : Type 0} → (X → Bool) → List X → List ℕ
numbers_of test lines = numbered 0 test lines

-- the lines of slot t: those that prepare a patch, read one, begin a merge or split one in it
abbrev pub inits_at : Schedule → ℕ → List ℕ
inits_at s t = numbers_of (λ (line : InitLine). line.slot == t) s.inits

abbrev pub reads_at : Schedule → ℕ → List ℕ
reads_at s t = numbers_of (λ (line : ReadLine). line.slot == t) s.reads

abbrev pub starts_at : Schedule → ℕ → List ℕ
starts_at s t = numbers_of (λ (merge : MergeLine). merge.slot == t) s.merges

abbrev pub splits_at : Schedule → ℕ → List ℕ
splits_at s t = numbers_of (λ merge. split_slot merge == t) s.merges

-- those whose patch is prepared by slot t and not read yet, and those whose merge is active in it
abbrev pub alive_at : Schedule → ℕ → List ℕ
alive_at s t = numbers_of (λ (line : InitLine). is_among line.slot (read_slot s line.patch) t)
    s.inits

abbrev pub merges_at : Schedule → ℕ → List ℕ
merges_at s t = numbers_of (λ merge. is_among merge.slot (split_slot merge) t) s.merges

-- these lists, for each slot from 0 to the last
pub record Times : Type 0 where
  pub inits : List (List ℕ)
  pub reads : List (List ℕ)
  pub starts : List (List ℕ)
  pub splits : List (List ℕ)
  pub alive : List (List ℕ)
  pub merges : List (List ℕ)

-- each kind has a list for each of so many slots
pub record AreLikeLong (slots : ℕ) (t : Times) : Type 0 where
  pub inits : length t.inits ≡ slots
  pub reads : length t.reads ≡ slots
  pub starts : length t.starts ≡ slots
  pub splits : length t.splits ≡ slots
  pub alive : length t.alive ≡ slots
  pub merges : length t.merges ≡ slots

unfoldable pub times_of : Schedule → Times
times_of s =
    let slots = range_with_len 0 (last_slot s + 1) in
    record {
      inits = map (inits_at s) slots;
      reads = map (reads_at s) slots;
      starts = map (starts_at s) slots;
      splits = map (splits_at s) slots;
      alive = map (alive_at s) slots;
      merges = map (merges_at s) slots;
    }

-- whether a patch is read or a merge is split in slot t, and whether in the slot before
abbrev pub has_ends : Schedule → ℕ → Bool
has_ends s t = list_any (λ (line : ReadLine). line.slot == t) s.reads
    || list_any (λ (merge : MergeLine). split_slot merge == t) s.merges

abbrev pub had_ends : Schedule → ℕ → Bool
had_ends s zero = false
had_ends s (suc t) = has_ends s t

-- whether slot t has nothing that begins or ends: no preparation, reading, merge or split, and no
-- reading or split in the slot before
abbrev pub is_quiet : Schedule → ℕ → Bool
is_quiet s t =
    (not (list_any (λ (line : InitLine). line.slot == t) s.inits)
    && not (list_any (λ (merge : MergeLine). merge.slot == t) s.merges))
    && (not (has_ends s t) && not (had_ends s t))

-- the same by the lists
abbrev pub has_none : List (List ℕ) → ℕ → Bool
has_none lists t = length (slice_index_or lists t []) == 0

abbrev pub ends_none : Times → ℕ → Bool
ends_none times t = has_none times.reads t && has_none times.splits t

abbrev pub is_still : Times → ℕ → Bool
is_still times t = (has_none times.inits t && has_none times.starts t)
    && (ends_none times t && (t == 0 || ends_none times (t - 1)))
