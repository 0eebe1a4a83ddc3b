-- Made schedules. Patches stand side by side, eight in a row of tiles, and are all prepared and
-- read in basis z. Patches 2i and 2i + 1 are merged for as many slots as the distance, where there
-- is time for it, and where there is more time patch 2i has a condition on the merge's two results.
use Rattle.std.specs.Prelude.{◌≡◌, ◌≤◌, ℕ, ◌+◌, ◌-◌, ◌*◌, ◌/◌, ◌%◌, nat_le, nat_lt, if◌then◌else◌, List, [], ◌∷◌, ◌++◌, codes, decimal, flat_map}
use Rattle.std.specs.List.{range_with_len}
use Rattle.report_model.specs.Texts.{line}
use Rattle.surface_model.specs.Limits.{least_distance, most_distance, most_patches, most_slots}
use Rattle.surface_model.specs.Text.{seam_of}
use Rattle.workload_maker.specs.declared.lines.LineKind.{LineKind}
use Rattle.workload_maker.specs.declared.lines.LineKind.TheVariants.{Patch, Init, Merge, Read, Cond}

-- the distances, numbers of patches and numbers of slots of which schedules are made
pub record AreMakeable (distance patches slots : ℕ) : Type 0 where
  pub odd : distance % 2 ≡ 1
  pub least : least_distance ≤ distance
  pub greatest : distance ≤ most_distance
  pub some : 1 ≤ patches
  pub few : patches ≤ most_patches
  pub two_slots : 2 ≤ slots
  pub few_slots : slots ≤ most_slots

-- a letter and a number
abbrev pub numbered : List ℕ → ℕ → List ℕ
numbered letter k = letter ++ decimal k

abbrev pub patch_name : ℕ → List ℕ
patch_name k = numbered (codes "p") k

abbrev pub merge_label : ℕ → List ℕ
merge_label i = numbered (codes "m") i

-- the words of the line of this number among those of its kind: for each patch, or for each pair
abbrev pub words_of : (distance slots : ℕ) → LineKind → ℕ → List (List ℕ)
words_of d l Patch k = codes "patch" ∷ patch_name k ∷ decimal (k / 8) ∷ decimal (k % 8) ∷ []
words_of d l Init k = codes "init" ∷ patch_name k ∷ codes "z" ∷ codes "0" ∷ []
words_of d l Merge i =
    codes "merge" ∷ merge_label i ∷ patch_name (2 * i) ∷ patch_name (2 * i + 1) ∷ decimal (d + 1)
    ∷ decimal d ∷ []
words_of d l Read k =
    codes "read" ∷ numbered (codes "r") k ∷ patch_name k ∷ codes "z" ∷ decimal (l - 1) ∷ []
words_of d l Cond i =
    codes "cond" ∷ numbered (codes "c") i ∷ patch_name (2 * i) ∷ decimal (5 * (d + 1))
    ∷ merge_label i ∷ seam_of (merge_label i) ∷ []

abbrev pub line_text : (distance slots : ℕ) → LineKind → ℕ → List ℕ
line_text d l kind k = line (words_of d l kind k)

-- the first so many lines of a kind
unfoldable pub lines_text : (distance slots : ℕ) → LineKind → ℕ → List ℕ
lines_text d l kind count = flat_map (line_text d l kind) (range_with_len 0 count)

-- how many merges there are: they begin after `distance + 1` slots, and have to be split before the
-- last slot
abbrev pub merge_count : (distance patches slots : ℕ) → ℕ
merge_count d n l = if nat_lt (2 * d + 1) (l - 1) then n / 2 else 0

-- how many conditions there are: they stand `5 * (distance + 1)` slots after the first
abbrev pub cond_count : (distance patches slots : ℕ) → ℕ
cond_count d n l = if nat_le (5 * d + 6) l then n / 2 else 0

-- the three lines that all headers begin with
abbrev pub first_lines : ℕ → List ℕ
first_lines d =
    line (codes "swiper" ∷ codes "1" ∷ []) ++ line (codes "distance" ∷ decimal d ∷ [])
    ++ line (codes "weights" ∷ codes "10" ∷ codes "10" ∷ [])

abbrev pub last_line : List ℕ
last_line = line (codes "rounds" ∷ [])

-- the header of a made schedule
unfoldable pub made_header : (distance patches slots : ℕ) → List ℕ
made_header d n l =
    first_lines d ++ lines_text d l Patch n ++ lines_text d l Init n
    ++ lines_text d l Merge (merge_count d n l) ++ lines_text d l Read n
    ++ lines_text d l Cond (cond_count d n l) ++ last_line
