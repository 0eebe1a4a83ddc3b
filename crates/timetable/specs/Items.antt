-- The regions of some lines of a schedule.
use Rattle.std.specs.Prelude.{◌==◌, ◌||◌, ℕ, Bool, List, ◌++◌, filter, map, not}
use Rattle.std.specs.List.{list_any}
use Rattle.surface_model.specs.Schedules.{Schedule}
use Rattle.surface_model.specs.Layout.{Region, merged_region, region_of_patch}
use Rattle.patch_layout.specs.Items.{init_line, merge_line}

-- whether the patch is none of those that these merges join
abbrev pub is_apart : Schedule → List ℕ → ℕ → Bool
is_apart s merges p =
    not (list_any (λ n. (merge_line s n).one == p || (merge_line s n).two == p) merges)

-- the regions of the patches that those lines prepare and none of the merges joins, and then of the
-- merges
abbrev pub patches_of : Schedule → List ℕ → List ℕ → List Region
patches_of s inits merges = map (λ n. region_of_patch s (init_line s n).patch)
    (filter (λ n. is_apart s merges (init_line s n).patch) inits)

abbrev pub regions_of : Schedule → List ℕ → List ℕ → List Region
regions_of s inits merges = patches_of s inits merges
    ++ map (λ n. merged_region s (merge_line s n)) merges
