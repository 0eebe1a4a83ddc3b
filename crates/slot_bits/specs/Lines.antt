-- What a slot's line is made of, line by line of the schedule.
use Rattle.std.specs.Prelude.{◌&&◌, ◌||◌, ◌==◌, ◌+◌, ◌*◌, ℕ, zero, suc, Bool, List, []}
use Rattle.std.specs.List.{list_any}
use Rattle.surface_model.specs.Limits.{last_tile, most_distance}
use Rattle.surface_model.specs.Schedules.{MergeLine, ReadLine, Schedule}
use Rattle.surface_model.specs.Layout.{region_of_patch, regions_at, split_slot}
use Rattle.surface_model.specs.Measurements.{Bit, bits_of_slot}
use Rattle.patch_layout.specs.Regions.{seam_region}
use Rattle.slot_bits.specs.Order.{is_outcome_in, is_readout_in}

-- whether the bit is in the line of slot t because the patch is read, or because the merge is split
abbrev pub in_read : Schedule → ℕ → Bit → ReadLine → Bool
in_read s t b read = read.slot == t && is_readout_in (region_of_patch s read.patch) b

abbrev pub in_split : Schedule → ℕ → Bit → MergeLine → Bool
in_split s t b merge = split_slot merge == t && is_readout_in (seam_region s merge) b

-- whether the bit is in the line of slot t: for one of these, or as the outcome of a region that is
-- active
abbrev pub in_line : Schedule → ℕ → Bit → Bool
in_line s t b =
    (list_any (in_read s t b) s.reads || list_any (in_split s t b) s.merges)
    || list_any (λ r. is_outcome_in r b) (regions_at s t)

-- the bits of the slot before; before slot 0 there are none
abbrev pub bits_before : Schedule → ℕ → List Bit
bits_before s zero = []
bits_before s (suc t) = bits_of_slot s t

-- the most places of a board's side, of a board, and the most bits of a line: a readout and an
-- outcome at each
abbrev pub most_on_side : ℕ
most_on_side = (last_tile + 1) * (most_distance + 1)

abbrev pub most_on_board : ℕ
most_on_board = most_on_side * most_on_side

abbrev pub most_in_line : ℕ
most_in_line = 2 * most_on_board
