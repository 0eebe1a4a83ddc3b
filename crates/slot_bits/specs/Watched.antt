-- The observables of a schedule, line by line, and the places of their bits.
use Rattle.std.specs.Prelude.{◌==◌, ◌&&◌, ◌++◌, ℕ, List, if◌then◌else◌, filter, flat_map, map, position, unwrap_or}
use Rattle.surface_model.specs.declared.Basis.{Basis}
use Rattle.surface_model.specs.declared.Basis.TheVariants.{Z, X}
use Rattle.surface_model.specs.Schedules.{MergeLine, ReadLine, Schedule}
use Rattle.surface_model.specs.Layout.{Region, has_qubit, is_beside, is_seam, is_seam_check, board, merged_region, region_of_patch, split_slot}
use Rattle.surface_model.specs.Measurements.{Bit, Measurement, same_bit, outcome, readouts, first_line, merge_observables, read_observable}
use Rattle.slot_bits.specs.Observed.{PlacedObservable, placed_observable}
use Rattle.patch_layout.specs.Regions.{seam_region}

-- the place of a bit in a line that has it
abbrev pub place_in : List Bit → Bit → ℕ
place_in line b = unwrap_or (position (same_bit b) line) 0

-- the first qubit of a merge's seam
abbrev pub seam_start : Schedule → MergeLine → Region
seam_start s merge = let r = seam_region s merge in
    record { row = r.row; column = r.column; height = 1; width = 1 }

-- the first row of a region, or in basis x its first column
abbrev pub first_side : Basis → Region → Region
first_side Z r = record { row = r.row; column = r.column; height = 1; width = r.width }
first_side X r = record { row = r.row; column = r.column; height = r.height; width = 1 }

-- the bits of a merge's own observable, of its seam's, and of a reading's
abbrev pub own_bits : Schedule → MergeLine → List Measurement
own_bits s merge = map (outcome merge.slot) (filter (is_seam_check s merge) (board s))

abbrev pub seam_bits : Schedule → MergeLine → List Measurement
seam_bits s merge =
    readouts s (split_slot merge) (λ q. is_seam s merge q
    && (if is_beside s
    merge then q.row == (merged_region s merge).row else q.column == (merged_region
    s merge).column))

abbrev pub read_bits : Schedule → ReadLine → List Measurement
read_bits s line =
    readouts s line.slot (λ q. has_qubit (region_of_patch s line.patch) q && first_line line.basis
    (region_of_patch s line.patch) q)

-- the observables of those merges, and of those readings, that the line of this number gives
abbrev pub of_merges : Schedule → ℕ → List MergeLine → List PlacedObservable
of_merges s n merges =
    map (placed_observable s)
    (flat_map (merge_observables s) (filter (λ (merge : MergeLine). merge.line == n) merges))

abbrev pub of_reads : Schedule → ℕ → List ReadLine → List PlacedObservable
of_reads s n reads =
    map (placed_observable s)
    (map (read_observable s) (filter (λ (line : ReadLine). line.line == n) reads))

-- the observables of the line of this number
abbrev pub observed_at : Schedule → ℕ → List PlacedObservable
observed_at s n = of_merges s n s.merges ++ of_reads s n s.reads
