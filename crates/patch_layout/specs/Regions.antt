-- The seam of a merge.
use Rattle.std.specs.Prelude.{◌+◌, if◌then◌else◌}
use Rattle.surface_model.specs.declared.Basis.{Basis}
use Rattle.surface_model.specs.declared.Basis.TheVariants.{X, Z}
use Rattle.surface_model.specs.Schedules.{MergeLine, Schedule}
use Rattle.surface_model.specs.Layout.{Region, is_beside, merged_region}

-- the qubits of the seam: a column between patches side by side, or a row between one above the
-- other
abbrev pub seam_region : Schedule → MergeLine → Region
seam_region s merge =
    let r = merged_region s merge in
    if is_beside s merge then record {
      row = r.row;
      column = r.column + s.distance;
      height = s.distance;
      width = 1;
    }
    else record { row = r.row + s.distance; column = r.column; height = 1; width = s.distance }

-- the basis in which the seam's qubits are read
abbrev pub seam_basis : Schedule → MergeLine → Basis
seam_basis s merge = if is_beside s merge then Z else X
