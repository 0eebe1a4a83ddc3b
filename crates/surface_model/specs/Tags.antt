-- The tags of a schedule's detectors, by which a window plan sorts them into cells.
use Rattle.std.specs.Prelude.{◌+◌, ◌/◌, List, map}
use Rattle.graph_model.specs.declared.Tag.{Tag}
use Rattle.surface_model.specs.Schedules.{Schedule}
use Rattle.surface_model.specs.Measurements.{Detector, detectors}

-- a detector's slot, and the tile of its corner
abbrev pub tag_of : Schedule → Detector → Tag
tag_of s d = record {
  slot = d.slot;
  tile_row = d.corner.row / (s.distance + 1);
  tile_col = d.corner.column / (s.distance + 1);
}

abbrev pub tags_of : Schedule → List Tag
tags_of s = map (tag_of s) (detectors s)
