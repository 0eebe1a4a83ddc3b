-- The parallel plan of two patches that are merged for a while, with the windows that three
-- operations need, as a second program prints them.
use Rattle.std.specs.Prelude.{◌≡◌, ℕ, ◌==◌, ◌&&◌, Bool, List, [], ◌∷◌, ◌++◌, length, map, position, unwrap_or, refl}
use Rattle.std.specs.List.{range_with_len}
use Rattle.window_model.specs.Cells.{Cell, cell_of}
use Rattle.graph_model.specs.declared.Tag.{Tag}
use Rattle.window_model.specs.Windows.{WindowPlan, window_of}
use Rattle.window_model.specs.Decoder.{Task, needs}
use Rattle.window_model.proofs.OnePatch.{counts}
use Rattle.surface_model.specs.Layout.{tile_of}
use Rattle.surface_model.specs.Measurements.{Detector, Observable, detectors, observables}
use Rattle.surface_model.specs.Errors.{graph_of}
use Rattle.surface_model.proofs.Graphs.{beside}

abbrev pub tags : List Tag
tags = map (λ (d : Detector). let tile = tile_of beside d.corner in
    record { slot = d.slot; tile_row = tile.row; tile_col = tile.column }) (detectors beside)

abbrev same_cell : Cell → Cell → Bool
same_cell a b = a.block == b.block && (a.row == b.row && a.column == b.column)

abbrev cell : ℕ → ℕ → Cell
cell block column = record { block = block; row = 0; column = column }

abbrev pub cells : List Cell
cells = cell 0 0 ∷ cell 2 0 ∷ cell 0 1 ∷ cell 2 1 ∷ cell 1 0 ∷ cell 1 1 ∷ []

abbrev plan_with : ℕ → ℕ → WindowPlan
plan_with commit buffer =
    let known = tags in
    let homes = map (λ tag. unwrap_or (position (same_cell (cell_of commit tag)) cells) 0) known in
    let graph = graph_of beside in
    record {
      cells = cells;
      homes = homes;
      windows = map (window_of graph known homes (length cells)
          buffer) (range_with_len 0 (length cells));
    }

abbrev task : Task
task = record {
  graph = graph_of beside;
  tags = tags;
  plan = plan_with 2 1;
  operations = map (λ labels. record { slot = 9; labels = labels }) ((0 ∷ []) ∷ (1 ∷ [])
      ∷ (0 ∷ 3 ∷ []) ∷ []);
  raw_slots = map (λ (o : Observable). o.slot) (observables beside);
  last_slot = 4;
}

abbrev facts : Task → List (List ℕ)
facts t = map counts t.plan.windows ++ map (needs t) (0 ∷ 1 ∷ 2 ∷ []) ++ t.raw_slots ∷ []

-- of each window its detectors, its edges and its own edges, its last slot, and its dependencies
facts_are : facts task ≡
    (21 ∷ 78 ∷ 45 ∷ 2 ∷ []) ∷ (8 ∷ 28 ∷ 13 ∷ 4 ∷ []) ∷ (20 ∷ 72 ∷ 44 ∷ 2 ∷ 0 ∷ [])
    ∷ (8 ∷ 26 ∷ 13 ∷ 4 ∷ [])
    ∷ (22 ∷ 74 ∷ 59 ∷ 3 ∷ 0 ∷ 1 ∷ 2 ∷ []) ∷ (18 ∷ 54 ∷ 54 ∷ 3 ∷ 2 ∷ 3 ∷ 4 ∷ [])
    ∷ (0 ∷ 2 ∷ 4 ∷ 5 ∷ []) ∷ (0 ∷ 4 ∷ []) ∷ (0 ∷ 3 ∷ 4 ∷ 5 ∷ []) ∷ (1 ∷ 3 ∷ 4 ∷ 4 ∷ []) ∷ []
facts_are = refl
