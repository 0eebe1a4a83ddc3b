use Rattle.std.proofs.Common.{◌≡◌, length, map}
use Rattle.std.specs.Arc.{arc_value}
use Rattle.std.specs.List.{range_with_len}
use Rattle.window_model.specs.Parts.{part_of}
use Rattle.boundary_fold.proofs.division.parts.Given as goal

-- the parts so far, and the room of the table
abbrev pub invariant-loop-window : goal.invariant-loop-window
invariant-loop-window l = record {
  parts : map arc_value l.parts.items
      ≡ map (part_of l.graph l.plan.plan) (range_with_len 0 l.window);
  table : length l.table.items ≡ l.graph.vertices;
}
