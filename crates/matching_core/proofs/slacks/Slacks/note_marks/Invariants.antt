use Rattle.std.proofs.Common.{◌≡◌, ◌≤◌}
use Rattle.matching_core.proofs.slacks.Slacks.note_marks.Given as goal

abbrev pub invariant-loop-vertex : goal.invariant-loop-vertex
invariant-loop-vertex l = record {
  same : l.self ≡ l.fn.self;
  few : l.entered ≤ l.vertex;
}
