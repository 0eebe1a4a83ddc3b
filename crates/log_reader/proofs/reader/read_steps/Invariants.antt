use Rattle.std.proofs.Common.{◌≡◌, ◌≤◌, ◌+◌, ◌++◌, All, length, map}
use Rattle.report_model.specs.Logs.{IsLogged}
use Rattle.log_reader.specs.Steps.{step_of}
use Rattle.log_reader.proofs.Outside.{so_far}
use Rattle.log_reader.proofs.reader.read_steps.Given as goal

-- the lines so far are those of the steps so far
abbrev pub invariant-loop-line : goal.invariant-loop-line
invariant-loop-line l = record {
  text : l.fn.text ≡ so_far (map step_of l.steps.items) ++ l.left;
  each : All IsLogged (map step_of l.steps.items);
  count : l.number ≡ length l.steps.items + 2;
  room : l.number + length l.left ≤ length l.fn.text;
}

abbrev pub decreases-loop-line : goal.decreases-loop-line
decreases-loop-line l = length l.left
