use Rattle.std.proofs.Common.{◌≡◌, take}
use Rattle.port_io.specs.Traffic.{KeepsCounts, Moves, taken}
use Rattle.replay_model.specs.Scripts.{due_line}
use Rattle.script_reader.proofs.taking.take_due.Given as goal

-- what was taken so far is due
abbrev pub invariant-loop-due : goal.invariant-loop-due
invariant-loop-due g l = record {
  items : l.due-items ≡ due_line;
  taken_so_far : Moves g.P.Port l.fn.port l.port (taken (take l.due-index due_line));
  counts : KeepsCounts g.P.Port l.fn.port l.port;
}
