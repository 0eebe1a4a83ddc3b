use Rattle.std.proofs.Common.{◌≡◌, ◌≤◌, length, true}
use Rattle.port_io.specs.Traffic.{KeepsCounts, Moves, taken}
use Rattle.script_reader.proofs.Cut.{has_no_feed}
use Rattle.script_reader.proofs.taking.take_line.Given as goal

-- what was taken so far are the bytes of the line
abbrev pub invariant-loop : goal.invariant-loop
invariant-loop g l = record {
  taken_so_far : Moves g.P.Port l.fn.port l.port (taken l.line.items);
  no_feed : has_no_feed l.line.items ≡ true;
  count : length l.line.items ≡ l.counter;
  room : l.counter ≤ 32;
  counts : KeepsCounts g.P.Port l.fn.port l.port;
}
