use Rattle.std.proofs.Common.{◌≡◌, ◌≤◌, ◌+◌, drop, length}
use Rattle.port_io.specs.Traffic.{KeepsCounts, Moves, taken}
use Rattle.syndrome_source.specs.Headers.{IsBegun}
use Rattle.syndrome_source.proofs.text.header.Given as goal

-- what was taken so far is the text so far, and what follows decides
abbrev pub invariant-loop : goal.invariant-loop
invariant-loop g l = record {
  taken_so_far : Moves g.P.Port l.fn.port l.port (taken l.text.items);
  begun : IsBegun l.line (drop l.start l.text.items) l.text.items;
  count : length l.text.items ≡ l.counter;
  lines : l.line ≤ l.counter + 1;
  within : l.start ≤ l.counter;
  counts : KeepsCounts g.P.Port l.fn.port l.port;
}
