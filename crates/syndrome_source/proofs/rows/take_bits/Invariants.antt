use Rattle.std.proofs.Common.{◌≡◌, ◌≤◌, length, take}
use Rattle.port_io.specs.Traffic.{KeepsCounts, Moves, taken}
use Rattle.syndrome_source.specs.Rows.{written}
use Rattle.syndrome_source.proofs.rows.take_bits.Given as goal

-- what was taken so far are the bits so far
abbrev pub invariant-loop-at : goal.invariant-loop-at
invariant-loop-at g l = record {
  taken_so_far : Moves g.P.Port l.fn.port l.port (taken (written (take l.at l.row)));
  size : length l.row ≡ l.count;
  counts : KeepsCounts g.P.Port l.fn.port l.port;
}
