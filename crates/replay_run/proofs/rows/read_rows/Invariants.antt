use Rattle.std.proofs.Common.{◌≡◌}
use Rattle.port_io.specs.Traffic.{KeepsCounts}
use Rattle.replay_run.specs.Playings.{AreReadTo}
use Rattle.replay_run.proofs.rows.read_rows.Given as goal

-- the rows of the slots so far were read
abbrev pub invariant-loop-slot : goal.invariant-loop-slot
invariant-loop-slot g l = record {
  so_far : AreReadTo l.reader (g.P.Port.left l.fn.port) (g.P.Port.left l.port)
      (g.P.Port.tape l.fn.port) (g.P.Port.tape l.port) l.rows.items;
  schedule : l.reader.schedule ≡ l.fn.reader.schedule;
  slot : l.reader.slot ≡ l._slot;
  counts : KeepsCounts g.P.Port l.fn.port l.port;
}
