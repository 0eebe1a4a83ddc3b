use Rattle.std.proofs.Common.{◌≡◌}
use Rattle.port_io.specs.Traffic.{KeepsCounts}
use Rattle.decode_rounds.specs.Seats.{IsAtSlot, IsSeated}
use Rattle.decode_rounds.proofs.reading.read_all.Given as goal

-- the rows of the slots so far were read and brought, and what was told is put
abbrev pub invariant-loop-slot : goal.invariant-loop-slot
invariant-loop-slot g l = record {
  schedule : l.seat.rows.schedule ≡ l.fn.seat.rows.schedule;
  slot : l.seat.rows.slot ≡ l.slot;
  at_slot : IsAtSlot g.Z.NamesSetting.setting l.seat.rows l.seat.readings;
  seated : IsSeated g.Z.NamesSetting.setting l.seat.rows (g.P.Port.left l.fn.port)
      (g.P.Port.left l.port) (g.P.Port.tape l.fn.port) (g.P.Port.tape l.port) l.seat.readings;
  counts : KeepsCounts g.P.Port l.fn.port l.port;
}
