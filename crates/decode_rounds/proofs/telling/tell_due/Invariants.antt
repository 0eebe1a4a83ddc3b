use Rattle.std.proofs.Common.{◌≡◌, ◌<◌, ◌≤◌, ℕ, Ok, length, IsSome}
use Rattle.port_io.specs.Traffic.{KeepsCounts}
use Rattle.window_model.specs.Decoder.{operation_at}
use Rattle.window_table.specs.Readings.{told_at}
use Rattle.decode_rounds.specs.Seats.{HasTold}
use Rattle.decode_rounds.proofs.telling.tell_due.Given as goal

-- those before the next that are due were told
abbrev pub invariant-loop-op : goal.invariant-loop-op
invariant-loop-op g l = record {
  rows : l.seat.rows ≡ l.fn.seat.rows;
  told : (op : ℕ) → op < l.op → (operation_at g.Z.NamesSetting.setting op).slot ≤ l.slot →
      IsSome (told_at l.seat.readings op);
  has : HasTold {A = Unit {0}} g.Z.NamesSetting.setting l.fn.seat.rows l.fn.seat.readings
      l.seat.readings (g.P.Port.left l.fn.port) (g.P.Port.left l.port) (g.P.Port.tape l.fn.port)
      (g.P.Port.tape l.port) (Ok tt);
  left : g.P.Port.left l.port ≡ g.P.Port.left l.fn.port;
  counts : KeepsCounts g.P.Port l.fn.port l.port;
}
