use Rattle.std.proofs.Common.{◌≡◌, ◌≤◌, ◌<◌, ◌+◌, ℕ, Ok, Err, ◌∙◌, refl, sym, ap, subst, arith, rules}
use Rattle.std.specs.declared.result.Result.{Result}
use Rattle.run_rounds.specs.Slots.{At}
use Rattle.run_rounds.specs.declared.release.PutError.{PutError}
use Rattle.decode_rounds.specs.Seats.{HasTold, IsAtSlot}
use Rattle.decode_rounds.proofs.Tellings.{at_slot_so, told_both, told_next, told_none}
use Rattle.decode_rounds.proofs.telling.tell_due.Goals as goal

pub loop-op-init : goal.loop-op-init
loop-op-init g c = record {
  rows = refl;
  told = λ op l due. absurd (omega (arith, l));
  has = told_none g.Z.NamesSetting.setting c.args.seat.now.rows c.args.seat.now.readings
      (g.P.Port.left c.args.port.now) (g.P.Port.tape c.args.port.now);
  left = refl;
  counts = (omega arith, omega arith);
}

pub tell_where_due-requires-clause-at_slot : goal.tell_where_due-requires-clause-at_slot
tell_where_due-requires-clause-at_slot g c =
    let has = c.loop-op.invariant.has in
    subst (λ at. IsAtSlot g.Z.NamesSetting.setting at c.loop-op.seat.readings)
    (sym c.loop-op.invariant.rows)
    (at_slot_so g.Z.NamesSetting.setting c.args.seat.now.rows c.args.seat.now.readings
    c.loop-op.seat.readings has.given has.kept c.requires.at_slot)

pub loop-op-preserved : goal.loop-op-preserved
loop-op-preserved g c =
    let task = g.Z.NamesSetting.setting in
    let inv = c.loop-op.invariant in
    let done = c.in_ok-tell_where_due.ensures in
    let now = subst (λ (at : At). HasTold {A = Unit {0}} task at c.loop-op.seat.readings
    c.tell_where_due.new.seat.readings (g.P.Port.left c.loop-op.port)
    (g.P.Port.left c.tell_where_due.new.port) (g.P.Port.tape c.loop-op.port)
    (g.P.Port.tape c.tell_where_due.new.port) (Ok tt)) inv.rows done.has in
    record {
      rows = done.rows ∙ inv.rows;
      told = told_next task c.loop-op.seat.readings c.tell_where_due.new.seat.readings c.args.slot
          c.loop-op.op inv.told now.kept done.told;
      has = told_both task c.args.seat.now.rows c.args.seat.now.readings c.loop-op.seat.readings
          c.tell_where_due.new.seat.readings _ _ _ _ _ _ (Ok tt) inv.has now;
      left = done.left ∙ inv.left;
      counts = (
        let k = inv.counts.0 in let l = done.counts.0 in omega (arith, k, l),
        let k = inv.counts.1 in let l = done.counts.1 in omega (arith, k, l),
      );
    }

pub returns-in_err-tell_where_due-clause-has : goal.returns-in_err-tell_where_due-clause-has
returns-in_err-tell_where_due-clause-has g c =
    let task = g.Z.NamesSetting.setting in
    let inv = c.loop-op.invariant in
    let done = c.in_err-tell_where_due.ensures in
    let error = c.in_err-tell_where_due.field-0.0 in
    let is : c.from_residual.result ≡ Err error = search rules in
    let now = subst (λ (at : At). HasTold {A = Unit {0}} task at c.loop-op.seat.readings
    c.tell_where_due.new.seat.readings (g.P.Port.left c.loop-op.port)
    (g.P.Port.left c.tell_where_due.new.port) (g.P.Port.tape c.loop-op.port)
    (g.P.Port.tape c.tell_where_due.new.port) (Err error)) inv.rows done.has in
    rw is (told_both {A = Unit {0}} task c.args.seat.now.rows c.args.seat.now.readings
    c.loop-op.seat.readings c.tell_where_due.new.seat.readings _ _ _ _ _ _ (Err error) inv.has now)
