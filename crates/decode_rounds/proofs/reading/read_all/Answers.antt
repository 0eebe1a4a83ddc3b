use Rattle.std.proofs.Common.{◌≡◌, ◌≤◌, ◌+◌, List, Some, Ok, Err, ◌∙◌, refl, sym, ap, subst, arith}
use Rattle.surface_model.specs.Layout.{last_slot}
use Rattle.surface_model.specs.Schedules.{Schedule}
use Rattle.report_model.specs.Tasks.{HasTask}
use Rattle.run_rounds.specs.Slots.{At, at_first}
use Rattle.decode_rounds.specs.Seats.{HasEnded, HasTold, IsAtSlot, IsSeated}
use Rattle.decode_rounds.proofs.AllRows.{at_slot_start, ended_all, seated_start}
use Rattle.decode_rounds.proofs.reading.read_all.Goals as goal

pub loop-slot-init : goal.loop-slot-init
loop-slot-init g c =
    let task = g.Z.NamesSetting.setting in
    let s = c.args.seat.now.rows.schedule in
    let at = c.requires.begun.at_start in
    record {
      schedule = refl;
      slot = ap (λ (a : At). a.slot) at;
      at_slot = subst (λ r. IsAtSlot task c.args.seat.now.rows r) (sym c.requires.none)
          (subst (λ a. IsAtSlot task a _) (sym at) (at_slot_start task s));
      seated = subst (λ r. IsSeated task c.args.seat.now.rows (g.P.Port.left c.args.port.now)
          (g.P.Port.left c.args.port.now) (g.P.Port.tape c.args.port.now)
          (g.P.Port.tape c.args.port.now) r) (sym c.requires.none)
          (subst (λ a. IsSeated task a (g.P.Port.left c.args.port.now)
          (g.P.Port.left c.args.port.now) (g.P.Port.tape c.args.port.now)
          (g.P.Port.tape c.args.port.now) _) (sym at)
          (seated_start task s (g.P.Port.left c.args.port.now) (g.P.Port.tape c.args.port.now)));
      counts = (omega arith, omega arith);
    }

pub tell_due-requires-clause-task : goal.tell_due-requires-clause-task
tell_due-requires-clause-task g c =
    subst (λ s. HasTask s g.Z.NamesSetting.setting) (sym c.loop-slot.invariant.schedule)
    c.requires.begun.task_is

pub bring_next-requires-clause-task : goal.bring_next-requires-clause-task
bring_next-requires-clause-task g c =
    subst (λ s. HasTask s g.Z.NamesSetting.setting)
    (sym (ap (λ (a : At). a.schedule) c.tell_due.ensures.rows ∙ c.loop-slot.invariant.schedule))
    c.requires.begun.task_is

pub loop-slot-preserved : goal.loop-slot-preserved
loop-slot-preserved g c =
    let task = g.Z.NamesSetting.setting in
    let inv = c.loop-slot.invariant in
    let told = c.in_default.ensures in
    let brought = c.in_default-bring_next.ensures.brought in
    let seated = told.has.seated (g.P.Port.left c.args.port.now) (g.P.Port.tape c.args.port.now)
    inv.seated in
    let seated_here = subst (λ a. IsSeated task a (g.P.Port.left c.args.port.now)
    (g.P.Port.left c.tell_due.new.port) (g.P.Port.tape c.args.port.now)
    (g.P.Port.tape c.tell_due.new.port) c.tell_due.new.seat.readings) (sym told.rows) seated in
    record {
      schedule = brought.schedule ∙ ap (λ (a : At). a.schedule) told.rows ∙ inv.schedule;
      slot = brought.slot ∙ ap (λ (a : At). a.slot + 1) told.rows ∙ ap (λ n. n + 1) inv.slot;
      at_slot = brought.at_slot;
      seated = brought.seated (g.P.Port.left c.args.port.now) (g.P.Port.tape c.args.port.now)
          seated_here;
      counts = (
        let a = inv.counts.0 in let b = told.counts.0 in
            let d = c.in_default-bring_next.ensures.counts.0 in omega (arith, a, b, d),
        let a = inv.counts.1 in let b = told.counts.1 in
            let d = c.in_default-bring_next.ensures.counts.1 in omega (arith, a, b, d),
      );
    }

pub returns-clause-stopped : goal.returns-clause-stopped
returns-clause-stopped g c input given =
    let task = g.Z.NamesSetting.setting in
    let inv = c.loop-slot.invariant in
    let last = ap last_slot inv.schedule in
    let all : c.loop-slot.seat.rows.slot ≡ last_slot c.loop-slot.seat.rows.schedule + 1 = omega (
      arith,
      last,
      inv.slot,
      c.loop-slot-test.false,
      c.loop-slot.auto.slot-end,
      c.slots-slot-end.ensures,
    ) in
    subst (λ s. HasEnded task s (g.P.Port.left c.args.port.now) (g.P.Port.left c.finish.new.port)
    (g.P.Port.tape c.args.port.now) (g.P.Port.tape c.finish.new.port) c.loop-slot.seat.readings
    c.finish.result) inv.schedule
    (ended_all task c.requires.setting c.loop-slot.seat.rows
    (subst (λ s. HasTask s task) (sym inv.schedule) c.requires.begun.task_is)
    c.loop-slot.seat.readings inv.at_slot all (g.P.Port.left c.args.port.now)
    (g.P.Port.left c.loop-slot.port) (g.P.Port.left c.finish.new.port)
    (g.P.Port.tape c.args.port.now) (g.P.Port.tape c.loop-slot.port)
    (g.P.Port.tape c.finish.new.port) inv.seated input given c.finish.result
    c.finish.ensures.end c.finish.ensures.refused)
