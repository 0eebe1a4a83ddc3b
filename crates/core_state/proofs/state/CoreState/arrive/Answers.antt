use Rattle.std.proofs.Common.{sym, subst, arith}
use Rattle.window_model.specs.Speculation.{Arrived, IsEnabled}
use Rattle.core_state.specs.States.{CoreTable, machine_of}
use Rattle.core_state.proofs.Follows.{from_view, has_room}
use Rattle.core_state.proofs.Arrived.{arrived_goes, next_slot, slot_values, slot_raws}
use Rattle.core_state.proofs.state.CoreState.arrive.Goals as goal

pub write_values-requires-clause-slot : goal.write_values-requires-clause-slot
write_values-requires-clause-slot c =
    let f = c.args.folded.now in
    let may = subst (λ (t : CoreTable). IsEnabled t.task t.retries (machine_of t)
    (Arrived f.slot f.defects f.raws)) (sym c.self.view_is) c.requires in
    may.0.in_range

pub write_values-requires-clause-values : goal.write_values-requires-clause-values
write_values-requires-clause-values c =
    let f = c.args.folded.now in
    let may = subst (λ (t : CoreTable). IsEnabled t.task t.retries (machine_of t)
    (Arrived f.slot f.defects f.raws)) (sym c.self.view_is) c.requires in
    slot_values _ c.self.invariant f.slot f.defects f.raws may

pub write_values-requires-clause-into : goal.write_values-requires-clause-into
write_values-requires-clause-into c = c.self.invariant.each_value

pub write_raws-requires-clause-slot : goal.write_raws-requires-clause-slot
write_raws-requires-clause-slot c =
    let f = c.args.folded.now in
    let may = subst (λ (t : CoreTable). IsEnabled t.task t.retries (machine_of t)
    (Arrived f.slot f.defects f.raws)) (sym c.self.view_is) c.requires in
    may.0.in_range

pub write_raws-requires-clause-raws : goal.write_raws-requires-clause-raws
write_raws-requires-clause-raws c =
    let f = c.args.folded.now in
    let may = subst (λ (t : CoreTable). IsEnabled t.task t.retries (machine_of t)
    (Arrived f.slot f.defects f.raws)) (sym c.self.view_is) c.requires in
    slot_raws _ c.self.invariant f.slot f.defects f.raws may

pub write_raws-requires-clause-into : goal.write_raws-requires-clause-into
write_raws-requires-clause-into c = c.self.invariant.each_raw

pub note-requires : goal.note-requires
note-requires c =
    let f = c.args.folded.now in
    has_room _ c.self.invariant (Arrived f.slot f.defects f.raws)
    (subst (λ (t : CoreTable). IsEnabled t.task t.retries (machine_of t)
    (Arrived f.slot f.defects f.raws)) (sym c.self.view_is) c.requires)

pub overflow_add-self : goal.overflow_add-self
overflow_add-self c =
    let f = c.args.folded.now in
    let may = subst (λ (t : CoreTable). IsEnabled t.task t.retries (machine_of t)
    (Arrived f.slot f.defects f.raws)) (sym c.self.view_is) c.requires in
    let next = next_slot _ c.self.invariant f.slot f.defects f.raws may in
    let low = may.0.in_range in
    let last = c.self.invariant.setting.fit.last_in in
    omega (arith, next, low, last)

pub invariant_of-self : goal.invariant_of-self
invariant_of-self c =
    let f = c.args.folded.now in
    let may = subst (λ (t : CoreTable). IsEnabled t.task t.retries (machine_of t)
    (Arrived f.slot f.defects f.raws)) (sym c.self.view_is) c.requires in
    rw c.note.ensures
    (arrived_goes _ c.self.invariant f.slot f.defects f.raws may c.write_values.new.into
    c.write_raws.new.into
    c.write_values.ensures.len c.write_raws.ensures.len
    c.write_values.ensures.brought c.write_raws.ensures.brought c.write_values.ensures.others
    c.write_raws.ensures.others).parts

pub returns : goal.returns
returns c =
    let f = c.args.folded.now in
    let may = subst (λ (t : CoreTable). IsEnabled t.task t.retries (machine_of t)
    (Arrived f.slot f.defects f.raws)) (sym c.self.view_is) c.requires in
    from_view _ _ _ _ _ c.self.view_is
    (rw c.note.ensures
    (arrived_goes _ c.self.invariant f.slot f.defects f.raws may c.write_values.new.into
    c.write_raws.new.into
    c.write_values.ensures.len c.write_raws.ensures.len
    c.write_values.ensures.brought c.write_raws.ensures.brought c.write_values.ensures.others
    c.write_raws.ensures.others).happened)
