use Rattle.std.proofs.Common.{◌≡◌, List, Err, rules, refl, ap, ◌∙◌, arith, sym, subst}
use Rattle.release_gate.specs.Gated.{AreGates}
use Rattle.release_gate.specs.Operations.{IsTaskOf as GateTaskOf, TimedOperation}
use Rattle.schedule_reader.specs.Accepted.{NamesObservables}
use Rattle.surface_model.specs.Layout.{last_slot}
use Rattle.window_setting.specs.Settings.{AreOperations, task_for}
use Rattle.run_header.specs.Openings.{IsTaskOf}
use Rattle.run_header.specs.Refusals.{commit_of, buffer_of}
use Rattle.run_header.specs.Timings.{raws_of}
use Rattle.run_header.proofs.Slots.{last_in_range}
use Rattle.run_header.proofs.Settings.{plan_for, task_planned, told, tags_within, raws_within, raws_few, masks_within}
use Rattle.run_header.proofs.Timed.{are_operations, gate_task, task}
use Rattle.run_header.proofs.setting.setting.Goals as goal

pub parts-requires : goal.parts-requires
parts-requires c = (
  c.in-Ok.field-0.tags.items,
  plan_for c.args.sizes c.args.program.now c.in-Ok.field-0.graph c.in-Ok.field-0.tags.items
      c.deref.result.now c.commit_at-commit.result c.buffer_at-buffer.result c.in_ok-plan.plan
      c.in-Ok.ensures.graph c.in-Ok.ensures.tags c.deref.ensures.value c.in_ok-plan.ensures.ok,
  c.in-Ok.ensures.grounded,
)

pub returns-in_err-timing-clause-refused : goal.returns-in_err-timing-clause-refused
returns-in_err-timing-clause-refused c =
    let s = c.args.program.now in
    let g = c.in-Ok.field-0.graph in
    let tags = c.in-Ok.field-0.tags.items in
    let whole = c.schedule.view_is ∙ c.schedule-schedule.ensures.schedule in
    let is : c.from_residual-in_err-timing.result ≡ Err c.in_err-timing.field-0.0 = search rules in
    rw is
    (told c.args.sizes s g tags c.deref.result.now c.commit_at-commit.result
    c.buffer_at-buffer.result c.in_ok-plan.plan c.in-Ok.ensures.graph c.in-Ok.ensures.tags
    c.deref.ensures.value c.in_ok-plan.ensures.ok (raws_of s) (last_slot s)
    (c.commit_at-commit.ensures ∙ ap (commit_of c.args.sizes) whole) (c.buffer_at-buffer.ensures
    ∙ ap (buffer_of c.args.sizes) whole) refl refl c.in_err-timing.field-0.0
    (c.in_err-timing.ensures.refused (task s g tags c.in_ok-plan.plan.plan (raws_of s) (last_slot s)
    refl) (gate_task s g tags c.in_ok-plan.plan.plan (raws_of s) (last_slot s) refl)))

pub new-requires-clause-raw_slots : goal.new-requires-clause-raw_slots
new-requires-clause-raw_slots c =
    let t = c.in_ok-timing.timing in
    subst (λ (ops : List TimedOperation). GateTaskOf c.in-Ok.field-0.graph c.in_ok-plan.plan.plan
    ops (task_for c.in-Ok.field-0.graph c.in-Ok.field-0.tags.items c.in_ok-plan.plan.plan ops
    t.raws.items t.last_slot)) (sym c.in_ok-timing.ensures.ops)
    (gate_task c.args.program.now c.in-Ok.field-0.graph c.in-Ok.field-0.tags.items
    c.in_ok-plan.plan.plan t.raws.items t.last_slot c.in_ok-timing.ensures.raws)

pub new-requires-clause-gates : goal.new-requires-clause-gates
new-requires-clause-gates c =
    let t = c.in_ok-timing.timing in
    let s = c.args.program.now in
    subst (λ (ops : List TimedOperation). AreGates (task_for c.in-Ok.field-0.graph
    c.in-Ok.field-0.tags.items c.in_ok-plan.plan.plan ops t.raws.items t.last_slot) t.gates)
    (sym c.in_ok-timing.ensures.ops)
    (c.in_ok-timing.ensures.gates (task s c.in-Ok.field-0.graph c.in-Ok.field-0.tags.items
    c.in_ok-plan.plan.plan t.raws.items t.last_slot c.in_ok-timing.ensures.raws)
    (gate_task s c.in-Ok.field-0.graph c.in-Ok.field-0.tags.items c.in_ok-plan.plan.plan
    t.raws.items t.last_slot c.in_ok-timing.ensures.raws))

pub new-requires-clause-operations : goal.new-requires-clause-operations
new-requires-clause-operations c =
    let t = c.in_ok-timing.timing in
    let names = subst NamesObservables c.schedule-schedule.ensures.schedule
    c.is_read.ensures.conds in
    subst (λ (ops : List TimedOperation). AreOperations (task_for c.in-Ok.field-0.graph
    c.in-Ok.field-0.tags.items c.in_ok-plan.plan.plan ops t.raws.items t.last_slot))
    (sym c.in_ok-timing.ensures.ops)
    (are_operations c.args.program.now c.in-Ok.field-0.graph c.in-Ok.field-0.tags.items
    c.in_ok-plan.plan.plan t.raws.items t.last_slot c.in_ok-timing.ensures.raws
    c.requires.accepted names c.in_ok-timing.ensures.last)

pub new-requires-clause-tags : goal.new-requires-clause-tags
new-requires-clause-tags c = tags_within c.args.program.now c.in-Ok.field-0.tags.items
    c.in_ok-timing.timing.last_slot c.in-Ok.ensures.tags c.in_ok-timing.ensures.last

pub new-requires-clause-raws : goal.new-requires-clause-raws
new-requires-clause-raws c =
    raws_within c.args.program.now c.in_ok-timing.timing.raws.items c.in_ok-timing.timing.last_slot
    c.requires.accepted c.in_ok-timing.ensures.raws c.in_ok-timing.ensures.last

pub new-requires-clause-masks : goal.new-requires-clause-masks
new-requires-clause-masks c =
    masks_within c.args.program.now c.in-Ok.field-0.graph c.in_ok-timing.timing.raws.items
    c.masked.ensures c.requires.accepted c.in-Ok.ensures.graph c.in_ok-timing.ensures.raws

pub new-requires-clause-few_raws : goal.new-requires-clause-few_raws
new-requires-clause-few_raws c = raws_few c.args.program.now c.in_ok-timing.timing.raws.items
    c.masked.ensures c.requires.accepted c.in_ok-timing.ensures.raws

pub new-requires-clause-last : goal.new-requires-clause-last
new-requires-clause-last c = let last = last_in_range c.args.program.now c.requires.accepted in
    omega (arith, last, c.in_ok-timing.ensures.last)

pub returns-clause-task : goal.returns-clause-task
returns-clause-task c =
    let s = c.args.program.now in
    let g = c.in-Ok.field-0.graph in
    let tags = c.in-Ok.field-0.tags.items in
    let t = c.in_ok-timing.timing in
    let whole = c.schedule.view_is ∙ c.schedule-schedule.ensures.schedule in
    rw c.new.ensures
    (subst (λ (ops : List TimedOperation). IsTaskOf c.args.sizes s (task_for g tags
    c.in_ok-plan.plan.plan ops t.raws.items t.last_slot)) (sym c.in_ok-timing.ensures.ops)
    (task_planned c.args.sizes s g tags c.deref.result.now c.commit_at-commit.result
    c.buffer_at-buffer.result c.in_ok-plan.plan c.in-Ok.ensures.graph c.in-Ok.ensures.tags
    c.deref.ensures.value c.in_ok-plan.ensures.ok
    t.raws.items t.last_slot (c.commit_at-commit.ensures ∙ ap (commit_of c.args.sizes) whole)
    (c.buffer_at-buffer.ensures ∙ ap (buffer_of c.args.sizes) whole) c.in_ok-timing.ensures.raws
    c.in_ok-timing.ensures.last t.gates
    (c.in_ok-timing.ensures.gates (task s g tags c.in_ok-plan.plan.plan t.raws.items t.last_slot
    c.in_ok-timing.ensures.raws) (gate_task s g tags c.in_ok-plan.plan.plan t.raws.items
    t.last_slot c.in_ok-timing.ensures.raws))))
