use Rattle.std.proofs.Common.{◌≢◌, ◌<◌, ℕ, [], All, length, map, sym, ap, ◌∙◌, subst}
use Rattle.std.proofs.lemmas.List.{length-map}
use Rattle.release_gate.specs.Operations.{IsTaskOf, TimedOperation}
use Rattle.report_model.specs.Tasks.{labels_of}
use Rattle.schedule_reader.specs.Accepted.{NamesObservables}
use Rattle.surface_model.specs.Measurements.{Observable, observables}
use Rattle.surface_model.specs.Schedules.{CondLine, Schedule}
use Rattle.run_header.specs.Timings.{IsHeldUp, of_gating, raws_of, timed_of}
use Rattle.run_header.proofs.Settings.{raws_are}
use Rattle.run_header.proofs.Timed.{held, some_labels}
use Rattle.run_header.proofs.timing.timing.Goals as goal

pub operations-requires : goal.operations-requires
operations-requires c =
    let s = c.args.program.now in
    let raws = c.deref-2.result.now in
    let conds_are = c.deref.ensures.value ∙ ap (λ (x : Schedule). x.conds) (c.schedule.view_is
    ∙ c.schedule-schedule.ensures.schedule) in
    let names = subst NamesObservables c.schedule-schedule.ensures.schedule
    c.is_read.ensures.conds in
    let are = c.deref-2.ensures.value ∙ raws_are s c.args.measured.now c.in_ok-raws.raws.items
    c.requires.measured c.in_ok-raws.ensures in
    let long = sym (ap length are ∙ length-map (observables s) (λ (o : Observable). o.slot)) in
    subst (All (λ (x : CondLine). All (λ l. l < length raws) x.labels)) (sym conds_are)
    (subst (λ (n : ℕ). All (λ (x : CondLine). All (λ l. l < n) x.labels) s.conds) long names.known)

pub gates-requires-clause-named : goal.gates-requires-clause-named
gates-requires-clause-named c =
    let conds_are = c.deref.ensures.value ∙ ap (λ (x : Schedule). x.conds) (c.schedule.view_is
    ∙ c.schedule-schedule.ensures.schedule) in
    let names = subst NamesObservables c.schedule-schedule.ensures.schedule
    c.is_read.ensures.conds in
    subst (All (λ (op : TimedOperation). op.labels ≢ [])) (sym (c.deref-3.ensures.value
    ∙ c.in_ok-ops.ensures))
    (some_labels c.deref-2.result.now c.deref.result.now
    (subst (All (λ (x : CondLine). x.labels ≢ [])) (sym conds_are) names.some))

pub returns-in-Ok-clause-raws : goal.returns-in-Ok-clause-raws
returns-in-Ok-clause-raws c = raws_are c.args.program.now c.args.measured.now
    c.in_ok-raws.raws.items c.requires.measured c.in_ok-raws.ensures

pub returns-in-Ok-clause-ops : goal.returns-in-Ok-clause-ops
returns-in-Ok-clause-ops c =
    let s = c.args.program.now in
    let conds_are = c.deref.ensures.value ∙ ap (λ (x : Schedule). x.conds) (c.schedule.view_is
    ∙ c.schedule-schedule.ensures.schedule) in
    let are = c.deref-2.ensures.value ∙ raws_are s c.args.measured.now c.in_ok-raws.raws.items
    c.requires.measured c.in_ok-raws.ensures in
    c.in_ok-ops.ensures ∙ ap (λ rs. map (timed_of rs) c.deref.result.now) are
    ∙ ap (map (timed_of (raws_of s))) conds_are

pub returns-in-Ok-clause-gates : goal.returns-in-Ok-clause-gates
returns-in-Ok-clause-gates c task t =
    let s = c.args.program.now in
    let conds_are = c.deref.ensures.value ∙ ap (λ (x : Schedule). x.conds) (c.schedule.view_is
    ∙ c.schedule-schedule.ensures.schedule) in
    let are = c.deref-2.ensures.value ∙ raws_are s c.args.measured.now c.in_ok-raws.raws.items
    c.requires.measured c.in_ok-raws.ensures in
    let ops_are = c.deref-3.ensures.value ∙ c.in_ok-ops.ensures ∙ ap (λ rs.
    map (timed_of rs) c.deref.result.now) are ∙ ap (map (timed_of (raws_of s))) conds_are in
    c.in-Ok.ensures.ok task (subst (λ ops. IsTaskOf c.args.graph.now c.args.plan.now.plan ops task)
    (sym ops_are) t)

pub returns-in-Err-clause-refused : goal.returns-in-Err-clause-refused
returns-in-Err-clause-refused c task t =
    let s = c.args.program.now in
    let conds_are = c.deref.ensures.value ∙ ap (λ (x : Schedule). x.conds) (c.schedule.view_is
    ∙ c.schedule-schedule.ensures.schedule) in
    let are = c.deref-2.ensures.value ∙ raws_are s c.args.measured.now c.in_ok-raws.raws.items
    c.requires.measured c.in_ok-raws.ensures in
    let ops_are = c.deref-3.ensures.value ∙ c.in_ok-ops.ensures ∙ ap (λ rs.
    map (timed_of rs) c.deref.result.now) are ∙ ap (map (timed_of (raws_of s))) conds_are in
    let told = c.held_up.ensures ∙ ap (λ (x : Schedule). of_gating (labels_of x) c.in-Err.error)
    c.schedule-schedule.ensures.schedule in
    subst (IsHeldUp s task) (sym told)
    (held s task c.in-Err.error (c.in-Err.ensures.err task
    (subst (λ ops. IsTaskOf c.args.graph.now c.args.plan.now.plan ops task) (sym ops_are) t)))
