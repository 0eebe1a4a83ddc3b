use Rattle.std.specs.List.Sorted.{IsStrictlyIncreasing}
use Rattle.std.proofs.Common.{◌<◌, length, sym, ap, ◌∙◌, subst, arith}
use Rattle.window_model.specs.Decoder.{Task, needs}
use Rattle.window_setting.specs.Settings.{task_for}
use Rattle.window_setting.proofs.Named.{needs_count, needs_read, needs_rise}
use Rattle.window_setting.proofs.setting.Setting.needs.Goals as goal

pub needs-requires : goal.needs-requires
needs-requires c =
    let within = subst (λ (t : Task). c.args.op < length t.operations) (sym c.self.view_is)
    c.requires in
    omega (arith, within, c.self.invariant.gated.each_needs)

pub returns-clause-value : goal.returns-clause-value
returns-clause-value c =
    let d = c.self.inside in
    let task = task_for d.graph d.tags.items d.plan.plan d.ops.items d.raws.items d.last_slot in
    let within = subst (λ (t : Task). c.args.op < length t.operations) (sym c.self.view_is)
    c.requires in
    needs_read task d.gates c.args.op c.needs.result.now c.self.invariant.gated within
    c.needs.ensures ∙ ap (λ (t : Task). needs t c.args.op) c.self.view_is

pub returns-clause-ascending : goal.returns-clause-ascending
returns-clause-ascending c = subst IsStrictlyIncreasing (sym (returns-clause-value c))
    (needs_rise c.args.self.now c.args.op)

pub returns-clause-few : goal.returns-clause-few
returns-clause-few c = let is = ap length (returns-clause-value c) in let few =
    needs_count c.args.self.now c.args.op in omega (arith, is, few)
