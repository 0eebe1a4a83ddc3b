use Rattle.std.proofs.Common.{◌≡◌, ◌<◌, arith, length, is_some, IsSome, sym, ap, ◌∙◌, subst}
use Rattle.std.proofs.lemmas.Bool.{false≢true}
use Rattle.window_model.specs.Decoder.{Task}
use Rattle.core_state.specs.States.{CoreTable, machine_of}
use Rattle.window_core.proofs.Everywhere.{one_further}
use Rattle.window_core.proofs.machine.Core.all_released.Goals as goal

pub returns-then-is_none-clause-no : goal.returns-then-is_none-clause-no
returns-then-is_none-clause-no c _ all =
    let here = subst (λ (t : CoreTable). c.released.result
    ≡ (machine_of t).released c.loop-op.op) c.self.view_is c.released.ensures in
    false≢true (sym (c.if-is_none.ensures) ∙ ap is_some here ∙ all c.loop-op.op
    (subst (λ n. c.loop-op.op < n) (c.operation_count-op-end.ensures
    ∙ ap (λ (t : Task). length t.operations) c.setting.ensures) c.loop-op-test.true))

pub loop-op-preserved : goal.loop-op-preserved
loop-op-preserved c =
    let here = subst (λ (t : CoreTable). c.released.result
    ≡ (machine_of t).released c.loop-op.op) c.self.view_is c.released.ensures in
    one_further (λ o. IsSome ((machine_of c.args.self.now).released o)) c.loop-op.op
    c.loop-op.invariant (sym (ap is_some here) ∙ c.if-is_none.ensures)

pub returns-clause-yes : goal.returns-clause-yes
returns-clause-yes c _ op l =
    let count = c.operation_count-op-end.ensures
    ∙ ap (λ (t : Task). length t.operations) c.setting.ensures in
    let over = c.loop-op-test.false in
    c.loop-op.invariant op (omega (arith, l, count, over))
