use Rattle.std.proofs.Common.{◌≡◌, Bool, Some, length, sym, ap, ◌∙◌, arith}
use Rattle.window_model.specs.Decoder.{Task}
use Rattle.core_state.specs.States.{machine_of}
use Rattle.window_core.proofs.Everywhere.{one_further}
use Rattle.window_table.specs.Readings.{told_at}
use Rattle.window_table.proofs.Told.{told_in}
use Rattle.window_table.proofs.reader.Reader.are_released.Goals as goal

pub told_of-requires : goal.told_of-requires
told_of-requires g c =
    let told = c.is_reader.ensures in
    let end = c.operation_count-op-end.ensures
    ∙ ap (λ (t : Task). length t.operations) (c.setting.ensures ∙ c.requires) in
    let below = c.loop-op-test.true in
    omega (arith, told, end, below)

pub returns-then-not-is_told_as-clause-no : goal.returns-then-not-is_told_as-clause-no
returns-then-not-is_told_as-clause-no g c _ all =
    c.is_told_as.ensures.no c.if-not-is_told_as.true
    (λ bit e. c.released.ensures ∙ all c.loop-op.op bit (sym c.told_of.ensures ∙ e))

pub loop-op-preserved : goal.loop-op-preserved
loop-op-preserved g c =
    one_further (λ o. (bit : Bool) → told_at c.args.self.now o ≡ Some bit →
    (machine_of c.args.core.now).released o ≡ Some bit) c.loop-op.op c.loop-op.invariant
    (λ bit e. sym c.released.ensures ∙ c.is_told_as.ensures.yes c.if-not-is_told_as.false bit
    (c.told_of.ensures ∙ e))

pub returns-clause-yes : goal.returns-clause-yes
returns-clause-yes g c _ op bit e =
    let within = told_in c.args.self.now.told op bit e in
    let told = c.is_reader.ensures in
    let end = c.operation_count-op-end.ensures
    ∙ ap (λ (t : Task). length t.operations) (c.setting.ensures ∙ c.requires) in
    let over = c.loop-op-test.false in
    c.loop-op.invariant op (omega (arith, within, told, end, over)) bit e
