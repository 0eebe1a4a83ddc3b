use Rattle.std.proofs.Common.{◌≡◌, Some, subst, slice_get}
use Rattle.core_state.specs.States.{machine_of}
use Rattle.script_run.proofs.act.arrive.Goals as goal

pub returns-clause-task : goal.returns-clause-task
returns-clause-task c =
    (c.bring.ensures c.requires.0 (c.requires.1.brings (machine_of c.args.core.now).arrived
    c.row_of.result.now (subst (λ t. slice_get c.args.rows.now t ≡ Some c.row_of.result.now)
    c.arrived-slot.ensures c.row_of.ensures))).happened.task
