use Rattle.std.proofs.Common.{ap, ◌∙◌}
use Rattle.core_state.specs.States.{CoreTable, machine_of}
use Rattle.window_table.proofs.Claims.{claims_are}
use Rattle.window_table.proofs.finish.tickets_of.Goals as goal

pub returns : goal.returns
returns c =
    c.tickets.ensures ∙ ap (λ (t : CoreTable). (machine_of t).tickets) c.state.ensures
    ∙ claims_are c.args.core.now
