use Rattle.std.proofs.Common.{◌<◌, arith, sym, subst}
use Rattle.window_model.specs.Windows.{window_count}
use Rattle.window_core.proofs.Awaited.{covered}
use Rattle.window_core.proofs.machine.Core.current.Goals as goal

pub running_in-requires : goal.running_in-requires
running_in-requires c =
    let same = c.tickets.ensures in
    let less = c.if-ticket-tickets.false in
    let its = covered c.self.inside.state c.is_state.ensures c.args.ticket
    (omega (arith, same, less)) in
    subst (λ w. w < window_count c.self.inside.state.task.plan) (sym c.window_of.ensures)
    its.in_range
