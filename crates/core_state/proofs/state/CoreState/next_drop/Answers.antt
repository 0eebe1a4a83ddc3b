use Rattle.std.proofs.Common.{subst}
use Rattle.poison_cascade.specs.Books.{IsLeast, IsOrphan}
use Rattle.cascade_laws.specs.Turns.{IsDropTurn}
use Rattle.core_state.specs.States.{CoreTable, machine_of}
use Rattle.core_state.proofs.Turns.{drop_found}
use Rattle.core_state.proofs.state.CoreState.next_drop.Goals as goal

pub returns : goal.returns
returns c =
    subst (λ (t : CoreTable). IsDropTurn t.task t.retries (machine_of t) c.next_orphan.result)
    c.self.view_is
    (drop_found _ c.self.invariant c.next_orphan.result (subst (λ b.
    IsLeast (IsOrphan b) c.next_orphan.result) c.book.ensures c.next_orphan.ensures))
