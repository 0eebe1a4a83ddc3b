use Rattle.std.proofs.Common.{sym, subst}
use Rattle.window_model.specs.TurnLaws.{NoDrop}
use Rattle.poison_cascade.specs.Books.{IsLeastPair, IsUnverified}
use Rattle.cascade_laws.specs.Turns.{IsCompareTurn}
use Rattle.core_state.specs.States.{CoreTable, machine_of}
use Rattle.core_state.proofs.Turns.{comparison_found}
use Rattle.core_state.proofs.state.CoreState.next_comparison.Goals as goal

pub returns : goal.returns
returns c =
    subst (λ (t : CoreTable). IsCompareTurn t.task t.retries (machine_of t)
    c.next_unverified.result) c.self.view_is
    (comparison_found _ c.self.invariant c.next_unverified.result
    (subst (λ (t : CoreTable). NoDrop (machine_of t)) (sym c.self.view_is) c.requires)
    (subst (λ b. IsLeastPair (IsUnverified b) c.next_unverified.result) c.book.ensures
    c.next_unverified.ensures))
