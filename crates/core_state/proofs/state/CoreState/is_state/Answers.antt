use Rattle.std.proofs.Common.{subst}
use Rattle.core_state.specs.States.{IsState}
use Rattle.core_state.proofs.Follows.{is_state_of}
use Rattle.core_state.proofs.state.CoreState.is_state.Goals as goal

pub returns : goal.returns
returns c = subst IsState c.self.view_is (is_state_of _ c.self.invariant)
