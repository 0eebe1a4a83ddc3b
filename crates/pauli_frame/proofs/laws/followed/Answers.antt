use Rattle.pauli_frame.proofs.Following.{follow_law}
use Rattle.pauli_frame.proofs.laws.followed.Goals as goal

pub returns : goal.returns
returns c = follow_law
