use Rattle.pauli_frame.proofs.Following.{commit_law}
use Rattle.pauli_frame.proofs.laws.committed_once.Goals as goal

pub returns : goal.returns
returns c = commit_law
