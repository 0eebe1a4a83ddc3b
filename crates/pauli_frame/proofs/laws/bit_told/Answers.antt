use Rattle.pauli_frame.proofs.Following.{bit_law}
use Rattle.pauli_frame.proofs.laws.bit_told.Goals as goal

pub returns : goal.returns
returns c = bit_law
