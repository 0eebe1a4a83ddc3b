use Rattle.cascade_laws.proofs.FirstTurns.{first_comparison_law}
use Rattle.cascade_laws.proofs.turns.first_comparison.Goals as goal

pub returns : goal.returns
returns c = first_comparison_law
