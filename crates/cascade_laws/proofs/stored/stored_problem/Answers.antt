use Rattle.cascade_laws.proofs.Storing.{stored_problem_law}
use Rattle.cascade_laws.proofs.stored.stored_problem.Goals as goal

pub returns : goal.returns
returns c = stored_problem_law
