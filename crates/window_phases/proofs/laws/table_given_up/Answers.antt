use Rattle.window_phases.proofs.Tables.{given_up_table_law}
use Rattle.window_phases.proofs.laws.table_given_up.Goals as goal

pub returns : goal.returns
returns c = given_up_table_law
