use Rattle.window_phases.proofs.Tables.{left_table_law}
use Rattle.window_phases.proofs.laws.table_left.Goals as goal

pub returns : goal.returns
returns c = left_table_law
