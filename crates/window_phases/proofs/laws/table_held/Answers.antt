use Rattle.window_phases.proofs.Tables.{held_table_law}
use Rattle.window_phases.proofs.laws.table_held.Goals as goal

pub returns : goal.returns
returns c = held_table_law
