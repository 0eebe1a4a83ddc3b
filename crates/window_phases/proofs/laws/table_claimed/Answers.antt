use Rattle.window_phases.proofs.Tables.{claimed_table_law}
use Rattle.window_phases.proofs.laws.table_claimed.Goals as goal

pub returns : goal.returns
returns c = claimed_table_law
