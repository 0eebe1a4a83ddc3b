use Rattle.window_phases.proofs.Tables.{committed_table_law}
use Rattle.window_phases.proofs.laws.table_committed.Goals as goal

pub returns : goal.returns
returns c = committed_table_law
