use Rattle.window_phases.proofs.Tables.{verified_table_law}
use Rattle.window_phases.proofs.laws.table_verified.Goals as goal

pub returns : goal.returns
returns c = verified_table_law
