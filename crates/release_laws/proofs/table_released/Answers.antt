use Rattle.release_laws.proofs.Following.{released_table_law}
use Rattle.release_laws.proofs.table_released.Goals as goal

pub returns : goal.returns
returns c = released_table_law
