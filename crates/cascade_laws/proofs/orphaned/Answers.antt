use Rattle.cascade_laws.proofs.Laws.{orphan_law}
use Rattle.cascade_laws.proofs.orphaned.Goals as goal

pub returns : goal.returns
returns c = orphan_law
