use Rattle.shown_ways.proofs.Way.{rooted_law}
use Rattle.shown_ways.proofs.rooted.Goals as goal

pub returns : goal.returns
returns c = rooted_law
