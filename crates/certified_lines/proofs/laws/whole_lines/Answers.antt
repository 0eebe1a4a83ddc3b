use Rattle.certified_lines.proofs.Lines.{whole_lines_law}
use Rattle.certified_lines.proofs.laws.whole_lines.Goals as goal

pub returns : goal.returns
returns c = whole_lines_law
