use Rattle.certified_lines.proofs.Lines.{one_line_law}
use Rattle.certified_lines.proofs.laws.one_line.Goals as goal

pub returns : goal.returns
returns c = one_line_law
