use Rattle.run_header.proofs.Heads.{one_header, header_stands, header_sized}
use Rattle.run_header.proofs.laws.headed.Goals as goal

pub returns-clause-one : goal.returns-clause-one
returns-clause-one c = one_header

pub returns-clause-stands : goal.returns-clause-stands
returns-clause-stands c = header_stands

pub returns-clause-sized : goal.returns-clause-sized
returns-clause-sized c = header_sized
