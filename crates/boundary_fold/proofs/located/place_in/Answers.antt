use Rattle.std.proofs.Common.{◌∙◌, sym}
use Rattle.boundary_fold.proofs.Tabled.{found_at, missed_at}
use Rattle.boundary_fold.proofs.located.place_in.Goals as goal

pub returns-then-is_at : goal.returns-then-is_at
returns-then-is_at c =
    found_at c.args.detectors.now c.args.table.now c.args.detector c.requires.places
    (sym c.is_at.ensures ∙ c.if-is_at.true)

pub returns-else-is_at : goal.returns-else-is_at
returns-else-is_at c =
    missed_at c.args.detectors.now c.args.table.now c.args.detector c.requires.places
    (sym c.is_at.ensures ∙ c.if-is_at.false)
