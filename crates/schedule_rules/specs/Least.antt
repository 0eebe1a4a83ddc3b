-- The least of some lines, and the rule that is reported.
use Rattle.std.specs.Prelude.{ℕ, List, fold, min, Option, Some, None}
use Rattle.surface_model.specs.declared.RuleFault.{RuleFault}
use Rattle.surface_model.specs.declared.RuleFault.TheVariants.{TileTaken, BadLife, NotNeighbours, MergeOutsideLife, MergesTouch, BadCond, Missing}
use Rattle.surface_model.specs.Rules.{RuleBroken}
use Rattle.schedule_reader.specs.declared.fault.FaultKind.{FaultKind}
use Rattle.schedule_reader.specs.declared.fault.FaultKind.TheVariants.{TileTaken as ReportedTileTaken, BadLife as ReportedBadLife, NotNeighbours as ReportedNotNeighbours, MergeOutsideLife as ReportedMergeOutsideLife, MergesTouch as ReportedMergesTouch, BadCond as ReportedBadCond, Missing as ReportedMissing}
use Rattle.schedule_reader.specs.declared.fault.ScheduleFault.{ScheduleFault}

-- the lesser of a line and the least so far
abbrev pub lesser : Option ℕ → ℕ → Option ℕ
lesser None line = Some line
lesser (Some least) line = Some (min least line)

abbrev pub least : List ℕ → Option ℕ
least lines = fold lesser None lines

abbrev pub reported_kind : RuleFault → FaultKind
reported_kind TileTaken = ReportedTileTaken
reported_kind BadLife = ReportedBadLife
reported_kind NotNeighbours = ReportedNotNeighbours
reported_kind MergeOutsideLife = ReportedMergeOutsideLife
reported_kind MergesTouch = ReportedMergesTouch
reported_kind BadCond = ReportedBadCond
reported_kind Missing = ReportedMissing

abbrev pub reported : RuleBroken → ScheduleFault
reported broken = record { line = broken.line; kind = reported_kind broken.kind }
