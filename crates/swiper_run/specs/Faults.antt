-- The faults that a run tells, as the definitions name them.
use Rattle.std.specs.Prelude.{ℕ, List, codes}
use Rattle.schedule_reader.specs.declared.fault.FaultKind.{FaultKind}
use Rattle.schedule_reader.specs.declared.fault.FaultKind.TheVariants as told
use Rattle.syndrome_source.specs.Rows.{kind_of}
use Rattle.report_model.specs.Faults as model
use Rattle.run_header.specs.Openings as opening
use Rattle.swiper_run.specs.declared.fault.Fault.{Fault}
use Rattle.swiper_run.specs.declared.fault.Fault.TheVariants.{Refused, Row, Ended, Read}

abbrev pub fault_of : Fault → model.Fault
fault_of (Refused refusal) = opening.fault_of refusal
fault_of (Row line kind) = model.OfRow (kind_of kind) line
fault_of (Ended line) = model.Ended line
fault_of Read = model.Read

-- a fault's number and name
abbrev pub kind_text : FaultKind → List ℕ
kind_text told.BadLine = codes "S1 BadLine"
kind_text told.BadNumber = codes "S2 BadNumber"
kind_text told.UnknownName = codes "S3 UnknownName"
kind_text told.Repeated = codes "S4 Repeated"
kind_text told.BadDistance = codes "S5 BadDistance"
kind_text told.TileTaken = codes "S6 TileTaken"
kind_text told.BadLife = codes "S7 BadLife"
kind_text told.NotNeighbours = codes "S8 NotNeighbours"
kind_text told.MergeOutsideLife = codes "S9 MergeOutsideLife"
kind_text told.MergesTouch = codes "S10 MergesTouch"
kind_text told.BadCond = codes "S11 BadCond"
kind_text told.Missing = codes "S12 Missing"
kind_text told.TooMany = codes "S14 TooMany"
