-- The faults of lines as the crate tells them.
use Rattle.std.specs.Prelude.{◌≡◌, Option, Some, option_map}
use Rattle.surface_model.specs.Text.{LineFault, BadLine, BadNumber, UnknownName, Repeated, BadDistance, TooMany, Fault}
use Rattle.schedule_reader.specs.declared.fault.FaultKind.{FaultKind}
use Rattle.schedule_reader.specs.declared.fault.FaultKind.TheVariants.{BadLine as ReportedBadLine, BadNumber as ReportedBadNumber, UnknownName as ReportedUnknownName, Repeated as ReportedRepeated, BadDistance as ReportedBadDistance, TooMany as ReportedTooMany}
use Rattle.schedule_reader.specs.declared.fault.ScheduleFault.{ScheduleFault}
use Rattle.schedule_reader.specs.declared.fault.ReadError.{ReadError}
use Rattle.schedule_reader.specs.declared.fault.ReadError.TheVariants.{Fault as ReportedFault, Memory}

abbrev pub reported_kind : LineFault → FaultKind
reported_kind BadLine = ReportedBadLine
reported_kind BadNumber = ReportedBadNumber
reported_kind UnknownName = ReportedUnknownName
reported_kind Repeated = ReportedRepeated
reported_kind BadDistance = ReportedBadDistance
reported_kind TooMany = ReportedTooMany

abbrev pub reported : Fault → ScheduleFault
reported fault = record { line = fault.line; kind = reported_kind fault.kind }

-- a fault is the one that is reported; want of memory is free
abbrev pub is_reported : ReadError → Option Fault → Type 0
is_reported (ReportedFault fault) found = option_map reported found ≡ Some fault
is_reported Memory found = Unit {0}
