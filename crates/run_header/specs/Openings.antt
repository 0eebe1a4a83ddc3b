-- What is taken of an input as its schedule, and why none is opened.
use Rattle.std.specs.Prelude.{◌≡◌, ◌≤◌, ℕ, List, ◌++◌, length, Option, None}
use Rattle.port_io.specs.Traffic.{IsAtEnd}
use Rattle.window_model.specs.Gates.{plan_fault, TooManyWindows as BeyondWindows, TooManyLinks as BeyondLinks, WindowTooLarge as BeyondDetectors}
use Rattle.window_model.specs.Windows.{WindowPlan}
use Rattle.window_model.specs.Decoder.{Task}
use Rattle.surface_model.specs.Schedules.{Schedule}
use Rattle.surface_model.specs.Parse.{schedule_of}
use Rattle.measure_map.specs.Placed.{Placed, map_of}
use Rattle.surface_model.specs.Header.{Taken, EndedIn, header_of}
use Rattle.surface_model.specs.Limits.{most_taken_bytes}
use Rattle.surface_model.specs.Text.{BadLine, BadNumber, UnknownName, Repeated, BadDistance, TooMany}
use Rattle.surface_model.specs.declared.RuleFault.TheVariants.{TileTaken, BadLife, NotNeighbours, MergeOutsideLife, MergesTouch, BadCond, Missing}
use Rattle.schedule_reader.specs.declared.fault.FaultKind.{FaultKind}
use Rattle.schedule_reader.specs.declared.fault.FaultKind.TheVariants as told
use Rattle.syndrome_source.specs.Headers.{IsFront}
use Rattle.report_model.specs.Faults.{Fault, OfLine, OfRule, OfPlan}
use Rattle.report_model.specs.Faults
use Rattle.schedule_reader.specs.declared.fault.ReadError.{ReadError}
use Rattle.schedule_reader.specs.declared.fault.ReadError.TheVariants as reading
use Rattle.schedule_rules.specs.declared.program.RuleError.{RuleError}
use Rattle.schedule_rules.specs.declared.program.RuleError.TheVariants as rules
use Rattle.syndrome_source.specs.declared.error.HeaderError.{HeaderError}
use Rattle.syndrome_source.specs.declared.error.HeaderError.TheVariants as header
use Rattle.measure_map.specs.declared.types.MapError.{MapError}
use Rattle.measure_map.specs.declared.types.MapError.TheVariants as mapping
use Rattle.window_plan.specs.declared.plan_error.PlanError.{PlanError}
use Rattle.window_plan.specs.declared.plan_error.PlanError.TheVariants as planning
use Rattle.run_header.specs.declared.sizes.PlanSizes.{PlanSizes}
use Rattle.run_header.specs.declared.refusal.Refusal.{Refusal}
use Rattle.run_header.specs.declared.refusal.Refusal.TheVariants as refusal
use Rattle.run_header.specs.declared.refusal.OpeningError.{OpeningError}
use Rattle.run_header.specs.declared.refusal.OpeningError.TheVariants as error
use Rattle.run_header.specs.Refusals.{IsAcceptedAs, IsBeyond, IsEarly, IsPlanOf, IsRefused, IsTimely}
use Rattle.report_model.specs.Tasks.{task_of}

-- the fault of a line, or the rule that a line breaks
abbrev pub schedule_fault : FaultKind → ℕ → Fault
schedule_fault told.BadLine number = OfLine BadLine number
schedule_fault told.BadNumber number = OfLine BadNumber number
schedule_fault told.UnknownName number = OfLine UnknownName number
schedule_fault told.Repeated number = OfLine Repeated number
schedule_fault told.BadDistance number = OfLine BadDistance number
schedule_fault told.TileTaken number = OfRule TileTaken number
schedule_fault told.BadLife number = OfRule BadLife number
schedule_fault told.NotNeighbours number = OfRule NotNeighbours number
schedule_fault told.MergeOutsideLife number = OfRule MergeOutsideLife number
schedule_fault told.MergesTouch number = OfRule MergesTouch number
schedule_fault told.BadCond number = OfRule BadCond number
schedule_fault told.Missing number = OfRule Missing number
schedule_fault told.TooMany number = OfLine TooMany number

-- the fault that a refusal reports
abbrev pub fault_of : Refusal → Fault
fault_of (refusal.Schedule fault) = schedule_fault fault.kind fault.line
fault_of (refusal.TooLarge detectors) = Faults.TooLarge detectors
fault_of (refusal.TooManyWindows windows) = OfPlan (BeyondWindows windows)
fault_of (refusal.TooManyLinks links) = OfPlan (BeyondLinks links)
fault_of (refusal.WindowTooLarge window detectors) = OfPlan (BeyondDetectors window detectors)
fault_of (refusal.TooEarly label ready) = Faults.TooEarly label ready

-- ---- the errors of the calls below, as they are reported

abbrev pub of_header : HeaderError → OpeningError
of_header (header.Ended line) = error.Ended line
of_header header.ReadFault = error.ReadFault
of_header header.Memory = error.Memory

abbrev pub of_reading : ReadError → OpeningError
of_reading (reading.Fault fault) = error.Refused (refusal.Schedule fault)
of_reading reading.Memory = error.Memory

abbrev pub of_rules : RuleError → OpeningError
of_rules (rules.Fault fault) = error.Refused (refusal.Schedule fault)

abbrev pub of_mapping : MapError → OpeningError
of_mapping (mapping.TooLarge detectors) = error.Refused (refusal.TooLarge detectors)
of_mapping mapping.Memory = error.Memory

abbrev pub of_planning : PlanError → OpeningError
of_planning (planning.TooManyWindows windows) = error.Refused (refusal.TooManyWindows windows)
of_planning (planning.TooManyLinks links) = error.Refused (refusal.TooManyLinks links)
of_planning (planning.WindowTooLarge window detectors) =
    error.Refused (refusal.WindowTooLarge window detectors)
of_planning planning.Memory = error.Memory

-- ---- what is opened

-- the task of a schedule under its plan of these sizes, which goes beyond no limit, and under which
-- no condition comes too early
pub record IsTaskOf (sizes : PlanSizes) (s : Schedule) (task : Task) : Type 0 where
  pub plan : WindowPlan
  pub planned : IsPlanOf sizes s plan
  pub within : plan_fault plan ≡ None
  pub timely : IsTimely s plan
  pub task_is : task ≡ task_of s plan

-- what its plan is refused for
abbrev pub IsUnplanned : PlanSizes → Schedule → Fault → Type 0
IsUnplanned sizes s (OfPlan fault) = IsBeyond sizes s fault
IsUnplanned sizes s (Faults.TooEarly label ready) = IsEarly sizes s label ready
IsUnplanned sizes s _ = ⊥

-- why it has no task
abbrev pub IsNoTask : PlanSizes → Schedule → OpeningError → Type 0
IsNoTask sizes s (error.Refused why) = IsUnplanned sizes s (fault_of why)
IsNoTask sizes s error.Memory = Unit {0}
IsNoTask sizes s _ = ⊥

-- the schedule of a text that is decoded, what is measured, and what is decoded
pub record IsOpened (sizes : PlanSizes) (text : List ℕ) (program : Schedule) (measured : Placed)
    (task : Task) : Type 0 where
  pub program_is : program ≡ schedule_of text
  pub map_is : measured ≡ map_of (schedule_of text)
  pub plan : WindowPlan
  pub accepted : IsAcceptedAs sizes text plan
  pub task_is : task ≡ task_of (schedule_of text) plan

-- whatever follows, the bytes are a header and no more
abbrev pub IsHeader : List ℕ → Type 0
IsHeader bytes = (rest : List ℕ) → header_of (bytes ++ rest) ≡ Taken bytes rest

-- Two headers of one input are one.
abbrev pub OneHeaderLaw : Type 0
OneHeaderLaw = (a b x y : List ℕ) → IsHeader a → IsHeader b → a ++ x ≡ b ++ y → a ≡ b

-- An input that begins with a header doesn't end before it.
abbrev pub HeaderStandsLaw : Type 0
HeaderStandsLaw =
    (text bytes rest : List ℕ) (line : ℕ) → IsHeader text → header_of bytes ≡ EndedIn line →
    text ++ rest ≡ bytes → ⊥

-- A header has a byte at least, and no more than are taken to see where it ends.
abbrev pub SizedHeaderLaw : Type 0
SizedHeaderLaw =
    (text : List ℕ) → IsHeader text → (1 ≤ length text) × (length text ≤ most_taken_bytes)

-- what was taken where no schedule was opened: a whole header that is refused; the whole input,
-- which has none; or what could still become one
abbrev pub IsNotOpened : PlanSizes → List ℕ → Option (List ℕ) → OpeningError → Type 0
IsNotOpened sizes bytes left (error.Refused why) =
    IsHeader bytes × IsRefused sizes bytes (fault_of why)
IsNotOpened sizes bytes left (error.Ended line) = IsAtEnd left × (header_of bytes ≡ EndedIn line)
IsNotOpened sizes bytes left error.ReadFault = IsFront bytes
IsNotOpened sizes bytes left error.Memory = Unit {0}

-- a header's text whose schedule is not decoded
abbrev pub IsNoSchedule : PlanSizes → List ℕ → OpeningError → Type 0
IsNoSchedule sizes text (error.Refused why) = IsRefused sizes text (fault_of why)
IsNoSchedule sizes text error.Memory = Unit {0}
IsNoSchedule sizes text _ = ⊥
