-- The last line of a run that ends with a fault, as bytes: what was wrong with the words, the
-- schedule, its plan, a row or a script, or that the input ended or failed. Lines of
-- the input are numbered from 1. A failed write and want of memory have no line.
use Rattle.std.specs.Prelude.{ℕ, List, [], ◌∷◌, ◌++◌, codes, decimal}
use Rattle.window_model.specs.Gates.{PlanFault, TooManyWindows, TooManyLinks, WindowTooLarge}
use Rattle.surface_model.specs.Text.{LineFault, BadLine, BadNumber, UnknownName, Repeated, BadDistance, TooMany}
use Rattle.surface_model.specs.declared.RuleFault.{RuleFault}
use Rattle.surface_model.specs.declared.RuleFault.TheVariants.{TileTaken, BadLife, NotNeighbours, MergeOutsideLife, MergesTouch, BadCond, Missing}
use Rattle.surface_model.specs.Reading.{RowKind, Short, Long, Foreign, Trailing}
use Rattle.report_model.specs.Texts.{line}

pub data Fault : Type 0 where
  -- the words aren't accepted
  Usage : Fault
  -- a line of the schedule is at fault by itself or by those before it, or breaks a rule of the
  -- whole
  OfLine : LineFault → (line : ℕ) → Fault
  OfRule : RuleFault → (line : ℕ) → Fault
  -- more detectors than a schedule may have
  TooLarge : (detectors : ℕ) → Fault
  -- a limit that the plan goes beyond
  OfPlan : PlanFault → Fault
  -- the condition of this label stands in a slot not past its ready round
  TooEarly : (label : List ℕ) → (ready : ℕ) → Fault
  -- a row has a byte that doesn't fit; the input ended; reading failed
  OfRow : RowKind → (line : ℕ) → Fault
  Ended : (line : ℕ) → Fault
  Read : Fault
  -- a line of the script can't be done
  Script : (line : ℕ) → Fault

-- the number of a fault of one line, and its name
abbrev pub line_fault_words : LineFault → List (List ℕ)
line_fault_words BadLine = codes "S1" ∷ codes "BadLine" ∷ []
line_fault_words BadNumber = codes "S2" ∷ codes "BadNumber" ∷ []
line_fault_words UnknownName = codes "S3" ∷ codes "UnknownName" ∷ []
line_fault_words Repeated = codes "S4" ∷ codes "Repeated" ∷ []
line_fault_words BadDistance = codes "S5" ∷ codes "BadDistance" ∷ []
line_fault_words TooMany = codes "S14" ∷ codes "TooMany" ∷ []

-- the number of a rule, and its name
abbrev pub rule_fault_words : RuleFault → List (List ℕ)
rule_fault_words TileTaken = codes "S6" ∷ codes "TileTaken" ∷ []
rule_fault_words BadLife = codes "S7" ∷ codes "BadLife" ∷ []
rule_fault_words NotNeighbours = codes "S8" ∷ codes "NotNeighbours" ∷ []
rule_fault_words MergeOutsideLife = codes "S9" ∷ codes "MergeOutsideLife" ∷ []
rule_fault_words MergesTouch = codes "S10" ∷ codes "MergesTouch" ∷ []
rule_fault_words BadCond = codes "S11" ∷ codes "BadCond" ∷ []
rule_fault_words Missing = codes "S12" ∷ codes "Missing" ∷ []

abbrev pub plan_fault_words : PlanFault → List (List ℕ)
plan_fault_words (TooManyWindows windows) =
    codes "P1" ∷ codes "TooManyWindows" ∷ decimal windows ∷ []
plan_fault_words (TooManyLinks links) = codes "P2" ∷ codes "TooManyLinks" ∷ decimal links ∷ []
plan_fault_words (WindowTooLarge window detectors) =
    codes "P3" ∷ codes "WindowTooLarge" ∷ codes "window" ∷ decimal window ∷ codes "detectors"
    ∷ decimal detectors ∷ []

abbrev pub row_kind_word : RowKind → List ℕ
row_kind_word Short = codes "short"
row_kind_word Long = codes "long"
row_kind_word Foreign = codes "byte"
row_kind_word Trailing = codes "trailing"

-- the words after `fault`
abbrev pub fault_words : Fault → List (List ℕ)
fault_words Usage = codes "usage" ∷ []
fault_words (OfLine kind number) =
    codes "schedule" ∷ line_fault_words kind ++ codes "line" ∷ decimal number ∷ []
fault_words (OfRule kind number) =
    codes "schedule" ∷ rule_fault_words kind ++ codes "line" ∷ decimal number ∷ []
fault_words (TooLarge detectors) =
    codes "schedule" ∷ codes "S13" ∷ codes "TooLarge" ∷ codes "detectors" ∷ decimal detectors ∷ []
fault_words (OfPlan fault) = codes "schedule" ∷ plan_fault_words fault
fault_words (TooEarly label ready) =
    codes "schedule" ∷ codes "P4" ∷ codes "TooEarly" ∷ codes "op" ∷ label ∷ codes "ready"
    ∷ decimal ready ∷ []
fault_words (OfRow kind number) =
    codes "row" ∷ row_kind_word kind ∷ codes "line" ∷ decimal number ∷ []
fault_words (Ended number) = codes "ended" ∷ codes "line" ∷ decimal number ∷ []
fault_words Read = codes "read" ∷ []
fault_words (Script number) = codes "script" ∷ codes "line" ∷ decimal number ∷ []

-- the fault's line
abbrev pub fault_text : Fault → List ℕ
fault_text fault = line (codes "fault" ∷ fault_words fault)
