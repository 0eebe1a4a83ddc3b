-- The lines of all faults, byte for byte.
use Rattle.std.specs.Prelude.{◌≡◌, List, [], ◌∷◌, flat_map, codes, refl}
use Rattle.std.specs.Fmt.{digits}
use Rattle.window_model.specs.Gates.{TooManyWindows, TooManyLinks, WindowTooLarge}
use Rattle.surface_model.specs.Text.{BadLine, BadNumber, UnknownName, Repeated, BadDistance, TooMany}
use Rattle.surface_model.specs.declared.RuleFault.TheVariants.{TileTaken, BadLife, NotNeighbours, MergeOutsideLife, MergesTouch, BadCond, Missing}
use Rattle.surface_model.specs.Reading.{Short, Long, Foreign, Trailing}
use Rattle.report_model.specs.Faults.{Fault, Usage, OfLine, OfRule, TooLarge, OfPlan, TooEarly, OfRow, Ended, Read, Script, fault_text}
use Rattle.report_model.proofs.Printed.{lines}

abbrev of_lines : List Fault
of_lines = OfLine BadLine 4 ∷ OfLine BadNumber 3 ∷ OfLine UnknownName 5 ∷ OfLine Repeated 6
    ∷ OfLine BadDistance 2 ∷ OfLine TooMany 68 ∷ []

line_faults : flat_map fault_text of_lines ≡ lines
    (codes "fault schedule S1 BadLine line 4" ∷ codes "fault schedule S2 BadNumber line 3"
    ∷ codes "fault schedule S3 UnknownName line 5" ∷ codes "fault schedule S4 Repeated line 6"
    ∷ codes "fault schedule S5 BadDistance line 2" ∷ codes "fault schedule S14 TooMany line 68"
    ∷ [])
unfolding digits
line_faults = refl

abbrev of_rules : List Fault
of_rules =
    OfRule TileTaken 5 ∷ OfRule BadLife 6 ∷ OfRule NotNeighbours 8 ∷ OfRule MergeOutsideLife 8
    ∷ OfRule MergesTouch 9 ∷ OfRule BadCond 10 ∷ OfRule Missing 7 ∷ []

rule_faults : flat_map fault_text of_rules ≡ lines
    (codes "fault schedule S6 TileTaken line 5" ∷ codes "fault schedule S7 BadLife line 6" ∷ codes
    "fault schedule S8 NotNeighbours line 8" ∷ codes "fault schedule S9 MergeOutsideLife line 8"
    ∷ codes "fault schedule S10 MergesTouch line 9" ∷ codes "fault schedule S11 BadCond line 10"
    ∷ codes "fault schedule S12 Missing line 7" ∷ [])
unfolding digits
rule_faults = refl

abbrev of_plans : List Fault
of_plans =
    TooLarge 1000001 ∷ OfPlan (TooManyWindows 4097) ∷ OfPlan (TooManyLinks 65537)
    ∷ OfPlan (WindowTooLarge 3 8193) ∷ TooEarly (codes "c") 1 ∷ []

plan_faults : flat_map fault_text of_plans ≡ lines
    (codes "fault schedule S13 TooLarge detectors 1000001" ∷ codes
    "fault schedule P1 TooManyWindows 4097" ∷ codes "fault schedule P2 TooManyLinks 65537"
    ∷ codes "fault schedule P3 WindowTooLarge window 3 detectors 8193"
    ∷ codes "fault schedule P4 TooEarly op c ready 1" ∷ [])
unfolding digits
plan_faults = refl

abbrev of_runs : List Fault
of_runs = Usage ∷ OfRow Short 8 ∷ OfRow Long 8 ∷ OfRow Foreign 9 ∷ OfRow Trailing 10 ∷ Ended 1
    ∷ Read ∷ Script 19 ∷ []

run_faults : flat_map fault_text of_runs ≡ lines
    (codes "fault usage" ∷ codes "fault row short line 8" ∷ codes "fault row long line 8" ∷ codes
    "fault row byte line 9" ∷ codes "fault row trailing line 10" ∷ codes "fault ended line 1"
    ∷ codes "fault read" ∷ codes "fault script line 19" ∷ [])
unfolding digits
run_faults = refl
