-- Scripts of a patch that is read at slot 2, and scripts that are at fault.
use Rattle.std.specs.Prelude.{◌≡◌, ℕ, List, [], ◌∷◌, ◌++◌, flat_map, map, codes, replicate, refl, Option, None, Some}
use Rattle.replay_model.specs.declared.ScriptLine.{ScriptLine}
use Rattle.replay_model.specs.declared.ScriptLine.TheVariants.{Arrive, Turn, Finish}
use Rattle.replay_model.specs.Scripts.{command_of, script_of, script_within, Script, Complete, FaultAt, ends, next_line, Given, BadLine, NoMore, script_due, Begun, Unfit, Ended, whole_lines}
use Rattle.report_model.proofs.Printed.{lines}

abbrev pub complete : List ScriptLine → Script
complete commands = record { commands = commands; ending = Complete }

abbrev pub at_fault : List ScriptLine → ℕ → Script
at_fault commands number = record { commands = commands; ending = FaultAt number }

-- a guess that is right
abbrev pub right_guess : List ScriptLine
right_guess =
    Arrive ∷ Arrive ∷ Turn ∷ Turn ∷ Finish 1 ∷ Turn ∷ Finish 0 ∷ Turn ∷ Turn ∷ Turn ∷ Arrive ∷ Turn
    ∷ Finish 2 ∷ Turn ∷ Turn ∷ []

reads_right_guess : script_of 12 (lines
    (codes "arrive" ∷ codes "arrive" ∷ codes "turn" ∷ codes "turn" ∷ codes "finish 1"
    ∷ codes "turn" ∷ codes "finish 0" ∷ codes "turn" ∷ codes "turn" ∷ codes "turn"
    ∷ codes "arrive" ∷ codes "turn" ∷ codes "finish 2" ∷ codes "turn" ∷ codes "turn" ∷ [])) ≡
    complete right_guess
reads_right_guess = refl

-- a guess that is wrong
abbrev pub wrong_guess : List ScriptLine
wrong_guess =
    Arrive ∷ Arrive ∷ Arrive ∷ Turn ∷ Turn ∷ Finish 1 ∷ Turn ∷ Finish 2 ∷ Finish 0 ∷ Turn ∷ Turn
    ∷ Turn ∷ Turn ∷ Turn ∷ Finish 3 ∷ Turn ∷ Turn ∷ Finish 4 ∷ Turn ∷ Turn ∷ []

reads_wrong_guess : script_of 12 (lines
    (codes "arrive" ∷ codes "arrive" ∷ codes "arrive" ∷ codes "turn" ∷ codes "turn"
    ∷ codes "finish 1" ∷ codes "turn" ∷ codes "finish 2" ∷ codes "finish 0" ∷ codes "turn"
    ∷ codes "turn" ∷ codes "turn" ∷ codes "turn" ∷ codes "turn" ∷ codes "finish 3" ∷ codes "turn"
    ∷ codes "turn" ∷ codes "finish 4" ∷ codes "turn" ∷ codes "turn" ∷ [])) ≡
    complete wrong_guess
reads_wrong_guess = refl

-- no line at all
empty : script_of 11 [] ≡ complete []
empty = refl

-- the last line may lack its line feed
unfed : script_of 11 (codes "finish 0") ≡ complete (Finish 0 ∷ [])
unfed = refl

-- a script that is cut in its last line
cut : script_of 12 (lines (codes "arrive" ∷ codes "turn" ∷ []) ++ codes "fini") ≡
    at_fault (Arrive ∷ Turn ∷ []) 14
cut = refl

-- an empty line, blanks, other letters, more than nine digits
empty_line : script_of 12 (lines (codes "arrive" ∷ [] ∷ codes "turn" ∷ [])) ≡
    at_fault (Arrive ∷ []) 13
empty_line = refl

not_commands : map command_of
    (codes "arrive " ∷ codes " turn" ∷ codes "Turn" ∷ codes "turns" ∷ codes "finish"
    ∷ codes "finish " ∷ codes "finish  1" ∷ codes "finish 1 " ∷ codes "finish -1"
    ∷ codes "finish 0123456789" ∷ (codes "turn" ++ 13 ∷ []) ∷ []) ≡
    replicate 11 None
not_commands = refl

-- leading zeros don't count
with_zeros : map command_of (codes "finish 000000007" ∷ codes "finish 999999999"
    ∷ codes "finish 00" ∷ []) ≡ Some (Finish 7) ∷ Some (Finish 999999999) ∷ Some (Finish 0) ∷ []
with_zeros = refl

-- a line of 33 bytes is at fault before its end is seen, and one of 32 is none of the commands
-- either
too_long : next_line (replicate 33 97) ≡ BadLine
too_long = refl

too_long_follows : script_of 12 (lines (codes "turn" ∷ replicate 33 97 ∷ [])) ≡
    at_fault (Turn ∷ []) 13
too_long_follows = refl

longest : next_line (lines (replicate 32 97 ∷ codes "turn" ∷ [])) ≡ BadLine
longest = refl

-- one line more than there may be is at fault, whatever it is, and the end of input is no line
one_more : script_within 2 12 (lines (codes "turn" ∷ codes "turn" ∷ codes "turn" ∷ [])) ≡
    at_fault (Turn ∷ Turn ∷ []) 14
one_more = refl

no_more : script_within 2 12 (lines (codes "turn" ∷ codes "turn" ∷ [])) ≡
    complete (Turn ∷ Turn ∷ [])
no_more = refl

earlier_fault : script_within 2 12 (lines (codes "turn" ∷ codes "trun" ∷ codes "turn" ∷ [])) ≡
    at_fault (Turn ∷ []) 13
earlier_fault = refl

-- the line `script`: the first byte that doesn't fit decides
due : script_due (lines (codes "script" ∷ codes "turn" ∷ [])) ≡ Begun (lines (codes "turn" ∷ []))
due = refl

not_due : map script_due ((codes "Script" ++ 10 ∷ []) ∷ codes "scripts"
    ∷ (codes "script" ++ 13 ∷ 10 ∷ []) ∷ (10 ∷ []) ∷ codes "turn" ∷ []) ≡ replicate 5 Unfit
not_due = refl

early_end : map script_due ([] ∷ codes "scr" ∷ codes "script" ∷ []) ≡ replicate 3 Ended
early_end = refl

-- where a read fails, the lines that were taken whole
taken_whole : whole_lines (codes "turn" ++ 10 ∷ codes "finish 1" ++ 10 ∷ codes "arr") ≡
    lines (codes "turn" ∷ codes "finish 1" ∷ [])
taken_whole = refl
