-- What is read of a line.
use Rattle.std.specs.Prelude.{◌≡◌, ℕ, ℤ, List, map, All, Option, None, Some, Result, Ok, Err, Vec}
use Rattle.std.specs.Fmt.{signed_decimal}
use Rattle.std.specs.declared.alloc.Global.{Global}
use Rattle.report_model.specs.Logs.{Arrived, Committed, Released}
use Rattle.certified_lines.specs.Certified.{CertifiedLine, Started, Stepped, Whole, Vertex, OddSet, Finished, IsLine, IsNumber, words_on}
use Rattle.certified_lines.specs.declared.line.CertLine.{CertLine}
use Rattle.certified_lines.specs.declared.line.CertLine.TheVariants as read
use Rattle.certified_lines.specs.declared.line.LineError.{LineError}
use Rattle.certified_lines.specs.declared.line.LineError.TheVariants.{Fault, Memory}

-- a line as it is read, in the words of the definitions
abbrev pub line_in : CertLine → CertifiedLine
line_in read.Start = Started
line_in (read.Arrive slot) = Stepped (Arrived slot)
line_in (read.Commit window edges) = Stepped (Committed window edges)
line_in (read.Whole edges) = Whole edges
line_in (read.Vertex numbers) = Vertex numbers.items
line_in (read.OddSet number members) = OddSet number members.items
line_in (read.Released label bit) = Stepped (Released label bit)
line_in read.Finish = Finished

-- these words are the line's, or those of no line
abbrev pub IsLineIn : List (List ℕ) → Option CertLine → Type 0
IsLineIn words (Some found) = (words ≡ words_on (line_in found)) × IsLine (line_in found)
IsLineIn words None = (line : CertifiedLine) → IsLine line → words ≡ words_on line → ⊥

-- these words are the numbers', or those of no numbers
abbrev pub AreNumbersIn : List (List ℕ) → Option (Vec ℤ Global) → Type 0
AreNumbersIn words (Some numbers) =
    (words ≡ map signed_decimal numbers.items) × All IsNumber numbers.items
AreNumbersIn words None = (numbers : List ℤ) → All IsNumber numbers →
    words ≡ map signed_decimal numbers → ⊥

abbrev pub IsOfStep : CertifiedLine → Type 0
IsOfStep Started = ⊥
IsOfStep (Stepped step) = Unit {0}
IsOfStep (Whole edges) = ⊥
IsOfStep (Vertex numbers) = ⊥
IsOfStep (OddSet number members) = ⊥
IsOfStep Finished = ⊥

-- where these are the words of a line, it is that of a step
abbrev pub AreOfStep : List (List ℕ) → Type 0
AreOfStep words = (line : CertifiedLine) → words ≡ words_on line → IsOfStep line

-- the line is read, but for want of memory
abbrev pub IsReadAs : CertifiedLine → Result CertLine LineError → Type 0
IsReadAs line (Ok found) = line_in found ≡ line
IsReadAs line (Err Fault) = ⊥
IsReadAs line (Err Memory) = Unit {0}
