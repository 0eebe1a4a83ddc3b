-- The lines of a log that carries for each committed window what shows its set least: the whole
-- set, a number for each member of its problem, and the numbers of odd sets of members.
use Rattle.std.specs.Prelude.{◌≡◌, ◌≤◌, ◌%◌, ℕ, ℤ, pos, neg_ℤ, ◌<ℤ◌, List, [], ◌∷◌, length, map, codes, decimal, All}
use Rattle.std.specs.Fmt.{signed_decimal}
use Rattle.std.specs.List.{join_with_byte}
use Rattle.report_model.specs.Logs.{HasNoFeed, IsLogged, LoggedStep, fed, words_of}
use Rattle.log_reader.specs.Steps.{AreEdges}

-- the first line; a step of the run; of a commit the whole set of the window, the numbers of its
-- problem's members, and an odd set of members with its number; the last line
pub data CertifiedLine : Type 0 where
  Started : CertifiedLine
  Stepped : (step : LoggedStep) → CertifiedLine
  Whole : (edges : List ℕ) → CertifiedLine
  Vertex : (numbers : List ℤ) → CertifiedLine
  OddSet : (number : ℤ) → (members : List ℕ) → CertifiedLine
  Finished : CertifiedLine

-- at most 18 decimal digits
abbrev pub IsNumber : ℤ → Type 0
IsNumber z = (neg_ℤ (pos 1000000000000000000) <ℤ z) × (z <ℤ pos 1000000000000000000)

-- the members of a set ascend, are odd in number, and its number is above 0
pub record IsNumberedSet (number : ℤ) (members : List ℕ) : Type 0 where
  pub short : IsNumber number
  pub positive : pos 0 <ℤ number
  pub members_in : AreEdges members
  pub odd : length members % 2 ≡ 1

abbrev pub IsLine : CertifiedLine → Type 0
IsLine Started = Unit {0}
IsLine (Stepped step) = IsLogged step
IsLine (Whole edges) = AreEdges edges
IsLine (Vertex numbers) = All IsNumber numbers
IsLine (OddSet number members) = IsNumberedSet number members
IsLine Finished = Unit {0}

abbrev pub words_on : CertifiedLine → List (List ℕ)
words_on Started = codes "log" ∷ codes "1" ∷ codes "certified" ∷ []
words_on (Stepped step) = words_of step
words_on (Whole edges) = codes "whole" ∷ map decimal edges
words_on (Vertex numbers) = codes "vertex" ∷ map signed_decimal numbers
words_on (OddSet number members) = codes "set" ∷ signed_decimal number ∷ map decimal members
words_on Finished = codes "end" ∷ codes "log" ∷ []

-- the line without its line feed
abbrev pub spelled : CertifiedLine → List ℕ
spelled line = join_with_byte 32 (words_on line)

-- the bytes are this line
pub record IsCertifiedLine (bytes : List ℕ) (line : CertifiedLine) : Type 0 where
  pub spelled_so : bytes ≡ spelled line
  pub in_grammar : IsLine line
  pub short : length bytes ≤ 67108864

-- the lines, each with its line feed
abbrev pub text_of : List CertifiedLine → List ℕ
text_of lines = fed (map spelled lines)

-- No bytes are two lines.
abbrev pub OneLineLaw : Type 0
OneLineLaw = (bytes : List ℕ) (one two : CertifiedLine) → IsCertifiedLine bytes one →
    IsCertifiedLine bytes two → one ≡ two

-- No line holds a line feed.
abbrev pub WholeLinesLaw : Type 0
WholeLinesLaw = (lines : List CertifiedLine) → All IsLine lines → All HasNoFeed (map spelled lines)
