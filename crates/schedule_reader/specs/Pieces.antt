-- A text cut at bytes of one value, a piece at a time.
use Rattle.std.specs.Prelude.{ℕ, suc, Bool, not, ◌==◌, if◌then◌else◌, List, [], ◌∷◌, length, drop}
use Rattle.std.specs.List.{list_any}
use Rattle.surface_model.specs.Text.{pieces_at, without_empty_end, is_skipped}

-- what stands before the first byte of this value, or all
abbrev pub upto : ℕ → List ℕ → List ℕ
upto at [] = []
upto at (byte ∷ bytes) = if byte == at then [] else byte ∷ upto at bytes

-- what stands after that byte, or nothing
abbrev pub past : ℕ → List ℕ → List ℕ
past at bytes = drop (suc (length (upto at bytes))) bytes

-- the lines of a text: each ends with its line feed, and a last one without has a byte
abbrev pub lines_of : List ℕ → List (List ℕ)
lines_of text = without_empty_end (pieces_at 10 text)

-- whether one of the lines isn't skipped
abbrev pub others : List (List ℕ) → Bool
others lines = list_any (λ line. not (is_skipped line)) lines
