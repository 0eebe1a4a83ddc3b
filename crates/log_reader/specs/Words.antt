-- Bytes that are cut at one value, and the words of a line, which stand apart by one space.
use Rattle.std.specs.Prelude.{◌≡◌, ℕ, Bool, true, not, ◌==◌, List, [], ◌∷◌, ◌++◌}
use Rattle.std.specs.List.{list_all, slice_split}

-- no byte has this value
abbrev pub lacks : ℕ → List ℕ → Bool
lacks value bytes = list_all (λ b. not (b == value)) bytes

-- the first byte of this value stands between the two parts
pub record IsCut (value : ℕ) (bytes front back : List ℕ) : Type 0 where
  pub whole : bytes ≡ front ++ value ∷ back
  pub first : lacks value front ≡ true

abbrev pub words_in : List ℕ → List (List ℕ)
words_in bytes = slice_split (λ b. b == 32) bytes

-- what stands after a word: nothing, or a space and more words
abbrev pub words_behind : List ℕ → List (List ℕ)
words_behind [] = []
words_behind (space ∷ bytes) = words_in bytes

abbrev pub is_tail : List ℕ → Bool
is_tail [] = true
is_tail (byte ∷ bytes) = byte == 32
