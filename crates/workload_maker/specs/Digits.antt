-- Rows of bits as lines of digits.
use Rattle.std.specs.Prelude.{ℕ, Bool, if◌then◌else◌, List, [], ◌∷◌, ◌++◌, map, flat_map}

abbrev pub digit : Bool → ℕ
digit bit = if bit then 49 else 48

abbrev pub row_text : List Bool → List ℕ
row_text row = map digit row ++ 10 ∷ []

abbrev pub rows_text : List (List Bool) → List ℕ
rows_text rows = flat_map row_text rows
