-- Rows of bits that are turned place by place.
use Rattle.std.specs.Prelude.{◌<◌, ℕ, ◌==◌, ◌&&◌, Bool, false, List, [], length, replicate, slice_index_or, All}

-- the bit of a slot's row; past the ends there is none
abbrev pub bit_in : List (List Bool) → ℕ → ℕ → Bool
bit_in rows t k = slice_index_or (slice_index_or rows t []) k false

-- whether this is the place
abbrev pub is_place : ℕ → ℕ → ℕ × ℕ → Bool
is_place t k place = place.0 == t && place.1 == k

-- as many zeros as a line has bits
abbrev pub blank_row : {X : Type 0} → List X → List Bool
blank_row line = replicate (length line) false

-- the places are of bits that there are
abbrev pub AreWithin : List (List Bool) → List (ℕ × ℕ) → Type 0
AreWithin rows places =
    All (λ place. (place.0 < length rows) × (place.1 < length (slice_index_or rows place.0 [])))
    places
