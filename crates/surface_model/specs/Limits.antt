-- The numbers that bound a schedule and its text.
use Rattle.std.specs.Prelude.{ℕ}

-- the code distance, which is odd
abbrev pub least_distance : ℕ
least_distance = 3

abbrev pub most_distance : ℕ
most_distance = 11

-- the weight of an error, from 1
abbrev pub most_weight : ℕ
most_weight = 1000

-- a tile's row and column, from 0
abbrev pub last_tile : ℕ
last_tile = 15

-- a slot that a line names, from 0, and so how many slots there may be
abbrev pub last_named_slot : ℕ
last_named_slot = 4095

abbrev pub most_slots : ℕ
most_slots = 4096

-- how many slots a merge may last, from 1, and so the last slot in which one can be split
abbrev pub longest_merge : ℕ
longest_merge = 4095

abbrev pub last_split : ℕ
last_split = 8190

abbrev pub most_patches : ℕ
most_patches = 64

-- merges, readings and conditions together
abbrev pub most_labels : ℕ
most_labels = 256

abbrev pub most_detectors : ℕ
most_detectors = 1000000

-- the bytes of a name and the digits of a number, both from 1, and the greatest number of so many
-- digits
abbrev pub most_name_bytes : ℕ
most_name_bytes = 16

abbrev pub most_digits : ℕ
most_digits = 9

abbrev pub most_number : ℕ
most_number = 999999999

-- the bytes of a schedule's text, and those that are taken of an input to see whether it ends
-- within them
abbrev pub most_text_bytes : ℕ
most_text_bytes = 1048576

abbrev pub most_taken_bytes : ℕ
most_taken_bytes = 1048577
