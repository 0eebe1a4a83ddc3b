-- What the reading of rows and the putting of releases do to the port: on the way, and when the
-- reading has ended. No decoder is spoken of.
use Rattle.std.specs.Prelude.{◌≡◌, ◌≤◌, ◌⊎◌, ℕ, ◌+◌, Bool, true, List, ◌++◌, drop, length, flat_map, filter_map, Option}
use Rattle.port_io.specs.Traffic.{Goes, IsAtEnd}
use Rattle.port_io.specs.declared.port.TapeByte.{TapeByte}
use Rattle.surface_model.specs.Schedules.{Schedule}
use Rattle.surface_model.specs.Layout.{last_slot}
use Rattle.surface_model.specs.Reading.{Reading, Good, reading_of, reading_before_more}
use Rattle.measure_map.specs.Placed.{before_slot}
use Rattle.report_model.specs.Tapes.{Move, bytes_of, take_of}
use Rattle.run_rounds.specs.Moves.{begun_after}
use Rattle.run_rounds.specs.Rounds.{lengths_of, rounds_of}
use Rattle.run_rounds.specs.Slots.{At}

-- these rows in front
abbrev pub with_rows : List (List Bool) → Reading → Reading
with_rows rows reading = record { rows = rows ++ reading.rows; ending = reading.ending }

-- After these bytes, which are these rows, rows of the lengths ahead are due, from the line of
-- this number on
pub record IsPast (lengths : List ℕ) (line : ℕ) (bytes : List ℕ) (rows : List (List Bool))
    (ahead : List ℕ) (now : ℕ) : Type 0 where
  pub reads : (rest : List ℕ) →
      reading_of lengths line (bytes ++ rest) ≡ with_rows rows (reading_of ahead now rest)
  pub feeds : (rest : List ℕ) →
      reading_before_more lengths line (bytes ++ rest)
      ≡ with_rows rows (reading_before_more ahead now rest)

-- the rows of the slots before this one are whole, each with its line feed
abbrev pub AreFed : Schedule → ℕ → List ℕ → List (List Bool) → Type 0
AreFed s slot bytes rows =
    IsPast (lengths_of s) (s.rounds_line + 1) bytes rows (drop slot (lengths_of s)) (s.rounds_line
    + 1 + slot)

-- all rows are whole, and the last ends with the input
abbrev pub AreEnded : Schedule → ℕ → List ℕ → Option (List ℕ) → List (List Bool) → Type 0
AreEnded s slot bytes left rows =
    (slot ≡ last_slot s + 1) × IsAtEnd left
    × (rounds_of s bytes ≡ record { rows = rows; ending = Good })

-- The moves so far took the rows of the slots before this one, and no line of this slot is begun
pub record IsReadTo (labels : List (List ℕ)) (at : At) (left left' : Option (List ℕ))
    (tape tape' : Option (List TapeByte)) : Type 0 where
  pub moves : List Move
  pub rows : List (List Bool)
  pub goes : Goes (flat_map (bytes_of labels) moves) left left' tape tape'
  pub read : AreFed at.schedule at.slot (filter_map take_of moves) rows
      ⊎ AreEnded at.schedule at.slot (filter_map take_of moves) left' rows
  pub each_slot : length rows ≡ at.slot
  pub before_is : at.before ≡ before_slot rows at.slot
  pub begun : begun_after 0 true moves ≤ at.slot
