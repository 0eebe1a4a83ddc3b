-- The reader of slots, and what reading one slot takes and gives.
use Rattle.std.specs.Prelude.{◌≡◌, ◌≤◌, ◌⊎◌, ℕ, ◌+◌, ◌==◌, Bool, List, [], length, slice_index_or, Option}
use Rattle.port_io.specs.Traffic.{Goes, taken}
use Rattle.port_io.specs.declared.port.TapeByte.{TapeByte}
use Rattle.surface_model.specs.Accepted.{IsAccepted}
use Rattle.surface_model.specs.Schedules.{Schedule}
use Rattle.surface_model.specs.Layout.{last_slot}
use Rattle.surface_model.specs.Measurements.{bits_of_slot}
use Rattle.syndrome_source.specs.Rows.{IsNoRow, IsRow}
use Rattle.syndrome_source.specs.declared.error.RowError.{RowError}
use Rattle.syndrome_source.specs.declared.error.RowError.TheVariants.{Fault, Ended, ReadFault, Memory}
use Rattle.measure_map.specs.Placed.{Placed, before_slot, defects_at, map_of, raws_at}

-- the most that the number of the line `rounds` can be: it is at most two more than a header has
-- bytes
abbrev pub most_lines : ℕ
most_lines = 1048579

-- the schedule, the slot whose row comes next, and the row of the slot before
pub record At : Type 0 where
  pub schedule : Schedule
  pub slot : ℕ
  pub before : List Bool

-- before the first row
abbrev pub at_first : Schedule → At
at_first s = record { schedule = s; slot = 0; before = [] }

-- the number of the next line
abbrev pub line_of : At → ℕ
line_of at = at.schedule.rounds_line + 1 + at.slot

-- how many bits the row of the next slot has
abbrev pub width_of : At → ℕ
width_of at = length (bits_of_slot at.schedule at.slot)

-- whether it is the last
abbrev pub is_last_slot : At → Bool
is_last_slot at = at.slot == last_slot at.schedule

-- what always holds of the parts of a reader
pub record IsReader (s : Schedule) (m : Placed) (first last slot : ℕ)
    (before : List Bool) : Type 0 where
  pub accepted : IsAccepted s
  pub map_is : m ≡ map_of s
  pub first_is : first ≡ s.rounds_line + 1
  pub last_is : last ≡ last_slot s
  pub lines : s.rounds_line ≤ most_lines
  pub in_range : slot ≤ last_slot s + 1
  pub before_long : length before ≡ length (before_slot m.lines slot)

-- The values are those that rows give the slot's detectors and observables in which these two are
-- the rows of the slot before and of the slot
abbrev pub AreFolds : At → List Bool → (values raws : List Bool) → Type 0
AreFolds at row values raws =
    (rows : List (List Bool)) → at.before ≡ before_slot rows at.slot →
    row ≡ slice_index_or rows at.slot [] →
    (values ≡ defects_at at.schedule rows at.slot) × (raws ≡ raws_at at.schedule rows at.slot)

-- after this row
abbrev pub next_at : At → List Bool → At
next_at at row = record { schedule = at.schedule; slot = at.slot + 1; before = row }

-- One slot was read: these bytes are its row, and these values are reported
pub record IsSlotRead (old new : At) (values raws : List Bool) (left left' : Option (List ℕ))
    (tape tape' : Option (List TapeByte)) : Type 0 where
  pub bytes : List ℕ
  pub row : List Bool
  pub goes : Goes (taken bytes) left left' tape tape'
  pub is_row : IsRow (width_of old) (is_last_slot old) row bytes left'
  pub next : new ≡ next_at old row
  pub folds : AreFolds old row values raws

-- What was taken where no slot was read: at want of memory nothing, or a whole row
abbrev pub IsSlotUnread : At → Option (List ℕ) → List ℕ → RowError → Type 0
IsSlotUnread at left bytes Memory =
    (bytes ≡ []) ⊎ ((row : List Bool) × IsRow (width_of at) (is_last_slot at) row bytes left)
IsSlotUnread at left bytes (Fault line kind) =
    IsNoRow (line_of at) (width_of at) (is_last_slot at) bytes left (Fault line kind)
IsSlotUnread at left bytes (Ended line) =
    IsNoRow (line_of at) (width_of at) (is_last_slot at) bytes left (Ended line)
IsSlotUnread at left bytes ReadFault =
    IsNoRow (line_of at) (width_of at) (is_last_slot at) bytes left ReadFault
