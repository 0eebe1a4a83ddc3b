-- The history of the speculative decoder, as a journal of short entries completed by what is kept
-- beside it: values, the links of tickets, and their results.
use Rattle.std.specs.Prelude.{◌<◌, ◌≤◌, ℕ, Bool, false, List, [], length, map, All, Option, None, IsSome, unwrap_or, slice_index_or}
use Rattle.std.specs.Bool.{⊤}
use Rattle.window_model.specs.Decoder.{Task, Syndrome}
use Rattle.window_model.specs.Speculation.{Link, Event, Arrived, Claimed, Returned, Stale, Verified, Poisoned, Dropped, Committed, Released, at_slot, detector_slots}
use Rattle.core_journal.specs.declared.event.Event.{Event as Entry}
use Rattle.core_journal.specs.declared.event.Event.TheVariants as entry

-- the values of the detectors and the raw values of the observables; for each ticket its links, as
-- it was claimed, and its result
pub record Kept : Type 0 where
  pub values : List Bool
  pub raws : List Bool
  pub links : List (List Link)
  pub results : List (Option (List ℕ))

abbrev pub bit : List Bool → ℕ → Bool
bit bits n = slice_index_or bits n false

-- the values of a slot's detectors, and the raw values of its observables, in the order of their
-- numbers
abbrev pub values_at : Task → List Bool → ℕ → List Bool
values_at task values t = map (bit values) (at_slot (detector_slots task) t)

abbrev pub raws_at : Task → List Bool → ℕ → List Bool
raws_at task raws t = map (bit raws) (at_slot task.raw_slots t)

abbrev pub links_of : Kept → ℕ → List Link
links_of kept k = slice_index_or kept.links k []

abbrev pub result_in : List (Option (List ℕ)) → ℕ → Option (List ℕ)
result_in results k = slice_index_or results k None

-- what an entry says happened
abbrev pub event_of : Task → Kept → Entry → Event
event_of task kept (entry.Arrived t) =
    Arrived t (values_at task kept.values t) (raws_at task kept.raws t)
event_of task kept (entry.Claimed k w) = Claimed k w (links_of kept k)
event_of task kept (entry.Held k) = Returned k (unwrap_or (result_in kept.results k) [])
event_of task kept (entry.Stale k current) = Stale k
event_of task kept (entry.Verified x w) = Verified x w
event_of task kept (entry.Poisoned x w) = Poisoned x w
event_of task kept (entry.Dropped w) = Dropped w
event_of task kept (entry.Committed k w) = Committed k w
event_of task kept (entry.Released op bit) = Released op bit

abbrev pub history_of : Task → Kept → List Entry → List Event
history_of task kept entries = map (event_of task kept) entries

-- what an entry speaks of is there: its slot has arrived, its ticket has links, its result is kept
abbrev pub IsThere : ℕ → Kept → Entry → Type 0
IsThere arrived kept (entry.Arrived t) = t < arrived
IsThere arrived kept (entry.Claimed k w) = k < length kept.links
IsThere arrived kept (entry.Held k) = IsSome (result_in kept.results k)
IsThere arrived kept _ = ⊤

-- all that the journal speaks of is there, where so many slots have arrived
abbrev pub AreThere : ℕ → Kept → List Entry → Type 0
AreThere arrived kept entries = All (IsThere arrived kept) entries

-- the syndrome with these values
abbrev pub syndrome_of : Kept → Syndrome
syndrome_of kept = record { value = bit kept.values; raw = bit kept.raws }

-- a journal, and how many entries there is room for
pub record Entries : Type 0 where
  pub entries : List Entry
  pub room : ℕ

-- so many entries are within the room, and the room within what is set aside
pub record IsWithin (len room capacity : ℕ) : Type 0 where
  pub few : len ≤ room
  pub set_aside : room ≤ capacity
