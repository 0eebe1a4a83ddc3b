-- What the slots brought that have arrived.
use Rattle.std.specs.Prelude.{◌≡◌, ℕ, List, Option, None, Some, filter_map, length}
use Rattle.detector_graph.specs.declared.folded.Folded.{Folded}
use Rattle.window_model.specs.Decoder.{Task}
use Rattle.window_model.specs.Speculation.{Event, Arrived, count_in, detector_slots}
use Rattle.core_journal.specs.Entries.{raws_at, values_at}
use Rattle.core_state.specs.States.{CoreTable}

-- the slot that an event brings, with its values
abbrev pub brought_by : Event → Option Folded
brought_by (Arrived t values raws) = Some (record { slot = t; defects = values; raws = raws })
brought_by _ = None

-- the slots that the events bring, with their values, in order
abbrev pub arrivals_in : List Event → List Folded
arrivals_in events = filter_map brought_by events

-- the values that are kept of a slot
abbrev pub kept_at : CoreTable → ℕ → Folded
kept_at c t = record {
  slot = t;
  defects = values_at c.task c.kept.values t;
  raws = raws_at c.task c.kept.raws t;
}

-- a value for each detector of the slot, and a raw value for each observable
pub record FitsSlot (task : Task) (folded : Folded) : Type 0 where
  pub values : length folded.defects ≡ count_in (detector_slots task) folded.slot
  pub raws : length folded.raws ≡ count_in task.raw_slots folded.slot
