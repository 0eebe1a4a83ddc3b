-- What a reader brought and was told, and what it may bring.
use Rattle.std.specs.Prelude.{◌≡◌, ◌<◌, ◌≤◌, ◌+◌, ◌++◌, ◌∷◌, ℕ, Bool, List, [], length, replicate, Option, None, Some, IsSome, slice_index_or, slice_set}
use Rattle.detector_graph.specs.declared.folded.Folded.{Folded}
use Rattle.window_model.specs.Decoder.{Task, operation_at}
use Rattle.core_state.specs.States.{CoreTable, machine_of}

-- the slots that were brought, with their values, in order; and for each operation the bit that was
-- told
pub record Readings : Type 0 where
  pub given : List Folded
  pub told : List (Option Bool)

abbrev pub told_at : Readings → ℕ → Option Bool
told_at r op = slice_index_or r.told op None

-- no slot was brought, and no bit was told
abbrev pub no_readings : Task → Readings
no_readings task = record { given = []; told = replicate (length task.operations) None }

-- one slot more
abbrev pub with_slot : Readings → Folded → Readings
with_slot r folded = record r { given = r.given ++ folded ∷ [] }

-- the bit of an operation
abbrev pub with_bit : Readings → ℕ → Bool → Readings
with_bit r op bit = record r { told = slice_set r.told op (Some bit) }

-- there is a place for the bit of each operation, and room for each slot
pub record IsReaderOf (task : Task) (told room : ℕ) : Type 0 where
  pub each_operation : told ≡ length task.operations
  pub set_aside : task.last_slot + 1 ≤ room

-- the bit of each operation of this slot or an earlier one was told
abbrev pub AreTold : Task → Readings → ℕ → Type 0
AreTold task r slot =
    (op : ℕ) → op < length task.operations → (operation_at task op).slot ≤ slot →
    IsSome (told_at r op)

-- The slot is the next one and isn't past the last, and the bit of each operation of it or of an
-- earlier slot was told.
pub record MayBring (task : Task) (r : Readings) (slot : ℕ) : Type 0 where
  pub next : slot ≡ length r.given
  pub in_range : slot ≤ task.last_slot
  pub told : AreTold task r slot

-- each bit that was told is that of a release
abbrev pub AreReleased : CoreTable → Readings → Type 0
AreReleased c r =
    (op : ℕ) (bit : Bool) → told_at r op ≡ Some bit → (machine_of c).released op ≡ Some bit

-- nothing to decode
abbrev pub no_task : Task
no_task = record {
  graph = record { vertices = 0; edges = [] };
  tags = [];
  plan = record { cells = []; homes = []; windows = [] };
  operations = [];
  raw_slots = [];
  last_slot = 0;
}
