-- What is kept of the conditional operations while windows are committed: how many windows each
-- still waits for, its bit once it is released, and the frame of which bits are made.
use Rattle.std.specs.Prelude.{◌≡◌, ◌<◌, ◌+◌, ◌==◌, ◌&&◌, if◌then◌else◌, ℕ, Bool, false, nat_lt, List, length, filter, map, replicate, Option, None, Some, is_none, slice_index, slice_index_or, slice_set}
use Rattle.std.specs.List.{list_all, range_with_len}
use Rattle.graph_model.specs.Graph.{is_in}
use Rattle.graph_model.specs.Parity.{◌⊕◌, parity}
use Rattle.window_model.specs.Decoder.{Task, Decoder, needs, operation_at}
use Rattle.window_model.specs.Windows.{all_below}
use Rattle.window_model.specs.Speculation.{Event, decoder_of}
use Rattle.pauli_frame.specs.Frames.{IsCommitted, IsFrameOf}
use Rattle.cascade_laws.specs.MirrorLaws.{reached}

pub record ReleaseTable : Type 0 where
  pub missing : List ℕ
  pub bits : List (Option Bool)
  pub frame : List Bool

abbrev pub bit_of : ReleaseTable → ℕ → Option Bool
bit_of table op = slice_index_or table.bits op None

-- the windows that the operation needs and that aren't committed
abbrev pub missing_windows : Task → Decoder → ℕ → List ℕ
missing_windows task d op = filter (λ w. is_none (d.kept w)) (needs task op)

-- The table has for each operation how many of its windows are missing, and its bit if it is
-- released; and the decoder's frame.
pub record IsTableFor (task : Task) (d : Decoder) (table : ReleaseTable) : Type 0 where
  pub each_missing : length table.missing ≡ length task.operations
  pub each_bit : length table.bits ≡ length task.operations
  pub missing : (op : ℕ) → op < length task.operations → slice_index table.missing op
      ≡ length (missing_windows task d op)
  pub bit : (op : ℕ) → op < length task.operations → bit_of table op ≡ d.released op
  pub frame : IsFrameOf task d table.frame

-- the table of a history
abbrev pub IsReleaseTableOf : Task → List Event → ReleaseTable → Type 0
IsReleaseTableOf task events table = IsTableFor task (decoder_of task (reached task events)) table

-- the operations that need window w, ascending
abbrev pub waiting_for : Task → ℕ → List ℕ
waiting_for task w = all_below (length task.operations) (λ op. is_in (needs task op) w)

-- the table before anything happens: every needed window is missing, no operation is released, and
-- none of the task's observables is flipped
abbrev pub first_table : Task → ReleaseTable
first_table task = record {
  missing = map (λ op. length (needs task op)) (range_with_len 0 (length task.operations));
  bits = replicate (length task.operations) None;
  frame = replicate (length task.raw_slots) false;
}

-- ---- what events do to it

-- A window is committed with a set of edges: one window fewer is missing to each operation that
-- needs it, and the edges are committed to the frame.
pub record TakesWindow (task : Task) (w : ℕ) (set : List ℕ) (old new : ReleaseTable) : Type 0 where
  pub each_missing : length new.missing ≡ length old.missing
  pub fewer : (op : ℕ) → op < length task.operations → slice_index old.missing op
      ≡ slice_index new.missing op + (if is_in (needs task op) w then 1 else 0)
  pub bits : new.bits ≡ old.bits
  pub frame : IsCommitted task.graph set old.frame new.frame

-- an operation is released with its bit
abbrev pub with_bit : ReleaseTable → ℕ → Bool → ReleaseTable
with_bit table op bit = record table { bits = slice_set table.bits op (Some bit) }

-- ---- which operations may be released

-- the raw values of the operation's observables are among so many slots
abbrev pub has_raws : Task → ℕ → ℕ → Bool
has_raws task arrived op =
    list_all (λ l. nat_lt (slice_index task.raw_slots l) arrived) (operation_at task op).labels

-- an operation that isn't released, to which no window is missing and whose raw values have arrived
abbrev pub can_release : Task → ℕ → ReleaseTable → ℕ → Bool
can_release task arrived table op =
    (is_none (bit_of table op) && (slice_index table.missing op == 0)) && has_raws task arrived op

-- its bit: the exclusive or of the raw values of its observables and of their flips in the frame
abbrev pub framed_bit : Task → (ℕ → Bool) → List Bool → ℕ → Bool
framed_bit task raw frame op =
    parity (λ l. raw l ⊕ slice_index_or frame l false) (operation_at task op).labels
