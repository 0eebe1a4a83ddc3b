-- What each operation of a task waits for, and why a task is refused.
use Rattle.std.specs.Prelude.{◌≡◌, ◌<◌, ◌≤◌, ◌++◌, ℕ, Bool, false, List, [], length, map, slice_index, slice_index_or}
use Rattle.std.specs.List.{list_any}
use Rattle.graph_model.specs.Graph.{DetectorGraph, flips}
use Rattle.graph_model.specs.Parity.{parity}
use Rattle.window_model.specs.Decoder.{Task, needs}
use Rattle.window_model.specs.Gates.{IsFirstTooEarly, IsReadyRound, IsTooEarly}
use Rattle.window_model.specs.Windows.{WindowPlan, all_below, greatest, window_at, window_count}
use Rattle.release_gate.specs.Operations.{TimedOperation, labels_of, raw_slots_of, timed_at}
use Rattle.release_gate.specs.declared.gate_error.GateError.{GateError}
use Rattle.release_gate.specs.declared.gate_error.GateError.TheVariants as error

-- for each operation the windows that it needs, and its ready round
pub record GateTable : Type 0 where
  pub needs : List (List ℕ)
  pub rounds : List ℕ

-- The windows that each operation of the task needs, and its ready round, which is below its slot.
pub record AreGates (task : Task) (gates : GateTable) : Type 0 where
  pub each_needs : length gates.needs ≡ length task.operations
  pub each_round : length gates.rounds ≡ length task.operations
  pub needed : (op : ℕ) → op < length task.operations → slice_index_or gates.needs op []
      ≡ needs task op
  pub ready : (op : ℕ) → op < length task.operations →
      IsReadyRound task op (slice_index gates.rounds op)
  pub none_early : (op round : ℕ) → op < length task.operations → ¬ IsTooEarly task op round

-- what a refusal says of a task
abbrev pub IsRefusal : GateError → Task → Type 0
IsRefusal (error.TooEarly op round) task = IsFirstTooEarly task op round
IsRefusal error.Memory task = Unit {0}

-- the operation that a refusal names is one of so many
abbrev pub IsOfMany : ℕ → GateError → Type 0
IsOfMany count (error.TooEarly op round) = op < count
IsOfMany count error.Memory = Unit {0}

-- ---- how the gates are found

-- an odd number of these observables is in the edge's mask
abbrev pub turns : DetectorGraph → List ℕ → ℕ → Bool
turns g labels e = parity (λ l. flips g l e) labels

-- the windows that own such an edge
abbrev pub needed : DetectorGraph → WindowPlan → List ℕ → List ℕ
needed g plan labels =
    all_below (window_count plan) (λ w. list_any (turns g labels) (window_at plan w).owned)

-- for each operation whether one of these edges turns its bit
pub record AreTouched (g : DetectorGraph) (edges : List ℕ) (ops : List TimedOperation)
    (touched : List Bool) : Type 0 where
  pub each : length touched ≡ length ops
  pub touches : (k : ℕ) → k < length ops → slice_index_or touched k false
      ≡ list_any (turns g (labels_of (timed_at ops k))) edges

pub record AreNeeded (g : DetectorGraph) (plan : WindowPlan) (ops : List TimedOperation)
    (needs : List (List ℕ)) : Type 0 where
  pub each : length needs ≡ length ops
  pub needed : (k : ℕ) → k < length ops → slice_index_or needs k []
      ≡ needed g plan (labels_of (timed_at ops k))

-- the greatest of an operation's raw slots and of the ready slots of these windows
abbrev pub round_of : List ℕ → TimedOperation → List ℕ → ℕ
round_of slots op windows = greatest (raw_slots_of op ++ map (slice_index slots) windows)

pub record AreRounds (slots : List ℕ) (ops : List TimedOperation) (needs : List (List ℕ))
    (rounds : List ℕ) : Type 0 where
  pub each : length rounds ≡ length ops
  pub round : (k : ℕ) → k < length ops → slice_index rounds k
      ≡ round_of slots (timed_at ops k) (slice_index_or needs k [])

-- the first operation whose round isn't below its slot
pub record IsFirstEarly (ops : List TimedOperation) (rounds : List ℕ) (k : ℕ) : Type 0 where
  pub in_range : k < length ops
  pub not_below : (timed_at ops k).slot ≤ slice_index rounds k
  pub first : (i : ℕ) → i < k → slice_index rounds i < (timed_at ops i).slot
