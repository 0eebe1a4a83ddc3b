-- What is decoded, and what its parts have to do with each other.
use Rattle.std.specs.Prelude.{◌≡◌, ◌≢◌, ◌≤◌, ◌<◌, ℕ, List, [], All, length, map, slice_index}
use Rattle.std.specs.List.{range_with_len}
use Rattle.graph_model.specs.Limits.{most_observables}
use Rattle.graph_model.specs.Graph.{DetectorGraph, GraphEdge, IsGraph}
use Rattle.graph_model.specs.Problems.{Part}
use Rattle.graph_model.specs.declared.Tag.{Tag}
use Rattle.window_model.specs.Decoder.{Task, operation_at}
use Rattle.window_model.specs.Gates.{IsReadyRound}
use Rattle.window_model.specs.Grounded.{IsGrounded}
use Rattle.window_model.specs.Parts.{part_of}
use Rattle.window_model.specs.Windows.{WindowPlan, window_count}
use Rattle.window_plan.specs.Placed.{PlacedPlan}
use Rattle.boundary_fold.specs.Folds.{IsPlanFor}
use Rattle.release_gate.specs.Gated.{GateTable, AreGates}
use Rattle.release_gate.specs.Operations.{TimedOperation, IsTaskOf, operation_of}
use Rattle.window_setting.specs.declared.timing.Timing.{Timing}
use Rattle.window_setting.specs.Slots.{ready_rounds}

-- how many conditional operations there may be, and the greatest number of a slot
abbrev pub most_operations : ℕ
most_operations = 256

abbrev pub greatest_slot : ℕ
greatest_slot = 4095

-- the task of a graph under a plan, with these conditional operations
abbrev pub task_for : DetectorGraph → List Tag → WindowPlan → List TimedOperation → List ℕ → ℕ →
    Task
task_for g tags plan ops raw_slots last_slot =
    record {
      graph = g;
      tags = tags;
      plan = plan;
      operations = map operation_of ops;
      raw_slots = raw_slots;
      last_slot = last_slot;
    }

-- the same with operations and slots as they are at hand
abbrev pub task_timed : DetectorGraph → List Tag → WindowPlan → Timing → Task
task_timed g tags plan timing =
    task_for g tags plan timing.ops.items timing.raws.items timing.last_slot

-- each edge flips observables below this number alone
abbrev pub AreFlippedBelow : ℕ → List GraphEdge → Type 0
AreFlippedBelow n edges = All (λ (edge : GraphEdge). All (λ l. l < n) edge.mask) edges

-- Each operation has an observable, and each of its observables is one of the task's; it stands in
-- one of the slots.
pub record AreOperations (task : Task) : Type 0 where
  pub some : (op : ℕ) → op < length task.operations → (operation_at task op).labels ≢ []
  pub named : (op : ℕ) → op < length task.operations →
      All (λ l. l < length task.raw_slots) (operation_at task op).labels
  pub in_slots : (op : ℕ) → op < length task.operations →
      (operation_at task op).slot ≤ task.last_slot

-- The plan was made of this graph, each detector has a walk to the open boundary within its slot
-- and tile, and the parts are those of the windows. The gates are those of the operations, so none
-- comes too early. No slot is past the last, and each edge flips observables of the task alone.
pub record FitTogether (task : Task) (p : PlacedPlan) (parts : List Part)
    (ops : List TimedOperation) (gates : GateTable) : Type 0 where
  pub is_plan : IsPlanFor task.graph task.tags p
  pub grounded : IsGrounded task.graph task.tags
  pub divided : parts ≡ map (part_of task.graph p.plan) (range_with_len 0 (window_count p.plan))
  pub is_task : IsTaskOf task.graph p.plan ops task
  pub gated : AreGates task gates
  pub operations : AreOperations task
  pub tags_in : All (λ (tag : Tag). tag.slot ≤ task.last_slot) task.tags
  pub raws_in : All (λ slot. slot ≤ task.last_slot) task.raw_slots
  pub masks_in : AreFlippedBelow (length task.raw_slots) task.graph.edges
  pub few_raws : length task.raw_slots ≤ most_observables
  pub few_operations : length task.operations ≤ most_operations
  pub last_in : task.last_slot ≤ greatest_slot

-- a task whose parts fit together
pub record IsSetting (task : Task) : Type 0 where
  pub placed : PlacedPlan
  pub parts : List Part
  pub ops : List TimedOperation
  pub gates : GateTable
  pub plan_is : task.plan ≡ placed.plan
  pub is_graph : IsGraph task.graph
  pub fit : FitTogether task placed parts ops gates

-- In each setting the ready rounds are those of the operations, and below their slots.
abbrev pub TimelyLaw : Type 0
TimelyLaw =
    (task : Task) (op : ℕ) → IsSetting task → op < length task.operations →
    IsReadyRound task op (slice_index (ready_rounds task) op)
    × (slice_index (ready_rounds task) op < (operation_at task op).slot)
