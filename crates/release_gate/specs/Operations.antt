-- Conditional operations with the slots of their raw values, and the tasks that have them.
use Rattle.std.specs.Prelude.{◌≡◌, ℕ, List, [], All, length, map, slice_index, slice_index_or}
use Rattle.graph_model.specs.Graph.{DetectorGraph}
use Rattle.graph_model.specs.declared.Tag.{Tag}
use Rattle.window_model.specs.Cells.{CellOrder}
use Rattle.window_model.specs.Decoder.{Operation, Task}
use Rattle.window_model.specs.Windows.{WindowPlan, IsPlan}

-- the slot that an operation stands in, and the observables whose exclusive or it needs, each with
-- the slot of its raw value
pub record TimedOperation : Type 0 where
  pub slot : ℕ
  pub labels : List (ℕ × ℕ)

abbrev pub labels_of : TimedOperation → List ℕ
labels_of op = map (λ label. label.0) op.labels

abbrev pub raw_slots_of : TimedOperation → List ℕ
raw_slots_of op = map (λ label. label.1) op.labels

abbrev pub operation_of : TimedOperation → Operation
operation_of op = record { slot = op.slot; labels = labels_of op }

abbrev pub timed_at : List TimedOperation → ℕ → TimedOperation
timed_at ops k = slice_index_or ops k (record { slot = 0; labels = [] })

-- a task of this graph, plan and operations, in which the raw values have the slots that the
-- operations give them
pub record IsTaskOf (g : DetectorGraph) (p : WindowPlan) (ops : List TimedOperation)
    (task : Task) : Type 0 where
  pub graph : task.graph ≡ g
  pub plan : task.plan ≡ p
  pub operations : task.operations ≡ map operation_of ops
  pub raw_slots : All (λ op. map (slice_index task.raw_slots) (labels_of op) ≡ raw_slots_of op) ops

-- the plan was made of this graph
pub record IsPlanOf (g : DetectorGraph) (plan : WindowPlan) : Type 0 where
  pub tags : List Tag
  pub order : CellOrder
  pub commit : ℕ
  pub buffer : ℕ
  pub each_tag : length tags ≡ g.vertices
  pub is_plan : IsPlan g tags order commit buffer plan
