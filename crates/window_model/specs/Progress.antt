-- What is seen of a decoder while slots arrive: how many have, with what values, and the steps
-- taken; and what holds of it.
use Rattle.std.specs.Prelude.{◌≡◌, ◌≤◌, ◌<◌, ◌+◌, ℕ, Bool, false, List, [], IsSome, length, slice_index, slice_index_or}
use Rattle.graph_model.specs.Graph.{boundary}
use Rattle.window_model.specs.Decoder.{Task, Syndrome, Step, start, after_all, committed_edges, IsRun}
use Rattle.window_model.specs.Laws.{IsSettled}
use Rattle.window_model.specs.Windows.{slot_of, window_count}

-- what is decoded, how many slots have arrived, the values of the detectors and the raw values of
-- the observables, of which those of slots that have arrived count, and the steps taken
pub record Progress : Type 0 where
  pub task : Task
  pub arrived : ℕ
  pub values : List Bool
  pub raws : List Bool
  pub steps : List Step

-- the syndrome has these values at each detector whose slot is below `arrived`
pub record HasValues (task : Task) (s : Syndrome) (arrived : ℕ) (values : List Bool) : Type 0 where
  pub value : (v : ℕ) → v < task.graph.vertices → slot_of task.tags v < arrived →
      slice_index_or values v false ≡ s.value v

pub record HasRaws (task : Task) (s : Syndrome) (arrived : ℕ) (raws : List Bool) : Type 0 where
  pub raw : (l : ℕ) → l < length task.raw_slots → slice_index task.raw_slots l < arrived →
      slice_index_or raws l false ≡ s.raw l

-- the syndrome has the values that have arrived
pub record Fits (s : Syndrome) (m : Progress) : Type 0 where
  pub values : HasValues m.task s m.arrived m.values
  pub raws : HasRaws m.task s m.arrived m.raws

-- no slot has arrived, and no step was taken
pub record IsBeginning (task : Task) (m : Progress) : Type 0 where
  pub task_is : m.task ≡ task
  pub arrived : m.arrived ≡ 0
  pub steps : m.steps ≡ []

-- What always holds: for every syndrome that has the values that have arrived, the steps are a run,
-- and it is settled.
pub record IsProgress (m : Progress) : Type 0 where
  pub in_range : m.arrived ≤ m.task.last_slot + 1
  pub each_value : length m.values ≡ m.task.graph.vertices
  pub each_raw : length m.raws ≡ length m.task.raw_slots
  pub arrived : (after_all start m.steps).arrived ≡ m.arrived
  pub runs : (s : Syndrome) → Fits s m → IsRun m.task s m.steps
  pub settled : IsSettled m.task (after_all start m.steps)

-- Once every slot has arrived, each window is committed and each operation is released, and the
-- committed edges explain each detector's value.
pub record IsComplete (m : Progress) : Type 0 where
  pub committed : m.arrived ≡ m.task.last_slot + 1 → (w : ℕ) → w < window_count m.task.plan →
      IsSome ((after_all start m.steps).kept w)
  pub released : m.arrived ≡ m.task.last_slot + 1 → (op : ℕ) → op < length m.task.operations →
      IsSome ((after_all start m.steps).released op)
  pub explained : m.arrived ≡ m.task.last_slot + 1 →
      (s : Syndrome) → Fits s m → (v : ℕ) → v < m.task.graph.vertices →
      boundary m.task.graph (committed_edges m.task (after_all start m.steps)) v ≡ s.value v
