-- What is decoded of a schedule and its rows, under a plan.
use Rattle.std.specs.Prelude.{◌≡◌, ℕ, Bool, false, List, map, slice_index_or}
use Rattle.surface_model.specs.Schedules.{CondLine, Schedule}
use Rattle.surface_model.specs.Layout.{last_slot}
use Rattle.surface_model.specs.Measurements.{Detector, detectors, Observable, observables, printed_name, parity_of}
use Rattle.surface_model.specs.Errors.{graph_of}
use Rattle.surface_model.specs.Tags.{tags_of}
use Rattle.window_model.specs.Windows.{WindowPlan}
use Rattle.window_model.specs.Decoder.{Operation, Task, Syndrome}

abbrev pub operation_of : CondLine → Operation
operation_of line = record { slot = line.slot; labels = line.labels }

abbrev pub task_of : Schedule → WindowPlan → Task
task_of s plan = record {
  graph = graph_of s;
  tags = tags_of s;
  plan = plan;
  operations = map operation_of s.conds;
  raw_slots = map (λ (o : Observable). o.slot) (observables s);
  last_slot = last_slot s;
}

-- the values that the rows give the detectors and the observables
abbrev pub syndrome_of : Schedule → List (List Bool) → Syndrome
syndrome_of s rows = record {
  value =
      λ v. slice_index_or (map (λ (d : Detector). parity_of s rows d.bits) (detectors s)) v false;
  raw =
      λ l. slice_index_or (map (λ (o : Observable). parity_of s rows o.bits) (observables s)) l
      false;
}

-- the names of the conditional operations and of the observables, as they are printed
abbrev pub labels_of : Schedule → List (List ℕ)
labels_of s = map (λ (line : CondLine). line.label) s.conds

abbrev pub names_of : Schedule → List (List ℕ)
names_of s = map printed_name (observables s)

-- the task of the schedule, under some plan
abbrev pub HasTask : Schedule → Task → Type 0
HasTask s task = (plan : WindowPlan) × (task ≡ task_of s plan)
