-- What a guess may rest on, by the values that are kept of the detectors.
use Rattle.std.specs.Prelude.{◌≡◌, ◌==◌, ◌&&◌, ℕ, Bool, false, List, nat_lt, slice_index_or}
use Rattle.std.specs.List.{list_any}
use Rattle.graph_model.specs.Graph.{GraphEdge, ends_of, incident_edges, is_in}
use Rattle.window_model.specs.Decoder.{Task}
use Rattle.window_model.specs.Progress.{HasValues}
use Rattle.window_model.specs.Speculation.{Machine, syndrome_of}
use Rattle.window_model.specs.Windows.{edge_passes, home_of, slot_of, window_at}
use Rattle.window_model.specs.declared.GuessView.{GuessView}

-- how many slots have arrived, and a value for each detector
pub record Seen : Type 0 where
  pub task : Task
  pub arrived : ℕ
  pub values : List Bool

-- so many slots have arrived in the machine, and the values of their detectors are these
pub record HasSeen (m : Machine) (seen : Seen) : Type 0 where
  pub arrived : m.arrived ≡ seen.arrived
  pub values : HasValues seen.task (syndrome_of m) seen.arrived seen.values

-- an arrived detector of window x's own cell, whose value is 1
abbrev pub is_defect : Seen → ℕ → ℕ → Bool
is_defect seen x u = (home_of seen.task.plan.homes u == x
    && nat_lt (slot_of seen.task.tags u) seen.arrived) && slice_index_or seen.values u false

-- some end of the edge is such a detector
abbrev pub has_defect : Seen → ℕ → GraphEdge → Bool
has_defect seen x edge = list_any (is_defect seen x) (ends_of edge)

-- the window owns the edge, and some end of it is such a detector
abbrev pub joins : Seen → ℕ → ℕ → Bool
joins seen x e = is_in (window_at seen.task.plan x).owned e
    && edge_passes seen.task.graph (has_defect seen x) e

-- an edge at the detector joins it with such a one
abbrev pub is_linked : Seen → ℕ → ℕ → Bool
is_linked seen x v = list_any (joins seen x) (incident_edges seen.task.graph v)

-- what a guess of window w about x rests on, at the detector of one of their places
abbrev pub view_of : Seen → ℕ → ℕ → ℕ → GuessView
view_of seen x w v = record {
  source = x;
  target = w;
  place = v;
  value =
      slice_index_or seen.values v false;
  linked = is_linked seen x v;
}
