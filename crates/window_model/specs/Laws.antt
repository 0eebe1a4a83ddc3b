-- Laws of plans and of runs: that windows share the edges without gap or overlap, that the
-- committed edges explain the defects, and that a released bit stays right.
use Rattle.std.specs.Prelude.{◌≡◌, ℕ, ◌<◌, ◌≤◌, Bool, true, ◌⊎◌, List, length, Some, IsSome, All}
use Rattle.graph_model.specs.Graph.{DetectorGraph, IsGraph, boundary, ends_at, is_in}
use Rattle.window_model.specs.Cells.{CellOrder}
use Rattle.graph_model.specs.declared.Tag.{Tag}
use Rattle.window_model.specs.Windows.{WindowPlan, IsPlan, slot_of, window_at, window_count, home_of, all_below, IsAncestor}
use Rattle.window_model.specs.Decoder.{Task, Syndrome, Step, Decoder, start, after_all, committed_edges, release_bit, needs, operation_at, HasRaw, IsRun}

-- What the decoder's laws rest on.
pub record PlanLaws (g : DetectorGraph) (tags : List Tag) (plan : WindowPlan) : Type 0 where
  -- each detector has a tag, and a window's detectors are the graph's
  pub tagged : length tags ≡ g.vertices
  pub inside : (w v : ℕ) → is_in (window_at plan w).detectors v ≡ true → v < g.vertices
  -- no detector of a window has a later slot than its last
  pub last_covers : (w v : ℕ) → is_in (window_at plan w).detectors v ≡ true →
      slot_of tags v ≤ (window_at plan w).last
  -- each edge is owned by one window
  pub owned_by_one : (e : ℕ) → e < length g.edges → (w : ℕ) × (w < window_count plan)
      × (is_in (window_at plan w).owned e ≡ true)
  pub owned_once : (w x e : ℕ) → is_in (window_at plan w).owned e ≡ true →
      is_in (window_at plan x).owned e ≡ true → w ≡ x
  -- a window's edges are its own, or those of later windows
  pub owned_inside : (w e : ℕ) → is_in (window_at plan w).owned e ≡ true →
      is_in (window_at plan w).edges e ≡ true
  pub none_lower : (w x e : ℕ) → is_in (window_at plan w).edges e ≡ true →
      is_in (window_at plan x).owned e ≡ true → w ≤ x
  -- dependencies ascend, and are lower
  pub deps_listed : (w : ℕ) → (window_at plan w).deps
      ≡ all_below (window_count plan) (is_in (window_at plan w).deps)
  pub deps_lower : (w x : ℕ) → is_in (window_at plan w).deps x ≡ true → x < w
  -- each detector is one of its home window's, which owns its edges but for those of the
  -- dependencies
  pub home_inside : (v : ℕ) → v < g.vertices →
      is_in (window_at plan (home_of plan.homes v)).detectors v ≡ true
  pub at_home : (v e : ℕ) → v < g.vertices → ends_at g v e ≡ true →
      (is_in (window_at plan (home_of plan.homes v)).owned e ≡ true)
      ⊎ ((x : ℕ) × (is_in (window_at plan (home_of plan.homes v)).deps x ≡ true)
      × (is_in (window_at plan x).owned e ≡ true))

-- In each run the committed edges explain each detector that is at home in a committed window.
abbrev pub SumLaw : Type 0
SumLaw =
    (task : Task) (s : Syndrome) (steps : List Step) (v : ℕ) →
    PlanLaws task.graph task.tags task.plan → IsRun task s steps → v < task.graph.vertices →
    IsSome ((after_all start steps).kept (home_of task.plan.homes v)) →
    boundary task.graph (committed_edges task (after_all start steps)) v ≡ s.value v

-- A released bit is what the committed edges say at the end of the run: no later commit changes it.
abbrev pub ReleaseLaw : Type 0
ReleaseLaw =
    (task : Task) (s : Syndrome) (steps : List Step) (op : ℕ) (bit : Bool) → IsRun task s steps →
    (after_all start steps).released op ≡ Some bit →
    bit ≡ release_bit task s (after_all start steps) op

-- Each window whose own last slot and whose ancestors' last slots have arrived is committed, and
-- each operation that may be released is.
pub record IsSettled (task : Task) (d : Decoder) : Type 0 where
  pub windows : (w : ℕ) → w < window_count task.plan → (window_at task.plan w).last < d.arrived →
      ((x : ℕ) → IsAncestor task.plan x w → (window_at task.plan x).last < d.arrived) →
      IsSome (d.kept w)
  pub operations : (op : ℕ) → op < length task.operations →
      All (λ w. IsSome (d.kept w)) (needs task op) →
      All (HasRaw task d) (operation_at task op).labels → IsSome (d.released op)

-- Each plan of a graph has the laws.
abbrev pub PlanLaw : Type 0
PlanLaw =
    (g : DetectorGraph) (tags : List Tag) (order : CellOrder) (commit buffer : ℕ)
    (plan : WindowPlan) → IsGraph g → length tags ≡ g.vertices →
    IsPlan g tags order commit buffer plan → PlanLaws g tags plan
