-- From each detector the open boundary can be reached without leaving its slot and tile. So each
-- window has a correction for whatever defects it meets: a walk to the boundary from each of them.
use Rattle.std.specs.Prelude.{◌≡◌, ◌<◌, ℕ, true, [], ◌∷◌, Some, slice_get, List}
use Rattle.graph_model.specs.Graph.{GraphEdge, DetectorGraph, ends_of, ends_at}
use Rattle.graph_model.specs.Problems.{IsOpen}
use Rattle.window_model.specs.Cells.{CellOrder}
use Rattle.graph_model.specs.declared.Tag.{Tag}
use Rattle.window_model.specs.Windows.{WindowPlan, IsPlan, window_at, window_count}
use Rattle.window_model.specs.Parts.{part_of}
use Rattle.graph_model.specs.Graph.{IsGraph}
use Rattle.std.specs.Prelude.{length}

-- an edge with one end is at the detector; or an edge leads to another of its slot and tile from
-- which the boundary is reached
pub data ReachesOut (g : DetectorGraph) (tags : List Tag) : ℕ → Type 0 where
  leaves : {v : ℕ} (e : ℕ) (edge : GraphEdge) → slice_get g.edges e ≡ Some edge →
      ends_of edge ≡ v ∷ [] → ReachesOut g tags v
  stays : {v : ℕ} (e u : ℕ) → ends_at g v e ≡ true → ends_at g u e ≡ true → slice_get tags u
      ≡ slice_get tags v → ReachesOut g tags u → ReachesOut g tags v

abbrev pub IsGrounded : DetectorGraph → List Tag → Type 0
IsGrounded g tags = (v : ℕ) → v < g.vertices → ReachesOut g tags v

-- Where the graph is grounded, each place of a window's part has a walk to a free end.
abbrev pub OpenLaw : Type 0
OpenLaw =
    (g : DetectorGraph) (tags : List Tag) (order : CellOrder)
    (commit buffer : ℕ) (plan : WindowPlan) → IsGraph g → length tags ≡ g.vertices →
    IsPlan g tags order commit buffer plan → IsGrounded g tags →
    (w place : ℕ) → w < window_count plan → place < length (window_at plan w).detectors →
    IsOpen (part_of g plan w) place
