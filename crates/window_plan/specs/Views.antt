-- One window of a graph, with the homes of all detectors and the owners of all edges.
use Rattle.std.specs.Prelude.{◌≡◌, ℕ, List, length, map}
use Rattle.graph_model.specs.Graph.{DetectorGraph}
use Rattle.window_model.specs.Windows.{owner_of}

pub record Viewed : Type 0 where
  pub graph : DetectorGraph
  pub homes : List ℕ
  pub owners : List ℕ
  pub window : ℕ

-- a home for each detector, and for each edge the owner that its ends' homes give
pub record IsOwned (g : DetectorGraph) (homes owners : List ℕ) : Type 0 where
  pub homes_long : length homes ≡ g.vertices
  pub owners_are : owners ≡ map (owner_of homes) g.edges
