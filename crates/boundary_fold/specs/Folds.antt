-- Plans of a graph, and the defects that links leave a window.
use Rattle.std.specs.Prelude.{◌≡◌, ℕ, Bool, false, List, [], ◌∷◌, Option, None, Some, filter_map, length, option_map, slice_get, slice_index_or}
use Rattle.graph_model.specs.Graph.{DetectorGraph}
use Rattle.graph_model.specs.Parity.{◌⊕◌}
use Rattle.graph_model.specs.declared.PartEdge.{PartEdge}
use Rattle.graph_model.specs.declared.Tag.{Tag}
use Rattle.window_model.specs.Cells.{CellOrder}
use Rattle.window_model.specs.Parts.{part_edge, place_of}
use Rattle.window_model.specs.Speculation.{bit_at}
use Rattle.window_model.specs.Windows.{Window, window_at}
use Rattle.window_plan.specs.Placed.{PlacedPlan, IsPlacedPlan, places_at}

-- the plan was made of this graph, whose detectors have these tags
pub record IsPlanFor (g : DetectorGraph) (tags : List Tag) (p : PlacedPlan) : Type 0 where
  pub order : CellOrder
  pub commit : ℕ
  pub buffer : ℕ
  pub each_tag : length tags ≡ g.vertices
  pub is_placed : IsPlacedPlan g tags order commit buffer p

-- what the links to these dependencies of window w flip at detector v: the exclusive or of their
-- bits there, where each dependency's bits stand at its places
abbrev pub link_flip : PlacedPlan → ℕ → List ℕ → List (List Bool) → ℕ → Bool
link_flip p w [] links v = false
link_flip p w (x ∷ deps) [] v = false
link_flip p w (x ∷ deps) (bits ∷ links) v =
    bit_at (places_at p x w) bits v ⊕ link_flip p w deps links v

-- the defect that these values and links leave window w at detector v
abbrev pub defect_at : PlacedPlan → ℕ → List Bool → List (List Bool) → ℕ → Bool
defect_at p w values links v =
    slice_index_or values v false ⊕ link_flip p w (window_at p.plan w).deps links v

-- ---- parts

-- a window that has these detectors and owns these edges
abbrev pub window_with : (detectors owned : List ℕ) → Window
window_with detectors owned = record {
  detectors = detectors;
  edges = [];
  owned = owned;
  deps = [];
  last = 0;
}

-- the edges of these numbers, as such a window sees them
abbrev pub edges_with : DetectorGraph → (detectors owned edges : List ℕ) → List PartEdge
edges_with g detectors owned edges = filter_map (λ e.
    option_map (part_edge (window_with detectors owned) e) (slice_get g.edges e)) edges

-- where an edge's second end stands
abbrev pub second_place : List ℕ → Option ℕ → Option ℕ
second_place detectors None = None
second_place detectors (Some v) = place_of detectors v
