-- The part of a graph that one window decodes, by itself: a matching problem that knows nothing of
-- the other windows, with detectors named by their places in it.
use Rattle.std.specs.Prelude.{◌≡◌, ◌↔◌, ◌<◌, ℕ, suc, Bool, ◌==◌, if◌then◌else◌, List, [], ◌∷◌, length, map, filter_map, slice_get, slice_index, Option, None, Some, option_map}
use Rattle.graph_model.specs.Graph.{GraphEdge, DetectorGraph, IsGraph, ends_of, ends_at, weight_at, is_in}
use Rattle.graph_model.specs.Corrections.{IsLeastCorrection}
use Rattle.graph_model.specs.Problems.{Part, Solves}
use Rattle.graph_model.specs.declared.PartEdge.{PartEdge}
use Rattle.window_model.specs.Cells.{CellOrder}
use Rattle.graph_model.specs.declared.Tag.{Tag}
use Rattle.window_model.specs.Windows.{Window, WindowPlan, window_at, window_count, IsPlan}

-- where a detector stands in the list, from 0; nothing where it doesn't
abbrev pub place_of : List ℕ → ℕ → Option ℕ
place_of [] v = None
place_of (u ∷ us) v = if u == v then Some 0 else option_map suc (place_of us v)

-- an edge of the window, with the places of its ends; an end that the window has not is left out
abbrev pub part_edge : Window → ℕ → GraphEdge → PartEdge
part_edge window e edge =
    let places = filter_map (place_of window.detectors) (ends_of edge) in
    record {
      edge = e;
      first = slice_index places 0;
      second = slice_get places 1;
      weight = edge.weight;
      owned = is_in window.owned e;
    }

-- the part of a window of this number
abbrev pub part_over : DetectorGraph → ℕ → Window → Part
part_over g w window = record {
  window = w;
  detectors = window.detectors;
  edges = filter_map (λ e. option_map (part_edge window e) (slice_get g.edges e)) window.edges;
}

abbrev pub part_of : DetectorGraph → WindowPlan → ℕ → Part
part_of g plan w = part_over g w (window_at plan w)

-- The sets that solve the part by itself are the least sets of the window.
abbrev pub PartLaw : Type 0
PartLaw =
    (g : DetectorGraph) (tags : List Tag) (order : CellOrder)
    (commit buffer : ℕ) (plan : WindowPlan) → IsGraph g → length tags ≡ g.vertices →
    IsPlan g tags order commit buffer plan →
    (w : ℕ) → w < window_count plan → (defect : ℕ → Bool) (set : List ℕ) →
    Solves (record { part = part_of g plan w; defects = map defect (window_at plan w).detectors })
    set
    ↔ IsLeastCorrection (ends_at g) (weight_at g) (window_at plan w).detectors
    (window_at plan w).edges defect set
