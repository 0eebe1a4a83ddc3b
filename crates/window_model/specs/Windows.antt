-- The windows of a detector graph, after Skoric et al.: a window decodes its commit region, the
-- cell of its own, together with a buffer round it, and commits the edges of the commit region
-- alone. `homes` gives each detector the number of its cell, which is the number of that cell's
-- window.
use Rattle.std.specs.Prelude.{◌≡◌, ℕ, zero, suc, min, max, Bool, not, false, ◌&&◌, ◌||◌, ◌==◌, nat_lt, nat_le, List, [], true, length, map, filter, slice_get, slice_index, slice_index_or, fold}
use Rattle.std.specs.List.{list_any, range_with_len}
use Rattle.std.specs.Option.{option_map_or}
use Rattle.graph_model.specs.Graph.{GraphEdge, DetectorGraph, ends_of, ends_at, is_in}
use Rattle.window_model.specs.Cells.{Cell, CellOrder, AreWindowCells, AreHomes}
use Rattle.graph_model.specs.declared.Tag.{Tag}

-- the detectors that it decodes (commit region and buffer), the edges that it may use, those that
-- it owns (and so commits), the windows whose commits it has to take into account, and the last
-- slot of its detectors
pub record Window : Type 0 where
  pub detectors : List ℕ
  pub edges : List ℕ
  pub owned : List ℕ
  pub deps : List ℕ
  pub last : ℕ

-- the windows by rank, with their cells, and for each detector its home: the number of its cell
pub record WindowPlan : Type 0 where
  pub cells : List Cell
  pub homes : List ℕ
  pub windows : List Window

-- the numbers below n at which the test gives true
abbrev pub all_below : ℕ → (ℕ → Bool) → List ℕ
all_below n test = filter test (range_with_len 0 n)

-- the greatest of the numbers, and 0 where there are none
abbrev pub greatest : List ℕ → ℕ
greatest xs = fold max 0 xs

-- where the test gives true at the edge of this number
abbrev pub edge_passes : DetectorGraph → (GraphEdge → Bool) → ℕ → Bool
edge_passes g test e = option_map_or test (slice_get g.edges e) false

abbrev pub home_of : List ℕ → ℕ → ℕ
home_of homes v = slice_index homes v

-- the owner of an edge: the lowest home of its ends
abbrev pub owner_of : List ℕ → GraphEdge → ℕ
owner_of homes edge = option_map_or (λ v. min (home_of homes edge.first) (home_of homes v))
    edge.second (home_of homes edge.first)

-- whether a walk of at most n edges leads to v from a detector at home in window w, through homes
-- from w on
abbrev pub is_reached : DetectorGraph → List ℕ → ℕ → ℕ → ℕ → Bool
is_reached g homes w zero v = home_of homes v == w
is_reached g homes w (suc n) v =
    is_reached g homes w n v || (nat_le w (home_of homes v) && list_any (λ edge.
    is_in (ends_of edge) v && list_any (is_reached g homes w n) (ends_of edge)) g.edges)

-- some end is among the detectors
abbrev pub touches : List ℕ → GraphEdge → Bool
touches detectors edge = list_any (is_in detectors) (ends_of edge)

-- some end is at home in a window below w
abbrev pub goes_below : List ℕ → ℕ → GraphEdge → Bool
goes_below homes w edge = list_any (λ v. nat_lt (home_of homes v) w) (ends_of edge)

-- commit region and buffer: the detectors that a walk of at most `buffer` edges reaches from the
-- window's cell through cells of no lower rank
abbrev pub detectors_of : DetectorGraph → List ℕ → ℕ → ℕ → List ℕ
detectors_of g homes buffer w = all_below g.vertices (is_reached g homes w buffer)

-- the edges with an end among the detectors and no end in a lower cell: those a lower window has
-- committed or left out already
abbrev pub edges_of : DetectorGraph → List ℕ → ℕ → List ℕ → List ℕ
edges_of g homes w detectors = all_below (length g.edges)
    (edge_passes g (λ edge. touches detectors edge && not (goes_below homes w edge)))

-- the edges whose lowest end is at home in the window: each edge has one owner
abbrev pub owned_of : DetectorGraph → List ℕ → ℕ → List ℕ
owned_of g homes w = all_below (length g.edges) (edge_passes g (λ edge. owner_of homes edge == w))

-- the owners of the edges that have one end among the detectors and one in a lower cell
abbrev pub deps_of : DetectorGraph → List ℕ → ℕ → ℕ → List ℕ → List ℕ
deps_of g homes count w detectors = all_below count (λ x. list_any (λ edge. touches detectors edge
    && goes_below homes w edge && owner_of homes edge == x) g.edges)

-- the slot of a detector
abbrev pub slot_of : List Tag → ℕ → ℕ
slot_of tags v = slice_index (map (λ (tag : Tag). tag.slot) tags) v

-- window w over these detectors, where `count` windows are in all
abbrev pub window_over : DetectorGraph → List Tag → List ℕ → ℕ → ℕ → List ℕ → Window
window_over g tags homes count w detectors = record {
  detectors = detectors;
  edges = edges_of g homes w detectors;
  owned = owned_of g homes w;
  deps = deps_of g homes count w detectors;
  last = greatest (map (slot_of tags) detectors);
}

abbrev pub window_of : DetectorGraph → List Tag → List ℕ → ℕ → ℕ → ℕ → Window
window_of g tags homes count buffer w =
    window_over g tags homes count w (detectors_of g homes buffer w)

-- the plan of a graph whose detectors have these tags (slot and tile), with blocks of `commit`
-- slots and buffers of `buffer` edges
pub record IsPlan (g : DetectorGraph) (tags : List Tag) (order : CellOrder) (commit buffer : ℕ)
    (plan : WindowPlan) : Type 0 where
  pub cells : AreWindowCells order commit tags plan.cells
  pub homes : AreHomes commit tags plan.cells plan.homes
  pub windows : plan.windows ≡ map (window_of g tags plan.homes (length plan.cells) buffer)
      (range_with_len 0 (length plan.cells))

-- ---- reading a plan

abbrev pub no_window : Window
no_window = record { detectors = []; edges = []; owned = []; deps = []; last = 0 }

abbrev pub window_at : WindowPlan → ℕ → Window
window_at plan w = slice_index_or plan.windows w no_window

abbrev pub window_count : WindowPlan → ℕ
window_count plan = length plan.windows

-- the detectors of window w that are ends of an edge owned by window x: where x's commit can change
-- w's defects
abbrev pub places : DetectorGraph → WindowPlan → ℕ → ℕ → List ℕ
places g plan x w =
    filter (λ v. list_any (ends_at g v) (window_at plan x).owned) (window_at plan w).detectors

-- x is a dependency of w, or an ancestor of one
pub data IsAncestor (plan : WindowPlan) : ℕ → ℕ → Type 0 where
  direct : {x w : ℕ} → is_in (window_at plan w).deps x ≡ true → IsAncestor plan x w
  through : {x y w : ℕ} → IsAncestor plan x y → is_in (window_at plan w).deps y ≡ true →
      IsAncestor plan x w
