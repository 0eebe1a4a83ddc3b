-- What is known of all windows before any is searched, and what a first look at each shows.
use Rattle.std.specs.Prelude.{◌≡◌, ◌<◌, ◌≤◌, ◌*◌, ℕ, Bool, nat_lt, List, [], length, map, find, sum_by, slice_index_or, Option, None, Some, option_map, if◌then◌else◌}
use Rattle.std.specs.List.{range_with_len}
use Rattle.graph_model.specs.Graph.{DetectorGraph}
use Rattle.detector_graph.specs.Rows.{group_of}
use Rattle.window_plan.specs.Limits.{most_detectors, most_links, most_windows}
use Rattle.window_model.specs.Windows.{owner_of, detectors_of, deps_of}
use Rattle.window_plan.specs.declared.plan_error.PlanError.{PlanError}
use Rattle.window_plan.specs.declared.plan_error.PlanError.TheVariants as error
use Rattle.window_plan.specs.declared.survey.LargeWindow.{LargeWindow}

-- the homes, the owners, and by window the detectors at home there and the edges that it owns
pub record IsLayout (g : DetectorGraph) (homes owners : List ℕ) (members mine : List (List ℕ))
    (count : ℕ) : Type 0 where
  pub long : length homes ≡ g.vertices
  pub owned : owners ≡ map (owner_of homes) g.edges
  pub cells : length members ≡ count
  pub members_are : (w : ℕ) → slice_index_or members w [] ≡ group_of homes w
  pub lists : length mine ≡ count
  pub mine_are : (w : ℕ) → slice_index_or mine w [] ≡ group_of owners w
  pub few : count ≤ most_windows

abbrev pub deps_at : DetectorGraph → List ℕ → ℕ → ℕ → ℕ → List ℕ
deps_at g homes count buffer w = deps_of g homes count w (detectors_of g homes buffer w)

-- the windows of a graph, by the homes of its detectors, and the edges of a walk
pub record AllWindows : Type 0 where
  pub graph : DetectorGraph
  pub homes : List ℕ
  pub count : ℕ
  pub buffer : ℕ

abbrev pub detectors_in : AllWindows → ℕ → List ℕ
detectors_in ws w = detectors_of ws.graph ws.homes ws.buffer w

abbrev pub deps_in : AllWindows → ℕ → List ℕ
deps_in ws w = deps_at ws.graph ws.homes ws.count ws.buffer w

-- what was found in the window that was looked at last
pub record Searched : Type 0 where
  pub windows : AllWindows
  pub detectors : List ℕ
  pub deps : List ℕ

-- a layout, and sets that have room for all detectors and for all windows
pub record AreSearched (g : DetectorGraph) (homes owners : List ℕ) (members mine : List (List ℕ))
    (count found lower : ℕ) : Type 0 where
  pub layout : IsLayout g homes owners members mine count
  pub found_is : found ≡ g.vertices
  pub lower_is : lower ≡ count

-- whether a window has more detectors than the limit
abbrev pub is_large : DetectorGraph → List ℕ → ℕ → ℕ → Bool
is_large g homes buffer w = nat_lt most_detectors (length (detectors_of g homes buffer w))

abbrev pub large_window : DetectorGraph → List ℕ → ℕ → ℕ → LargeWindow
large_window g homes buffer w =
    record { window = w; detectors = length (detectors_of g homes buffer w) }

-- the first window that is too large, after one more was looked at
abbrev pub first_large : Option LargeWindow → ℕ → ℕ → Option LargeWindow
first_large (Some large) w size = Some large
first_large None w size =
    if nat_lt most_detectors size then Some (record { window = w; detectors = size }) else None

-- What the first n windows have: how many dependencies, the first one that is too large, and, where
-- none is, their detectors and dependencies.
pub record IsSurvey (g : DetectorGraph) (homes : List ℕ) (count buffer n : ℕ)
    (detectors deps : List (List ℕ)) (links : ℕ) (larger : Option LargeWindow) : Type 0 where
  pub linked : links ≡ sum_by length (map (deps_at g homes count buffer) (range_with_len 0 n))
  pub first : larger ≡ option_map (large_window g homes buffer)
      (find (is_large g homes buffer) (range_with_len 0 n))
  pub searched : larger ≡ None → detectors ≡ map (detectors_of g homes buffer) (range_with_len 0 n)
  pub depended : larger ≡ None → deps ≡ map (deps_at g homes count buffer) (range_with_len 0 n)
  pub bound : links ≤ most_windows * n

-- Windows go beyond this limit first: that of their dependencies, or that of the first window that
-- is too large.
abbrev pub IsBeyond : ℕ → Option LargeWindow → PlanError → Type 0
IsBeyond links larger (error.TooManyLinks n) = (n ≡ links) × (most_links < links)
IsBeyond links larger (error.WindowTooLarge w n) =
    (links ≤ most_links) × (larger ≡ Some (record { window = w; detectors = n }))
IsBeyond links larger (error.TooManyWindows n) = ⊥
IsBeyond links larger error.Memory = ⊥
