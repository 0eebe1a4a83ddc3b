-- A plan with the places at which its windows meet, and what each refusal of a plan says.
use Rattle.std.specs.Prelude.{◌≡◌, ◌≤◌, ◌+◌, ℕ, true, List, [], length, map, slice_index, slice_index_or, slice_range, sum_by, Some, None}
use Rattle.std.specs.List.{range_with_len}
use Rattle.std.specs.List.Sorted.{IsStrictlyIncreasing}
use Rattle.std.specs.Option.{option_map_or}
use Rattle.graph_model.specs.Graph.{DetectorGraph, is_in}
use Rattle.graph_model.specs.declared.Tag.{Tag}
use Rattle.window_model.specs.Cells.{CellOrder}
use Rattle.window_model.specs.Gates.{PlanFault, TooManyWindows, TooManyLinks, WindowTooLarge, plan_fault}
use Rattle.window_model.specs.Parts.{place_of}
use Rattle.window_model.specs.Windows.{Window, WindowPlan, IsPlan, places, window_at, window_count}
use Rattle.window_plan.specs.Limits.{most_detectors, most_links, most_windows}
use Rattle.number_sets.specs.Lists.{before}
use Rattle.window_plan.specs.declared.plan_error.PlanError.{PlanError}
use Rattle.window_plan.specs.declared.plan_error.PlanError.TheVariants as error

-- a plan, and for each window and each of its dependencies, in order, the places of the two
pub record PlacedPlan : Type 0 where
  pub plan : WindowPlan
  pub places : List (List (List ℕ))

-- the places of a dependency x of window w
abbrev pub places_at : PlacedPlan → ℕ → ℕ → List ℕ
places_at p x w =
    option_map_or (λ i. slice_index_or (slice_index_or p.places w []) i [])
    (place_of (window_at p.plan w).deps x) []

-- the windows by their lists
abbrev pub window_by : (detectors edges owned deps : List (List ℕ)) → List ℕ → ℕ → Window
window_by detectors edges owned deps lasts w = record {
  detectors = slice_index_or detectors w [];
  edges = slice_index_or edges w [];
  owned = slice_index_or owned w [];
  deps = slice_index_or deps w [];
  last = slice_index lasts w;
}

abbrev pub windows_by : (detectors edges owned deps : List (List ℕ)) → List ℕ → List Window
windows_by detectors edges owned deps lasts =
    map (window_by detectors edges owned deps lasts) (range_with_len 0 (length detectors))

-- the places by window, where all links have theirs in order of window and dependency
abbrev pub places_by_window : (deps links : List (List ℕ)) → List (List (List ℕ))
places_by_window deps links =
    map (λ w. slice_range links (before deps w) (before deps (w + 1)))
    (range_with_len 0 (length deps))

-- All lists are of the same windows, within all limits, and ascend. There is a list of places for
-- each link.
pub record IsTable (cells : List Tag) (detectors edges owned deps : List (List ℕ)) (lasts : List ℕ)
    (links : List (List ℕ)) : Type 0 where
  pub cells_long : length cells ≡ length detectors
  pub edges_long : length edges ≡ length detectors
  pub owned_long : length owned ≡ length detectors
  pub deps_long : length deps ≡ length detectors
  pub lasts_long : length lasts ≡ length detectors
  pub links_long : length links ≡ sum_by length deps
  pub few_windows : length detectors ≤ most_windows
  pub few_links : length links ≤ most_links
  pub few_detectors : (w : ℕ) → length (slice_index_or detectors w []) ≤ most_detectors
  pub detectors_rise : (w : ℕ) → IsStrictlyIncreasing (slice_index_or detectors w [])
  pub edges_rise : (w : ℕ) → IsStrictlyIncreasing (slice_index_or edges w [])
  pub owned_rise : (w : ℕ) → IsStrictlyIncreasing (slice_index_or owned w [])
  pub deps_rise : (w : ℕ) → IsStrictlyIncreasing (slice_index_or deps w [])
  pub places_rise : (i : ℕ) → IsStrictlyIncreasing (slice_index_or links i [])

-- What holds of each plan, whatever graph it was made of: it is within all limits, and its lists
-- ascend.
pub record IsOrdered (p : PlacedPlan) : Type 0 where
  pub cells : length p.plan.cells ≡ window_count p.plan
  pub few_windows : window_count p.plan ≤ most_windows
  pub few_detectors : (w : ℕ) → length (window_at p.plan w).detectors ≤ most_detectors
  pub detectors_rise : (w : ℕ) → IsStrictlyIncreasing (window_at p.plan w).detectors
  pub edges_rise : (w : ℕ) → IsStrictlyIncreasing (window_at p.plan w).edges
  pub owned_rise : (w : ℕ) → IsStrictlyIncreasing (window_at p.plan w).owned
  pub deps_rise : (w : ℕ) → IsStrictlyIncreasing (window_at p.plan w).deps
  pub places_rise : (x w : ℕ) → IsStrictlyIncreasing (places_at p x w)

-- A plan of the graph, within all limits, with the places of each dependency.
pub record IsPlacedPlan (g : DetectorGraph) (tags : List Tag) (order : CellOrder)
    (commit buffer : ℕ) (p : PlacedPlan) : Type 0 where
  pub is_plan : IsPlan g tags order commit buffer p.plan
  pub within : plan_fault p.plan ≡ None
  pub placed : (x w : ℕ) → is_in (window_at p.plan w).deps x ≡ true →
      places_at p x w ≡ places g p.plan x w

-- some plan of the graph goes beyond this limit first
abbrev pub HasFault : DetectorGraph → List Tag → CellOrder → ℕ → ℕ → PlanFault → Type 0
HasFault g tags order commit buffer fault =
    (plan : WindowPlan) × IsPlan g tags order commit buffer plan × (plan_fault plan ≡ Some fault)

-- what a refusal says
abbrev pub IsRefusal : DetectorGraph → List Tag → CellOrder → ℕ → ℕ → PlanError → Type 0
IsRefusal g tags order commit buffer (error.TooManyWindows n) =
    HasFault g tags order commit buffer (TooManyWindows n)
IsRefusal g tags order commit buffer (error.TooManyLinks n) =
    HasFault g tags order commit buffer (TooManyLinks n)
IsRefusal g tags order commit buffer (error.WindowTooLarge w n) =
    HasFault g tags order commit buffer (WindowTooLarge w n)
IsRefusal g tags order commit buffer error.Memory = Unit {0}
