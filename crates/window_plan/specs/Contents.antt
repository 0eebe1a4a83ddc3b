-- What windows hold beside their detectors and dependencies.
use Rattle.std.specs.Prelude.{◌≡◌, ℕ, List, filter, length, map}
use Rattle.std.specs.List.{flat_map, list_any, range_with_len}
use Rattle.graph_model.specs.Graph.{DetectorGraph, ends_at}
use Rattle.graph_model.specs.declared.Tag.{Tag}
use Rattle.window_model.specs.Windows.{detectors_of, edges_of, greatest, owned_of, slot_of}
use Rattle.window_plan.specs.Layouts.{AllWindows, IsLayout, deps_at}

abbrev pub edges_at : DetectorGraph → List ℕ → ℕ → ℕ → List ℕ
edges_at g homes buffer w = edges_of g homes w (detectors_of g homes buffer w)

abbrev pub last_at : DetectorGraph → List Tag → List ℕ → ℕ → ℕ → ℕ
last_at g tags homes buffer w = greatest (map (slot_of tags) (detectors_of g homes buffer w))

-- for each dependency the detectors of the window at an edge that it owns
abbrev pub places_in : DetectorGraph → List ℕ → ℕ → ℕ → ℕ → List (List ℕ)
places_in g homes count buffer w =
    map (λ x. filter (λ v. list_any (ends_at g v) (owned_of g homes x))
    (detectors_of g homes buffer w)) (deps_at g homes count buffer w)

-- the edges and the last slots of the first n windows, and the places of their links in order
pub record AreContents (g : DetectorGraph) (tags : List Tag) (homes : List ℕ) (count buffer n : ℕ)
    (edges : List (List ℕ)) (lasts : List ℕ) (links : List (List ℕ)) : Type 0 where
  pub edges_are : edges ≡ map (edges_at g homes buffer) (range_with_len 0 n)
  pub lasts_are : lasts ≡ map (last_at g tags homes buffer) (range_with_len 0 n)
  pub places_are : links ≡ flat_map (places_in g homes count buffer) (range_with_len 0 n)

-- ---- what is gathered of one window after another

pub record Gathered : Type 0 where
  pub windows : AllWindows
  pub tags : List Tag

abbrev pub edges_in : Gathered → ℕ → List ℕ
edges_in s w = edges_at s.windows.graph s.windows.homes s.windows.buffer w

abbrev pub last_in : Gathered → ℕ → ℕ
last_in s w = last_at s.windows.graph s.tags s.windows.homes s.windows.buffer w

abbrev pub links_in : Gathered → ℕ → List (List ℕ)
links_in s w = places_in s.windows.graph s.windows.homes s.windows.count s.windows.buffer w

-- a layout, a tag for each detector, what was found in all windows, and a set that has room for all
-- edges
pub record AreGathered (g : DetectorGraph) (tags : List Tag) (homes owners : List ℕ)
    (members mine : List (List ℕ)) (count buffer : ℕ) (detectors deps : List (List ℕ))
    (touched : ℕ) : Type 0 where
  pub layout : IsLayout g homes owners members mine count
  pub tagged : length tags ≡ g.vertices
  pub detectors_are : detectors ≡ map (detectors_of g homes buffer) (range_with_len 0 count)
  pub deps_are : deps ≡ map (deps_at g homes count buffer) (range_with_len 0 count)
  pub touched_is : touched ≡ length g.edges
