-- What a window gathers from its detectors' edges, by the owners of all edges.
use Rattle.std.specs.Prelude.{◌==◌, ◌&&◌, ℕ, Bool, nat_le, nat_lt, List, length, filter, slice_index}
use Rattle.std.specs.List.{list_any}
use Rattle.graph_model.specs.Graph.{DetectorGraph, incident_edges, is_in}
use Rattle.window_model.specs.Windows.{all_below}

-- whether an edge at the detector is owned by x
abbrev pub has_owner : DetectorGraph → List ℕ → ℕ → ℕ → Bool
has_owner g owners v x = list_any (λ e. slice_index owners e == x) (incident_edges g v)

-- the lower owners of edges at these detectors
abbrev pub deps_by : DetectorGraph → List ℕ → ℕ → ℕ → List ℕ → List ℕ
deps_by g owners count w detectors =
    all_below count (λ x. list_any (λ v. has_owner g owners v x) detectors && nat_lt x w)

-- the edges at these detectors that no lower window owns
abbrev pub edges_by : DetectorGraph → List ℕ → ℕ → List ℕ → List ℕ
edges_by g owners w detectors =
    all_below (length g.edges) (λ e. list_any (λ v. is_in (incident_edges g v) e) detectors
    && nat_le w (slice_index owners e))

-- the detectors with an edge that a lower window owns
abbrev pub border_by : DetectorGraph → List ℕ → ℕ → List ℕ → List ℕ
border_by g owners w detectors =
    filter (λ v. list_any (λ e. nat_lt (slice_index owners e) w) (incident_edges g v)) detectors

abbrev pub places_by : DetectorGraph → List ℕ → ℕ → List ℕ → List ℕ
places_by g owners x detectors = filter (λ v. has_owner g owners v x) detectors
