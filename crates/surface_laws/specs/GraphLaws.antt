-- Laws of the detector graphs of accepted schedules: that errors make edges, that these are few at
-- each detector and lead to the boundary, and where masks and slots stand.
use Rattle.std.specs.Prelude.{◌≡◌, ◌<◌, ◌≤◌, ℕ, true, length, filter, slice_get, Some}
use Rattle.std.specs.List.{All, range_with_len}
use Rattle.graph_model.specs.Limits.{most_observables}
use Rattle.graph_model.specs.Parity.{parity}
use Rattle.graph_model.specs.Graph.{GraphEdge, IsGraph, ends_of, ends_at}
use Rattle.graph_model.specs.declared.Tag.{Tag}
use Rattle.window_model.specs.Grounded.{IsGrounded}
use Rattle.surface_model.specs.Schedules.{Schedule}
use Rattle.surface_model.specs.Measurements.{Measurement, Detector, detectors, Observable, observables}
use Rattle.surface_model.specs.Errors.{Mechanism, flips_bit, mechanisms, odd_places, weight_of_class, checked, watched, sources, graph_of}
use Rattle.surface_model.specs.Accepted.{IsAccepted}
use Rattle.surface_model.specs.Tags.{tags_of}

-- Each mechanism flips at most two detectors.
abbrev pub TwoDetectorsLaw : Type 0
TwoDetectorsLaw = (s : Schedule) → IsAccepted s →
    All (λ e. length (odd_places s e (checked s)) ≤ 2) (mechanisms s)

-- An edge ends at the detectors that its mechanism flips, its mask is the observables that it
-- flips, and its weight is the class's.
abbrev pub EdgesLaw : Type 0
EdgesLaw =
    (s : Schedule) → IsAccepted s → (length (sources s) ≡ length (graph_of s).edges)
    × ((k : ℕ) (e : Mechanism) → slice_get (sources s) k ≡ Some e →
    (edge : GraphEdge) × (slice_get (graph_of s).edges k ≡ Some edge)
    × (ends_of edge ≡ odd_places s e (checked s)) × (edge.mask ≡ odd_places s e (watched s))
    × (edge.weight ≡ weight_of_class s e.class))

-- Each detector is an end of at most ten edges.
abbrev pub TenEdgesLaw : Type 0
TenEdgesLaw =
    (s : Schedule) → IsAccepted s → (v : ℕ) → v < (graph_of s).vertices →
    length (filter (ends_at (graph_of s) v) (range_with_len 0 (length (graph_of s).edges))) ≤ 10

-- From each detector edges lead to one with a single end, past detectors of its slot and tile.
abbrev pub GroundedLaw : Type 0
GroundedLaw = (s : Schedule) → IsAccepted s → IsGraph (graph_of s)
    × (length (tags_of s) ≡ (graph_of s).vertices) × IsGrounded (graph_of s) (tags_of s)

-- The detectors' slots ascend.
abbrev pub AscendingLaw : Type 0
AscendingLaw = (s : Schedule) (u v : ℕ) (a b : Tag) → slice_get (tags_of s) u ≡ Some a →
    slice_get (tags_of s) v ≡ Some b → u < v → a.slot ≤ b.slot

-- A mechanism flips no detector of a slot before its own.
abbrev pub CausalLaw : Type 0
CausalLaw = (s : Schedule) → IsAccepted s → All (λ e. All (λ (d : Detector).
    parity (flips_bit s e) d.bits ≡ true → e.slot ≤ d.slot) (detectors s)) (mechanisms s)

-- The bits of an observable stand in one slot.
abbrev pub ObservablesLaw : Type 0
ObservablesLaw = (s : Schedule) →
    All (λ (o : Observable). All (λ (m : Measurement). m.slot ≡ o.slot) o.bits) (observables s)

-- There are at most 512 observables, and the masks have numbers below theirs.
abbrev pub MasksLaw : Type 0
MasksLaw = (s : Schedule) → IsAccepted s → (length (observables s) ≤ most_observables)
    × All (λ (edge : GraphEdge). All (λ l. l < length (observables s)) edge.mask) (graph_of s).edges
