-- The boundary of a set of edges, by the edges at a detector.
use Rattle.std.proofs.Common.{◌≡◌, ℕ, ◌<◌, ◌&&◌, List, length, filter, All, sym, ap, ◌∙◌, arith}
use Rattle.std.specs.List.{range_with_len}
use Rattle.std.specs.List.Sorted.{IsStrictlyIncreasing}
use Rattle.graph_model.specs.Parity.{parity}
use Rattle.graph_model.specs.Graph.{DetectorGraph, boundary, ends_at, incident_edges, is_in}
use Rattle.graph_model.proofs.Members.{All-at, parity-filter}
use Rattle.graph_model.proofs.Parities.{parity-same}
use Rattle.graph_model.proofs.Ascending.{rising_is}
use Rattle.graph_model.proofs.Truths.{and_comm}

-- an edge of the set that ends at the detector is an edge at the detector that is in the set
pub boundary_is : (g : DetectorGraph) (set : List ℕ) (v : ℕ) → IsStrictlyIncreasing set →
    All (λ e. e < length g.edges) set → parity (is_in set) (incident_edges g v) ≡ boundary g set v
boundary_is g set v up below =
    let all = range_with_len 0 (length g.edges) in
    let listed : set ≡ filter (is_in set) all = rising_is 0 (length g.edges) set up (λ e m.
    omega arith) (λ e m. let l = All-at (λ x. x < length g.edges) set e below m in
    omega (arith, l)) in
    parity-filter (is_in set) (ends_at g v) all
    ∙ parity-same (λ e. ends_at g v e && is_in set e) (λ e. is_in set e && ends_at g v e) (λ e.
    and_comm (ends_at g v e) (is_in set e)) all
    ∙ sym (parity-filter (ends_at g v) (is_in set) all)
    ∙ ap (parity (ends_at g v)) (sym listed)
