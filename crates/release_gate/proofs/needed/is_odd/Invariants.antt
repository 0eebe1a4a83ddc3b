use Rattle.std.proofs.Common.{◌≡◌, ℕ, take}
use Rattle.graph_model.specs.Graph.{is_in}
use Rattle.graph_model.specs.Parity.{parity}
use Rattle.release_gate.proofs.needed.is_odd.Given as goal

-- the observables so far
abbrev pub invariant-loop-label : goal.invariant-loop-label
invariant-loop-label l =
    l.odd ≡ parity (λ (label : ℕ × ℕ). is_in l.mask label.0) (take l.label-index l.label-items)
