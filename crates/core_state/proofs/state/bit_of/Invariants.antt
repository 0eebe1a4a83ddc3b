use Rattle.std.proofs.Common.{◌≡◌, ℕ, false, slice_index_or, take}
use Rattle.graph_model.specs.Parity.{◌⊕◌, parity}
use Rattle.core_state.proofs.state.bit_of.Given as goal

-- the observables so far
abbrev pub invariant-loop-label : goal.invariant-loop-label
invariant-loop-label l = l.bit ≡ parity (λ (label : ℕ × ℕ). slice_index_or l.raws label.0 false
    ⊕ slice_index_or l.frame label.0 false) (take l.label-index l.label-items)
