use Rattle.std.proofs.Common.{◌≡◌, ℕ, max, fold, map, take}
use Rattle.release_gate.proofs.op_spec.OpSpec.last_raw.Given as goal

-- the greatest so far
abbrev pub invariant-loop-label : goal.invariant-loop-label
invariant-loop-label l =
    l.round ≡ fold max 0 (take l.label-index (map (λ (label : ℕ × ℕ). label.1) l.label-items))
