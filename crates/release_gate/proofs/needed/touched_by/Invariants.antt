use Rattle.std.proofs.Common.{take}
use Rattle.release_gate.specs.Gated.{AreTouched}
use Rattle.release_gate.proofs.needed.touched_by.Given as goal

-- the edges so far
abbrev pub invariant-loop-edge : goal.invariant-loop-edge
invariant-loop-edge l = AreTouched l.graph (take l.edge-index l.edges) l.ops l.touched
