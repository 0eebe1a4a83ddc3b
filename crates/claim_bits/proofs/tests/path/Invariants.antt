use Rattle.std.proofs.Common.{All}
use Rattle.graph_model.specs.Graph.{IsEdge}
use Rattle.claim_bits.proofs.tests.path.Given as goal

abbrev pub invariant-loop-row : goal.invariant-loop-row
invariant-loop-row l = All (IsEdge 3) l.edges.items
