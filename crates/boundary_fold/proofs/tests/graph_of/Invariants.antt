use Rattle.std.proofs.Common.{All}
use Rattle.graph_model.specs.Graph.{IsEdge}
use Rattle.boundary_fold.proofs.tests.graph_of.Given as goal

abbrev pub invariant-loop-row : goal.invariant-loop-row
invariant-loop-row l = All (IsEdge l.vertices) l.edges.items
