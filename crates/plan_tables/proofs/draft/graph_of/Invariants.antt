use Rattle.std.proofs.Common.{All}
use Rattle.graph_model.specs.Graph.{IsEdge}
use Rattle.plan_tables.proofs.draft.graph_of.Given as goal

abbrev pub invariant-loop-pair : goal.invariant-loop-pair
invariant-loop-pair l = All (IsEdge l.vertices) l.edges.items
