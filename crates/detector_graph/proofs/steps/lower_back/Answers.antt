use Rattle.std.proofs.Common.{None, false, arith}
use Rattle.std.proofs.lemmas.List.Elements.{Contains-get_or}
use Rattle.graph_model.specs.declared.PartEdge.{PartEdge}
use Rattle.detector_graph.proofs.steps.lower_back.Goals as goal

blank : PartEdge
blank = record { edge = 0; first = 0; second = None; weight = 0; owned = false }

pub loop-at-preserved : goal.loop-at-preserved
unfolding blank
loop-at-preserved c =
    c.lower_ends.ensures.led c.args.edges.now (Contains-get_or c.args.edges.now _ blank
    (omega arith)) c.loop-at.invariant
