use Rattle.std.proofs.Common.{◌&&◌, ◌∙◌, ap, length}
use Rattle.std.specs.Prelude.{nat_le, slice_index}
use Rattle.std.specs.List.{list_any}
use Rattle.std.proofs.lemmas.Result.{on_ok_weaker}
use Rattle.graph_model.specs.Graph.{is_in, incident_edges}
use Rattle.window_model.specs.Windows.{all_below}
use Rattle.window_plan.proofs.Gathered.{gathered_over}
use Rattle.window_plan.proofs.gather.window_edges.Goals as goal

pub returns-clause-edges : goal.returns-clause-edges
returns-clause-edges c =
    on_ok_weaker c.read_off.result
    (λ read. read
    ∙ ap (λ n. all_below n (is_in c.loop-vertex.touched.members)) (c.loop-vertex.invariant.bound
    ∙ c.requires.bound)
    ∙ gathered_over (length c.args.view.now.graph.edges)
    (λ ds x. list_any (λ v. is_in (incident_edges c.args.view.now.graph v) x) ds
    && nat_le c.args.view.now.window (slice_index c.args.view.now.owners x))
    c.args.detectors.now c.loop-vertex.vertex-index c.loop-vertex.touched.members
    c.loop-vertex-test.false c.loop-vertex.invariant.grows)
    c.read_off.ensures
