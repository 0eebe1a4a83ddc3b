use Rattle.std.proofs.Common.{◌<◌, All, length, ap, sym, subst, ◌∙◌, arith}
use Rattle.graph_model.proofs.Ascending.{increasing_length}
use Rattle.graph_model.proofs.Edges.{weight_of_le}
use Rattle.window_model.specs.Decoder.{Task}
use Rattle.run_report.proofs.totals.window_totals.Goals as goal

pub weight_of-requires : goal.weight_of-requires
weight_of-requires c =
    subst (λ (t : Task). All (λ e. e < length t.graph.edges) c.in-Some.kept.now)
    (sym (c.setting.view_is ∙ c.setting-setting.ensures)) c.in-Some.ensures.edges

pub returns-in-Some-clause-few : goal.returns-in-Some-clause-few
returns-in-Some-clause-few c =
    let few = increasing_length (length c.args.core.now.task.graph.edges) c.in-Some.kept.now
    c.as_slice.ensures.ascending c.in-Some.ensures.edges in
    let graph = ap (λ (t : Task). length t.graph.edges) (c.setting.view_is
    ∙ c.setting-setting.ensures) in
    omega (arith, few, graph, c.is_graph.ensures.count, ap length c.as_slice.ensures.value)

pub returns-in-Some-clause-light : goal.returns-in-Some-clause-light
returns-in-Some-clause-light c =
    let few = increasing_length (length c.args.core.now.task.graph.edges) c.in-Some.kept.now
    c.as_slice.ensures.ascending c.in-Some.ensures.edges in
    let graph = ap (λ (t : Task). length t.graph.edges) (c.setting.view_is
    ∙ c.setting-setting.ensures) in
    let light = weight_of_le c.setting.inside.graph c.is_graph.ensures.fit c.in-Some.kept.now in
    omega (arith, few, graph, light, c.is_graph.ensures.count, c.weight_of.ensures)
