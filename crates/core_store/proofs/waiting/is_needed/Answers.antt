use Rattle.std.proofs.Common.{ap, ◌∙◌}
use Rattle.graph_model.specs.Graph.{is_in}
use Rattle.graph_model.proofs.Ascending.{found_or_not}
use Rattle.core_store.proofs.waiting.is_needed.Goals as goal

pub returns : goal.returns
returns c =
    c.is_ok.ensures.value
    ∙ found_or_not c.needs.result.now c.args.window c.binary_search.result c.needs.ensures.ascending
    c.binary_search.ensures.position
    ∙ ap (λ xs. is_in xs c.args.window) c.needs.ensures.value
