use Rattle.std.proofs.Common.{ap, ◌∙◌}
use Rattle.graph_model.specs.Graph.{is_in}
use Rattle.graph_model.proofs.Ascending.{found_or_not}
use Rattle.window_model.specs.Windows.{window_at}
use Rattle.claim_bits.specs.Seen.{Seen}
use Rattle.claim_bits.proofs.arrivals.Arrivals.owns.Goals as goal

pub returns : goal.returns
returns c =
    c.is_ok.ensures.value
    ∙ found_or_not c.owned.result.now c.args.edge c.binary_search.result c.owned.ensures.ascending
    c.binary_search.ensures.position
    ∙ ap (λ xs. is_in xs c.args.edge) c.owned.ensures.value
    ∙ ap (λ (s : Seen). is_in (window_at s.task.plan c.args.window).owned c.args.edge)
    c.self.view_is
