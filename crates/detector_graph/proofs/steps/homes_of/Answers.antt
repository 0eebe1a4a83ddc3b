use Rattle.detector_graph.proofs.Homes.{start_led}
use Rattle.detector_graph.proofs.steps.homes_of.Goals as goal

pub lower_back-requires-clause-led : goal.lower_back-requires-clause-led
lower_back-requires-clause-led c =
    start_led c.args.places c.args.edges.now c.in_ok-homes.homes.items
    (c.in_ok-homes.ensures.items_if_clones_equal (λ y e. e))
