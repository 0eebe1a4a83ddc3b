use Rattle.std.proofs.Common.{◌∙◌, ap}
use Rattle.std.proofs.lemmas.Result.{on_ok_weaker}
use Rattle.graph_model.specs.Graph.{is_in}
use Rattle.window_model.specs.Windows.{all_below, is_reached}
use Rattle.number_sets.specs.Numbers.{Numbers}
use Rattle.window_plan.proofs.Gathered.{below_same}
use Rattle.window_plan.proofs.gather.window_detectors.Goals as goal

pub returns-clause-detectors : goal.returns-clause-detectors
returns-clause-detectors c =
    on_ok_weaker c.read_off.result
    (λ read. read
    ∙ ap (λ n. all_below n (is_in c.reach_all.new.found.members)) (c.in_ok-reach_all.ensures.bound
    ∙ c.in_ok-add_all.ensures.bound ∙ ap (λ (s : Numbers). s.bound) c.clear.ensures
    ∙ c.requires.bound)
    ∙ below_same c.args.view.now.graph.vertices (is_in c.reach_all.new.found.members)
    (is_reached c.args.view.now.graph c.args.view.now.homes c.args.view.now.window
    c.args.buffer) c.in_ok-reach_all.ensures.reached)
    c.read_off.ensures
