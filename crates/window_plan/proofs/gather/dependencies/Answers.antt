use Rattle.std.proofs.Common.{◌&&◌, ◌∙◌, ap, nat_lt}
use Rattle.std.specs.List.{list_any}
use Rattle.std.proofs.lemmas.Result.{on_ok_weaker}
use Rattle.graph_model.specs.Graph.{is_in}
use Rattle.window_model.specs.Windows.{all_below}
use Rattle.window_plan.specs.Gathers.{has_owner}
use Rattle.window_plan.proofs.Gathered.{gathered_over}
use Rattle.window_plan.proofs.gather.dependencies.Goals as goal

pub returns-clause-deps : goal.returns-clause-deps
returns-clause-deps c =
    on_ok_weaker c.read_off.result
    (λ read. read
    ∙ ap (λ n. all_below n (is_in c.loop-vertex.lower.members)) c.loop-vertex.invariant.bound
    ∙ gathered_over c.args.lower.now.bound
    (λ ds x. list_any (λ v. has_owner c.args.view.now.graph c.args.view.now.owners v x) ds
    && nat_lt x c.args.view.now.window) c.args.detectors.now c.loop-vertex.vertex-index
    c.loop-vertex.lower.members c.loop-vertex-test.false c.loop-vertex.invariant.grows)
    c.read_off.ensures
