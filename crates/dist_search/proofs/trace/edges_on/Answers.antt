use Rattle.std.proofs.Common.{ℕ, ◌++◌, List, ◌∙◌, ap, subst}
use Rattle.std.proofs.lemmas.Result.{IfOk-weaker}
use Rattle.dist_search.specs.Hops.{Way}
use Rattle.dist_search.specs.Tables.{IsOdd}
use Rattle.dist_search.proofs.trace.edges_on.Goals as goal

pub returns : goal.returns
returns c =
    IfOk-weaker c.odd_edges.result (IsOdd c.trace-2.new.edges.items) (λ set. (one two : List ℕ) →
    Way c.args.steps.now c.args.route.first one → Way c.args.steps.now c.args.route.second two →
    IsOdd (one ++ two) set)
    (λ set so one two first second. subst (λ es. IsOdd es set) (c.in_ok-trace-2.ensures two second
    ∙ ap (λ es. es ++ two) (c.in_ok-trace.ensures one first
    ∙ ap (λ es. es ++ one) c.new-edges.ensures.items)) so) c.odd_edges.ensures
