use Rattle.std.proofs.Common.{◌≡◌, ◌+◌, ◌<◌, suc, All, length, sym, ap, ◌∙◌, subst, arith}
use Rattle.detector_graph.specs.Rows.{group_of}
use Rattle.detector_graph.proofs.Homes.{starts_in, starts_long}
use Rattle.detector_graph.proofs.steps.steps_of.Goals as goal

pub grouped-requires-clause-groups : goal.grouped-requires-clause-groups
grouped-requires-clause-groups c =
    let n = c.args.places in
    let more : suc n ≡ n + 1 = omega arith in
    subst (λ m. All (λ v. v < m) c.deref.result.now) more
    (subst (All (λ v. v < suc n)) (sym (c.deref.ensures.value ∙ c.in_ok-starts.ensures))
    (starts_in n c.args.edges.now c.requires.fit))

pub grouped-requires-clause-few : goal.grouped-requires-clause-few
grouped-requires-clause-few c =
    let long = starts_long c.args.places c.args.edges.now in
    let is = ap length (c.deref.ensures.value ∙ c.in_ok-starts.ensures) in
    let few = c.requires.few_edges in
    omega (arith, long, is, few)

pub returns-clause-rows : goal.returns-clause-rows
returns-clause-rows c v =
    c.in_ok-rows.ensures.rows v ∙ ap (λ vs. group_of vs v)
    (c.deref.ensures.value ∙ c.in_ok-starts.ensures)
