use Rattle.std.proofs.Common.{sym, ap, ◌∙◌, subst, All, suc, ◌<◌, length, arith}
use Rattle.matching_model.specs.Certificates.{free_end}
use Rattle.dist_search.specs.Tables.{AreRows}
use Rattle.dist_search.proofs.Rows.{members_few, members_low, table_of, table_is}
use Rattle.dist_search.proofs.table.table_over.Goals as goal
use Rattle.dist_search.proofs.table.table_over.Goals.{After-into_steps}

pub new-requires-2-clause-low : goal.new-requires-2-clause-low
new-requires-2-clause-low c =
    subst (All (λ v. v < suc (free_end c.args.problem.now)))
    (sym (c.deref.ensures.value ∙ c.requires)) (members_low c.args.problem.now)

pub new-requires-3-clause-low : goal.new-requires-3-clause-low
new-requires-3-clause-low c =
    subst (All (λ v. v < suc (free_end c.args.problem.now)))
    (sym (c.deref-3.ensures.value ∙ c.requires)) (members_low c.args.problem.now)

pub new-requires-3-clause-few : goal.new-requires-3-clause-few
new-requires-3-clause-few c =
    let few = members_few c.args.problem.now c.is_problem.ensures.part in
    let is = ap length (c.deref-3.ensures.value ∙ c.requires) in
    omega (arith, few, is)

rows_are : (c : After-into_steps) →
    AreRows c.args.problem.now c.args.vertices.items (length c.args.vertices.items)
    c.in_ok-rows.rows.entries.items c.in_ok-rows.rows.routes.items c.into_steps.result.items
rows_are c =
    let rows = c.in_ok-rows.rows in
    let steps = c.new-3.new.search.steps.items in
    subst (AreRows c.args.problem.now c.args.vertices.items (length c.args.vertices.items)
    rows.entries.items rows.routes.items) (sym (ap (λ v. v.items) c.into_steps.ensures))
    (subst (λ vs. AreRows c.args.problem.now vs (length vs) rows.entries.items rows.routes.items
    steps) c.deref-3.ensures.value c.in_ok-rows.ensures)

pub invariant_of-result : goal.invariant_of-result
invariant_of-result c =
    let rows = c.in_ok-rows.rows in
    table_is c.args.problem.now c.is_problem.ensures.part c.args.vertices.items rows.entries.items
    rows.routes.items c.into_steps.result.items c.requires (rows_are c)

pub returns : goal.returns
returns c =
    let rows = c.in_ok-rows.rows in
    table_of c.args.problem.now c.is_problem.ensures.part c.args.vertices.items
    rows.entries.items rows.routes.items c.into_steps.result.items c.requires
    (rows_are (goal.at.returns c).After-into_steps)
