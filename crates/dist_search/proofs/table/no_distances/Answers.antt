use Rattle.dist_search.proofs.Rows.{rows_of_none, table_is, table_of}
use Rattle.dist_search.proofs.table.no_distances.Goals as goal

pub invariant_of-result : goal.invariant_of-result
invariant_of-result c =
    let p = c.args.problem.now in
    table_is p c.is_problem.ensures.part c.args.vertices.items c.new.result.items
    c.new-2.result.items c.new-3.result.items c.requires.members
    (rows_of_none p c.args.vertices.items c.new.result.items c.new-2.result.items
    c.new-3.result.items c.requires.none c.new.ensures.items c.new-2.ensures.items)

pub returns : goal.returns
returns c =
    let p = c.args.problem.now in
    table_of p c.is_problem.ensures.part c.args.vertices.items c.new.result.items
    c.new-2.result.items c.new-3.result.items c.requires.members
    (rows_of_none p c.args.vertices.items c.new.result.items c.new-2.result.items
    c.new-3.result.items c.requires.none c.new.ensures.items c.new-2.ensures.items)
