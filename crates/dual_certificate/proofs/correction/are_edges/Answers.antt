use Rattle.std.proofs.Common.{sym, ◌∙◌, Contains, get_or, arith}
use Rattle.graph_model.proofs.PartEdges.{numbers_of}
use Rattle.dual_certificate.proofs.Each.{each_more}
use Rattle.dual_certificate.proofs.Edges.{found_in, missed_in}
use Rattle.dual_certificate.proofs.correction.are_edges.Goals as goal

pub returns-in_default-clause-no : goal.returns-in_default-clause-no
returns-in_default-clause-no c _ all =
    let i = c.loop-number.number-index in
    missed_in c.args.problem.now.part.edges (get_or c.args.set.now i 0) (sym c.edge_of.ensures
    ∙ c.in_default.is) (all i 0 c.loop-number-test.true)

pub loop-number-preserved : goal.loop-number-preserved
loop-number-preserved c k d l =
    let edges = c.args.problem.now.part.edges in
    let i = c.loop-number.number-index in
    each_more (Contains (numbers_of edges)) c.args.set.now i 0 c.loop-number-test.true
    c.loop-number.invariant
    (found_in edges (get_or c.args.set.now i 0) c.in-Some.field-0 (sym c.edge_of.ensures
    ∙ c.in-Some.is)) k d l

pub returns-clause-yes : goal.returns-clause-yes
returns-clause-yes c _ k d l = let end = c.loop-number-test.false in
    c.loop-number.invariant k d (omega (arith, l, end))
