use Rattle.std.proofs.Common.{sym, ◌∙◌, ap, subst, All, Contains}
use Rattle.graph_model.specs.Parity.{parity}
use Rattle.graph_model.specs.Problems.{Problem, meets}
use Rattle.graph_model.proofs.PartEdges.{numbers_of}
use Rattle.dual_certificate.proofs.Each.{boundary_same, boundary_agrees}
use Rattle.dual_certificate.proofs.correction.is_correction.Goals as goal

pub returns-then-not-are_edges-clause-no : goal.returns-then-not-are_edges-clause-no
returns-then-not-are_edges-clause-no c _ correction =
    c.are_edges.ensures.no c.if-not-are_edges.true (subst (All (Contains (numbers_of
    c.args.problem.now.part.edges))) (sym c.as_slice.ensures.value) correction.within)

pub returns-clause-yes : goal.returns-clause-yes
returns-clause-yes c h =
    let p = c.args.problem.now in
    record {
      ascending = c.as_slice.ensures.ascending;
      within = subst (All (Contains (numbers_of p.part.edges))) c.as_slice.ensures.value
          (c.are_edges.ensures.yes c.if-not-are_edges.false);
      matching =
          boundary_same p c.args.set.now c.in_ok-boundary.boundary c.in_ok-boundary.ensures.count
          (λ v. c.in_ok-boundary.ensures.value v
          ∙ ap (parity (meets p.part v)) c.as_slice-2.ensures.value) (c.same.ensures.equal h
          ∙ ap (λ (q : Problem). q.defects) c.problem.view_is);
    }

pub returns-clause-no : goal.returns-clause-no
returns-clause-no c h correction =
    let p = c.args.problem.now in
    c.same.ensures.differ h (boundary_agrees p c.args.set.now c.in_ok-boundary.boundary
    c.in_ok-boundary.ensures.count
    (λ v. c.in_ok-boundary.ensures.value v ∙ ap (parity (meets p.part v))
    c.as_slice-2.ensures.value) c.is_problem.ensures.defects correction.matching
    ∙ sym (ap (λ (q : Problem). q.defects) c.problem.view_is))
