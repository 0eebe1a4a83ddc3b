use Rattle.std.proofs.Common.{suc, length, sym, ap, ◌∙◌, subst, arith}
use Rattle.std.proofs.lemmas.List.{length-map}
use Rattle.matching_model.specs.Certificates.{free_end}
use Rattle.dist_search.specs.Hops.{Hops, IsHop, hops_from, measured, nearer}
use Rattle.dist_search.proofs.Least.{hops_fit, hops_long}
use Rattle.dist_search.proofs.Stars.{blank, measured_long}
use Rattle.dist_search.proofs.star.Star.hop.Goals as goal

pub plain_hop-plain-requires : goal.plain_hop-plain-requires
plain_hop-plain-requires c =
    let p = c.self.inside.problem.now in
    let ws = measured c.self.inside.sense c.self.inside.weights.now in
    let long = length-map (hops_from p p.part.edges) (nearer ws) in
    let two = hops_long p p.part.edges in
    let here = ap (λ (s : Hops). length s.hops) c.self.view_is in
    omega (arith, c.requires, long, two, here)

pub measured_hop-requires-clause-fit : goal.measured_hop-requires-clause-fit
measured_hop-requires-clause-fit c =
    let p = c.self.inside.problem.now in
    let sense = c.self.inside.sense in
    let ws = c.self.inside.weights.now in
    let long = length-map (hops_from p p.part.edges) (nearer (measured sense ws)) in
    let here = ap (λ (s : Hops). length s.hops) c.self.view_is in
    subst (λ n. IsHop n c.plain_hop-plain.result)
    (sym c.self.invariant.star.count ∙ measured_long sense ws)
    (subst (IsHop (suc (free_end p))) (sym c.plain_hop-plain.ensures)
    (hops_fit p c.self.invariant.star.is_part c.args.number blank
    (omega (arith, c.requires, long, here))).0)
