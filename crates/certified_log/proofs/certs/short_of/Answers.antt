use Rattle.std.proofs.Common.{ap, rules, subst}
use Rattle.graph_model.specs.Problems.{Decoding}
use Rattle.matching_model.specs.Certified.{IsCertified}
use Rattle.log_reader.specs.Steps.{AreEdges}
use Rattle.certified_log.proofs.Answered.{with_certificate}
use Rattle.certified_log.proofs.certs.short_of.Goals as goal

pub returns-in-Some : goal.returns-in-Some
returns-in-Some c =
    let is : IsCertified c.decoded.inside.problem c.decoded.inside.set c.in-Some.cert = search rules
    in
    with_certificate c.args.decoded.now.problem c.args.decoded.now.set c.in-Some.cert
    c.kept_short.result c.is_least.ensures.least
    (subst AreEdges (ap (λ (d : Decoding). d.set) c.decoded.view_is) c.is_set.ensures)
    (subst (λ (d : Decoding). IsCertified d.problem d.set c.in-Some.cert) c.decoded.view_is is)
    c.kept_short.ensures
