use Rattle.std.proofs.Common.{◌≡◌, true, sym, subst}
use Rattle.swiper_run.specs.Answers.{is_of_request}
use Rattle.swiper_run.proofs.top.grant.Goals as goal

pub returns-in-OfInput-clause-accepted : goal.returns-in-OfInput-clause-accepted
returns-in-OfInput-clause-accepted g c =
    subst (λ r. is_of_request r c.serve.result ≡ true) (sym c.in-OfInput.is)
    c.serve.ensures.accepted

pub returns-in-Make-clause-accepted : goal.returns-in-Make-clause-accepted
returns-in-Make-clause-accepted g c =
    subst (λ r. is_of_request r c.put_made.result ≡ true) (sym c.in-Make.is)
    c.put_made.ensures.accepted
