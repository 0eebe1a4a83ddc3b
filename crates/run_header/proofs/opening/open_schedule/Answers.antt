use Rattle.std.proofs.Common.{subst}
use Rattle.std.proofs.lemmas.Result.{MatchResult-weaker}
use Rattle.run_header.specs.Openings.{IsNoSchedule}
use Rattle.run_header.proofs.Opened.{not_opened}
use Rattle.run_header.proofs.opening.open_schedule.Goals as goal

pub returns-clause-refused : goal.returns-clause-refused
returns-clause-refused g c =
    let text = c.in_ok-text.ensures.text in
    MatchResult-weaker c.opening_of.result c.opening_of.ensures.refused (λ _ t. t)
    (λ why none. (
      c.in_ok-text.text.items,
      text.0,
      not_opened c.args.sizes c.in_ok-text.text.items (g.P.Port.left c.header.new.port) why text.1
          (subst (λ t. IsNoSchedule c.args.sizes t why) c.deref.ensures.value none),
    ))
