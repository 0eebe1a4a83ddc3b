use Rattle.std.proofs.Common.{List, length, ap, ◌∙◌, count_by, take}
use Rattle.window_model.specs.declared.Origin.{Origin}
use Rattle.window_model.specs.Speculation.{guesses_in, is_guess}
use Rattle.core_store.specs.Tickets.{ClaimBits}
use Rattle.run_report.proofs.Claimed.{guesses_are}
use Rattle.run_report.proofs.links.guesses_of.Goals as goal

pub returns-clause-value : goal.returns-clause-value
returns-clause-value c =
    let deps = c.claimed.result.0.now in
    let claim = c.claimed.result.1.now in
    let same = c.deref.ensures.value ∙ ap (λ (x : ClaimBits). x.origins) c.claim.view_is in
    c.guesses_among.ensures.value
    ∙ ap (λ (origins : List Origin). count_by is_guess (take (length deps) origins)) same
    ∙ guesses_are deps claim.origins claim.bits c.claimed.ensures.origins c.claimed.ensures.bits
    ∙ ap guesses_in c.claimed.ensures.links
