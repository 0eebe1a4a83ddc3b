use Rattle.std.proofs.Common.{sym, ap, ◌∙◌, arith, length}
use Rattle.window_setting.proofs.Lawful.{laws_of}
use Rattle.claim_bits.proofs.Seeing.{guessed}
use Rattle.claim_bits.proofs.arrivals.Arrivals.write_guesses.Goals as goal

pub view-view-requires-clause-source : goal.view-view-requires-clause-source
view-view-requires-clause-source g c =
    let lower = (laws_of c.args.self.now.task c.is_setting.ensures).deps_lower c.args.window
    c.args.source c.requires.source in
    omega (arith, lower, c.requires.window)

pub returns-clause-guessed : goal.returns-clause-guessed
returns-clause-guessed g c m has =
    let long = c.loop-at.invariant.len ∙ c.requires.into
    ∙ sym (ap length c.places-places.ensures.value) in
    guessed (g.Q.Predictor.may_guess c.args.predictor.now) m c.args.self.now c.is_setting.ensures
    has
    c.args.source c.args.window c.requires.last c.places-places.result.now c.loop-at.into
    c.places-places.ensures.value c.places-places.ensures.below long
    (λ i l. c.loop-at.invariant.so_far i (omega (
      arith,
      l,
      c.loop-at-test.false,
      c.len-at-end.ensures,
      c.loop-at.invariant.len,
    )))
