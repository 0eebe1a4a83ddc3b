use Rattle.core_state.proofs.Fitting.{fits, fits_raws, fits_values}
use Rattle.core_state.proofs.given.fits.Goals as goal

pub returns-then-not-has_each_value-clause-no : goal.returns-then-not-has_each_value-clause-no
returns-then-not-has_each_value-clause-no c = λ _ h.
    c.has_each_value.ensures.no c.if-not-has_each_value.true
    (fits_values c.args.timeline.now c.args.folded.now h)

pub returns-clause-yes : goal.returns-clause-yes
returns-clause-yes c = λ yes_.
    fits c.args.timeline.now c.args.folded.now
    (c.has_each_value.ensures.yes c.if-not-has_each_value.false) (c.has_each_raw.ensures.yes yes_)

pub returns-clause-no : goal.returns-clause-no
returns-clause-no c = λ no_ h.
    c.has_each_raw.ensures.no no_ (fits_raws c.args.timeline.now c.args.folded.now h)
