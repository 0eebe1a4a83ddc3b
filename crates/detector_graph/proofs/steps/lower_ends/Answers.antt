use Rattle.std.proofs.Common.{◌≡◌, ◌+◌, get_or, set, subst, sym, ap, ◌∙◌, arith}
use Rattle.std.proofs.lemmas.Grind.{get_or_default_zero}
use Rattle.detector_graph.specs.Steps.{AreLed, far_of}
use Rattle.detector_graph.proofs.Homes.{far_in, lower_far, lower_first}
use Rattle.detector_graph.proofs.steps.lower_ends.Goals as goal

pub returns-then-there-index-clause-led : goal.returns-then-there-index-clause-led
returns-then-there-index-clause-led c edges has are =
    let homes = c.args.homes.now.items in
    let edge = c.args.edge.now in
    let far = far_of c.args.places edge in
    let low = (far_in c.args.places edge c.requires.fits).0 in
    let at_far : c.index.result.now ≡ get_or homes far 0 =
    c.index.ensures ∙ ap (λ v. get_or homes v c.index.result.now) c.far_end-far.ensures
    ∙ get_or_default_zero homes far c.index.result.now (omega (arith, low, c.requires.count)) in
    let low_first = c.requires.fits.first in
    let at_first : c.index-3.result.now ≡ get_or homes edge.first 0 =
    c.index-3.ensures ∙ get_or_default_zero homes edge.first c.index-3.result.now
    (omega (arith, low_first, c.requires.count)) in
    lower_first c.args.places homes c.requires.count c.requires.low edge c.requires.fits
    (c.index.result.now + edge.weight)
    (ap (λ n. n + edge.weight) at_far) (omega (arith, at_first, c.if-there-index.true)) edges has
    are

pub returns-then-back-index-clause-led : goal.returns-then-back-index-clause-led
returns-then-back-index-clause-led c edges has are =
    let homes = c.args.homes.now.items in
    let edge = c.args.edge.now in
    let far = far_of c.args.places edge in
    let low = (far_in c.args.places edge c.requires.fits).0 in
    let at_far : c.index-4.result.now ≡ get_or homes far 0 =
    c.index-4.ensures ∙ ap (λ v. get_or homes v c.index-4.result.now) c.far_end-far.ensures
    ∙ get_or_default_zero homes far c.index-4.result.now (omega (arith, low, c.requires.count)) in
    let low_first = c.requires.fits.first in
    let at_first : c.index-2.result.now ≡ get_or homes edge.first 0 =
    c.index-2.ensures ∙ get_or_default_zero homes edge.first c.index-2.result.now
    (omega (arith, low_first, c.requires.count)) in
    let n = c.index-2.result.now + edge.weight in
    subst (λ v. AreLed c.args.places edges (set homes v n)) (sym c.far_end-far.ensures)
    (lower_far c.args.places homes c.requires.count c.requires.low edge c.requires.fits n
    (ap (λ n. n + edge.weight) at_first) (omega (arith, at_far, c.if-back-index.true)) edges has
    are)
