use Rattle.std.proofs.Common.{◌≡◌, get_or, sym, Err}
use Rattle.std.specs.declared.cmp.Ordering.TheVariants.{Equal}
use Rattle.std.proofs.lemmas.Cmp.{ranked}
use Rattle.graph_model.proofs.Ascending.{found_or_not}
use Rattle.boundary_fold.proofs.Links.{turned, not_turned}
use Rattle.boundary_fold.proofs.turns.turn.Goals as goal

pub returns-in-Ok-clause-value : goal.returns-in-Ok-clause-value
returns-in-Ok-clause-value c =
    let ds = c.args.detectors.now in
    let v = c.args.detector in
    let here : get_or ds c.in-Ok.at 0 ≡ v =
    ranked (get_or ds c.in-Ok.at 0) v Equal (sym (c.in-Ok.ensures.ok 0)) in
    turned ds c.args.into.now c.flip.new.self v c.in-Ok.at c.requires.rising c.in-Ok.ensures.bound
    here c.flip.ensures.value

pub returns-in_default-clause-value : goal.returns-in_default-clause-value
returns-in_default-clause-value c =
    not_turned c.args.detectors.now c.args.into.now c.args.detector
    (sym (found_or_not c.args.detectors.now c.args.detector (Err c.in_default.field-0)
    c.requires.rising c.in_default.ensures.position))
