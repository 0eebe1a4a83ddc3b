use Rattle.std.proofs.Common.{◌∙◌, ap, map, List}
use Rattle.graph_model.specs.Parity.{parity}
use Rattle.measure_map.specs.Placed.{Placed, PlacedDetector, slot_value}
use Rattle.measure_map.proofs.Folding.{defects_given, raws_by_row, raws_given}
use Rattle.measure_map.proofs.map.MeasureMap.fold.Goals as goal

pub returns-clause-defects : goal.returns-clause-defects
returns-clause-defects c s rows a e f g =
    c.in_ok-defects.ensures
    ∙ ap (λ (ds : List PlacedDetector). map
    (λ (d : PlacedDetector). parity (slot_value c.args.slot c.args.before.now c.args.row.now)
    d.bits) ds) c.detectors_of_slot-detectors.ensures
    ∙ defects_given s rows c.args.slot c.args.self.now c.args.row.now a e g c.args.before.now f

pub returns-clause-raws : goal.returns-clause-raws
returns-clause-raws c s rows a e f g =
    c.in_ok-raws.ensures ∙ c.deref-2.ensures.value ∙ c.in_ok-values.ensures
    ∙ ap (λ os. raws_by_row c.args.slot c.args.row.now os) c.deref.ensures.value
    ∙ ap (λ (m : Placed). raws_by_row c.args.slot c.args.row.now m.observables) c.self.view_is
    ∙ raws_given s rows c.args.slot c.args.self.now c.args.row.now a e g
