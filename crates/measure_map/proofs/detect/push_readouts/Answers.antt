use Rattle.std.proofs.Common.{◌++◌, ap, ◌∙◌, arith}
use Rattle.std.proofs.lemmas.Result.{on_ok_weaker}
use Rattle.surface_model.specs.Layout.{Place, covered}
use Rattle.surface_model.specs.Measurements.{bits_of_slot}
use Rattle.measure_map.specs.Slots.{found_places}
use Rattle.measure_map.proofs.Detecting.{two_rows}
use Rattle.measure_map.proofs.detect.push_readouts.Goals as goal

pub returns : goal.returns
returns c =
    let r = c.corner.inside in let v = c.args.view.now in
    let bits = bits_of_slot v.schedule v.slot in
    on_ok_weaker c.push_row-3.result (λ h. two_rows v.slot bits r.row r.col c.args.places.now.items
    c.push_row-2.new.places.items c.push_row-3.new.places.items
    (λ e. omega (arith, e, c.if-corner-eq0.false)) c.in_ok-push_row.ensures h
    ∙ ap (λ (p : Place). c.args.places.now.items ++ found_places v.slot bits (covered p))
    c.corner.view_is)
    c.push_row-3.ensures
