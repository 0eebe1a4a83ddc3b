use Rattle.std.proofs.Common.{arith, ap, length, map, ◌∙◌}
use Rattle.std.proofs.lemmas.List.{length-map}
use Rattle.surface_model.specs.Schedules.{Schedule}
use Rattle.surface_model.specs.Measurements.{detectors, observables}
use Rattle.measure_map.specs.Placed.{placed_detector, placed_observable}
use Rattle.measure_map.proofs.Mapped.{map_made}
use Rattle.measure_map.proofs.map.MeasureMap.measured.Goals as goal

pub invariant_of-result : goal.invariant_of-result
invariant_of-result c =
    let s = c.args.schedule.now in
    let observed =
    c.in_ok-observables.ensures
    ∙ ap (λ (x : Schedule). map (placed_observable x) (observables x)) c.new.ensures in
    let long = ap length c.in_ok-detectors.ensures in
    let mapped = length-map (detectors s) (placed_detector s) in
    let total = c.in_ok-total.ensures.total in
    record {
      map_is = record {
        schedule = s;
        accepted = c.requires.accepted;
        given = map_made s c.in_ok-bits.bits c.in_ok-detectors.detectors.items
            c.in_ok-observables.observables.items c.in_ok-bits.ensures c.in_ok-detectors.ensures
            observed;
      };
      few = omega (arith, long, mapped, total, c.if-total-gt-MOST_DETECTORS.false);
      starts_are = c.in_ok-total.ensures.starts;
    }

pub returns-clause-given : goal.returns-clause-given
returns-clause-given c =
    map_made c.args.schedule.now c.in_ok-bits.bits c.in_ok-detectors.detectors.items
    c.in_ok-observables.observables.items c.in_ok-bits.ensures c.in_ok-detectors.ensures
    (c.in_ok-observables.ensures
    ∙ ap (λ (x : Schedule). map (placed_observable x) (observables x)) c.new.ensures)
