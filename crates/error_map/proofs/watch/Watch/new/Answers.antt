use Rattle.std.proofs.Common.{◌≡◌, ◌<◌, ◌++◌, Some, All, length, map, flat_map, slice_get, ap, ◌∙◌, sym, arith, subst, rules}
use Rattle.std.specs.List.{range_with_len}
use Rattle.surface_laws.proofs.Graphs.{length_map}
use Rattle.measure_map.specs.Placed.{Placed, PlacedObservable, map_of}
use Rattle.slot_bits.specs.Seen.{bit_of}
use Rattle.error_map.specs.Watched.{bit_keys, observable_keys}
use Rattle.error_map.proofs.Masked.{watching}
use Rattle.error_map.proofs.Watching.{is_watch, observable_more, read_at, watch_shaped}
use Rattle.error_map.proofs.watch.Watch.new.Goals as goal

pub bits_of_slot-line-requires : goal.bits_of_slot-line-requires
bits_of_slot-line-requires c =
    let m = c.is_map.ensures in
    let w = watching m.schedule m.accepted c.args.map.now m.given
    c.observables-observables.result.now c.observables-observables.ensures c.loop-number.number
    c.index-observables-number.result c.loop-number-test.true c.index-observables-number.is in
    subst (λ (p : Placed). c.observable.inside.slot < length p.lines) (sym m.given)
    (subst (λ (x : PlacedObservable). x.slot < length (map_of m.schedule).lines)
    (sym c.observable.view_is) w.slot)

pub overflow_cast-number : goal.overflow_cast-number
overflow_cast-number c =
    let m = c.is_map.ensures in
    let w = watching m.schedule m.accepted c.args.map.now m.given
    c.observables-observables.result.now c.observables-observables.ensures c.loop-number.number
    c.index-observables-number.result c.loop-number-test.true c.index-observables-number.is in
    let small : c.loop-number.number < 512 = w.small in
    search (rules, small)

pub push_bits-requires : goal.push_bits-requires
push_bits-requires c =
    let m = c.is_map.ensures in
    let x = c.index-observables-number.result in
    let line = c.bits_of_slot-line.result.now in
    let w = watching m.schedule m.accepted c.args.map.now m.given
    c.observables-observables.result.now c.observables-observables.ensures c.loop-number.number
    x c.loop-number-test.true c.index-observables-number.is in
    let slot_is : c.observable.inside.slot ≡ x.slot =
    ap (λ (o : PlacedObservable). o.slot) c.observable.view_is in
    let places_are : c.deref.result.now ≡ x.places =
    c.deref.ensures.value ∙ ap (λ (o : PlacedObservable). o.places) c.observable.view_is in
    let line_is : slice_get (map_of m.schedule).lines x.slot ≡ Some (map bit_of line) =
    ap (λ n. slice_get (map_of m.schedule).lines n) (sym slot_is)
    ∙ ap (λ (p : Placed). slice_get p.lines c.observable.inside.slot) (sym m.given)
    ∙ c.bits_of_slot-line.ensures in
    subst (λ ps. All (λ k. k < length line) ps) (sym places_are)
    (subst (λ n. All (λ k. k < n) x.places) (length_map bit_of line)
    (w.within (map bit_of line) line_is))

pub loop-number-preserved : goal.loop-number-preserved
loop-number-preserved c =
    let m = c.args.map.now in
    let n = c.loop-number.number in
    let x = c.index-observables-number.result in
    let line = c.bits_of_slot-line.result.now in
    let slot_is : c.observable.inside.slot ≡ x.slot =
    ap (λ (o : PlacedObservable). o.slot) c.observable.view_is in
    let places_are : c.deref.result.now ≡ x.places =
    c.deref.ensures.value ∙ ap (λ (o : PlacedObservable). o.places) c.observable.view_is in
    observable_more m n x (map bit_of line) c.loop-number.keys.items c.push_bits.new.keys.items
    (ap (λ os. slice_get os n) (sym c.observables-observables.ensures)
    ∙ read_at c.observables-observables.result.now n x c.loop-number-test.true
    c.index-observables-number.is)
    (ap (slice_get m.lines) (sym slot_is) ∙ c.bits_of_slot-line.ensures) c.loop-number.invariant
    (c.in_ok-push_bits.ensures
    ∙ ap (λ ps. c.loop-number.keys.items ++ flat_map (bit_keys n (map bit_of line)) ps)
    places_are)

pub invariant_of-result : goal.invariant_of-result
invariant_of-result c =
    watch_shaped c.args.map.now c.loop-number.keys.items c.distinct-keys.result.items
    (c.loop-number.invariant
    ∙ ap (λ n. flat_map (observable_keys c.args.map.now) (range_with_len 0 n))
    (omega (arith, ap length c.observables-observables.ensures))) c.distinct-keys.ensures

pub returns : goal.returns
returns c =
    is_watch c.args.map.now c.loop-number.keys.items c.distinct-keys.result.items
    (c.loop-number.invariant
    ∙ ap (λ n. flat_map (observable_keys c.args.map.now) (range_with_len 0 n))
    (omega (arith, ap length c.observables-observables.ensures))) c.distinct-keys.ensures
