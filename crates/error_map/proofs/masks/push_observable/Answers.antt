use Rattle.std.proofs.Common.{◌≡◌, ◌<◌, ◌++◌, ◌∷◌, [], Some, All, OnOk, cond, length, map, slice_get, ap, ◌∙◌, sym, arith, subst}
use Rattle.graph_model.specs.Parity.{parity}
use Rattle.surface_laws.proofs.Graphs.{length_map}
use Rattle.measure_map.specs.Placed.{Placed, PlacedObservable, map_of}
use Rattle.slot_bits.specs.Seen.{bit_of}
use Rattle.error_map.specs.Seen.{error_in}
use Rattle.error_map.specs.Sees.{flips_observable, sees_place}
use Rattle.error_map.proofs.Masked.{member_is, watching}
use Rattle.error_map.proofs.masks.push_observable.Goals as goal

pub bits_of_slot-requires : goal.bits_of_slot-requires
bits_of_slot-requires c =
    let m = c.is_map.ensures in
    let number : c.args.number < length c.observables.result.now =
    omega (arith, c.requires, ap length c.observables.ensures) in
    let w = watching m.schedule m.accepted c.args.map.now m.given c.observables.result.now
    c.observables.ensures c.args.number c.index-observables-number.result number
    c.index-observables-number.is in
    subst (λ (p : Placed). c.observable.inside.slot < length p.lines) (sym m.given)
    (subst (λ (x : PlacedObservable). x.slot < length (map_of m.schedule).lines)
    (sym c.observable.view_is) w.slot)

pub is_odd-odd-requires : goal.is_odd-odd-requires
is_odd-odd-requires c =
    let m = c.is_map.ensures in
    let x = c.index-observables-number.result in
    let line = c.bits_of_slot.result.now in
    let number : c.args.number < length c.observables.result.now =
    omega (arith, c.requires, ap length c.observables.ensures) in
    let w = watching m.schedule m.accepted c.args.map.now m.given c.observables.result.now
    c.observables.ensures c.args.number x number c.index-observables-number.is in
    let slot_is : c.observable.inside.slot ≡ x.slot =
    ap (λ (o : PlacedObservable). o.slot) c.observable.view_is in
    let places_are : c.deref.result.now ≡ x.places =
    c.deref.ensures.value ∙ ap (λ (o : PlacedObservable). o.places) c.observable.view_is in
    let line_is : slice_get (map_of m.schedule).lines x.slot ≡ Some (map bit_of line) =
    ap (λ n. slice_get (map_of m.schedule).lines n) (sym slot_is)
    ∙ ap (λ (p : Placed). slice_get p.lines c.observable.inside.slot) (sym m.given)
    ∙ c.bits_of_slot.ensures in
    subst (λ ps. All (λ k. k < length line) ps) (sym places_are)
    (subst (λ n. All (λ k. k < n) x.places) (length_map bit_of line)
    (w.within (map bit_of line) line_is))

pub overflow_cast-number : goal.overflow_cast-number
overflow_cast-number c =
    let m = c.is_map.ensures in
    let number : c.args.number < length c.observables.result.now =
    omega (arith, c.requires, ap length c.observables.ensures) in
    let w = watching m.schedule m.accepted c.args.map.now m.given c.observables.result.now
    c.observables.ensures c.args.number c.index-observables-number.result number
    c.index-observables-number.is in
    let small : c.args.number < 512 = w.small in
    omega (arith, small)

pub returns : goal.returns
returns c = λ s a given known shown.
    let e = error_in c.args.effect in
    let x = c.index-observables-number.result in
    let line = c.bits_of_slot.result.now in
    let number : c.args.number < length c.observables.result.now =
    omega (arith, c.requires, ap length c.observables.ensures) in
    let w = watching s a c.args.map.now given c.observables.result.now c.observables.ensures
    c.args.number x number c.index-observables-number.is in
    let slot_is : c.observable.inside.slot ≡ x.slot =
    ap (λ (o : PlacedObservable). o.slot) c.observable.view_is in
    let places_are : c.deref.result.now ≡ x.places =
    c.deref.ensures.value ∙ ap (λ (o : PlacedObservable). o.places) c.observable.view_is in
    let line_is : slice_get (map_of s).lines x.slot ≡ Some (map bit_of line) =
    ap (λ n. slice_get (map_of s).lines n) (sym slot_is)
    ∙ ap (λ (p : Placed). slice_get p.lines c.observable.inside.slot) (sym given)
    ∙ c.bits_of_slot.ensures in
    let odd : c.is_odd-odd.result ≡ flips_observable s e c.args.number =
    c.is_odd-odd.ensures
    ∙ ap (λ u. parity (sees_place c.args.effect u (map bit_of line)) c.deref.result.now) slot_is
    ∙ ap (λ ps. parity (sees_place c.args.effect x.slot (map bit_of line)) ps) places_are
    ∙ w.odd c.args.effect (member_is s e known) shown (map bit_of line) line_is in
    subst (λ b. OnOk c.push_if.result (c.push_if.new.numbers.items ≡ c.args.mask.now.items
    ++ cond b (c.args.number ∷ []) [])) odd c.push_if.ensures
