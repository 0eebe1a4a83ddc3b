use Rattle.std.proofs.Common.{◌≡◌, ◌==◌, ◌&&◌, ◌∙◌, ap, sym, subst}
use Rattle.std.specs.Prelude.{nat_lt}
use Rattle.std.specs.List.{list_any}
use Rattle.surface_model.specs.Schedules.{same_basis}
use Rattle.surface_model.specs.Layout.{Place, readings_at}
use Rattle.error_map.specs.Keys.{IsNextKey}
use Rattle.error_map.specs.Readings.{AreOf, ReadKeys, pick}
use Rattle.error_map.proofs.ReadAt.{next_is_min, shown_is}
use Rattle.error_map.proofs.readings.Readings.space.Goals as goal

pub returns-clause-next : goal.returns-clause-next
returns-clause-next c = λ s wanted a of asked low.
    let r : ReadKeys =
    record { z = c.self.inside.z.items; x = c.self.inside.x.items; end = c.self.inside.end } in
    let q : Place = record { row = c.args.mechanism.row; column = c.args.mechanism.col } in
    let z = subst (λ ks. IsNextKey ks c.args.mechanism.slot q r.end c.next_number-z.result)
    c.deref.ensures.value c.next_number-z.ensures in
    let x = subst (λ ks. IsNextKey ks c.args.mechanism.slot q r.end c.next_number-x.result)
    c.deref-3.ensures.value c.next_number-x.ensures in
    c.min-next.ensures
    ∙ next_is_min s a wanted r (subst (AreOf s wanted) (sym c.self.view_is) of)
    c.args.mechanism.slot q asked low c.next_number-z.result c.next_number-x.result z x

pub returns-clause-shown : goal.returns-clause-shown
returns-clause-shown c = λ s wanted a of asked low.
    let r : ReadKeys =
    record { z = c.self.inside.z.items; x = c.self.inside.x.items; end = c.self.inside.end } in
    let q : Place = record { row = c.args.mechanism.row; column = c.args.mechanism.col } in
    let z = subst (λ ks. IsNextKey ks c.args.mechanism.slot q r.end c.next_number-z.result)
    c.deref.ensures.value c.next_number-z.ensures in
    let x = subst (λ ks. IsNextKey ks c.args.mechanism.slot q r.end c.next_number-x.result)
    c.deref-3.ensures.value c.next_number-x.ensures in
    c.is_first.ensures
    ∙ ap (λ n. n == c.min-next.result && nat_lt c.min-next.result r.end) c.pick.ensures
    ∙ subst (λ n. (pick c.args.basis c.next_number-z.result c.next_number-x.result == n
    && nat_lt n r.end) ≡ list_any (same_basis c.args.basis) (readings_at s n q))
    (sym c.min-next.ensures)
    (shown_is s a wanted r (subst (AreOf s wanted) (sym c.self.view_is) of) c.args.mechanism.slot q
    asked low c.next_number-z.result c.next_number-x.result z x c.args.basis)
