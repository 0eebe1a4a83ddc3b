use Rattle.std.proofs.Common.{◌≡◌, List, Err, ◌∙◌, refl, sym, ap, subst, rules}
use Rattle.std.specs.declared.option.Option.{Option}
use Rattle.std.proofs.lemmas.Result.{err_from_is_err_and}
use Rattle.detector_graph.specs.declared.folded.Folded.{Folded}
use Rattle.core_state.specs.Arrivals.{FitsSlot}
use Rattle.window_table.specs.Readings.{with_slot}
use Rattle.decode_rounds.specs.Seats.{HasBrought}
use Rattle.decode_rounds.proofs.Brought.{brought, fits, may_bring, stops_after, unread_stops}
use Rattle.decode_rounds.proofs.reading.bring_next.Goals as goal

pub returns-in_err-folded-clause-stopped : goal.returns-in_err-folded-clause-stopped
returns-in_err-folded-clause-stopped g c =
    let error = c.in_err-folded.field-0.0 in
    let unread = c.in_err-folded.ensures.refused in
    let is : c.from_residual.result ≡ Err error = search rules in
    rw is (λ first begin seated.
    unread_stops g.Z.NamesSetting.setting c.args.seat.now.rows c.args.seat.now.readings
    c.requires.at_slot c.requires.told c.requires.within (g.P.Port.left c.args.port.now)
    (g.P.Port.left c.next.new.port) (g.P.Port.tape c.args.port.now)
    (g.P.Port.tape c.next.new.port) unread.0 unread.1 first begin seated error unread.2)

pub returns-in_default-clause-stopped : goal.returns-in_default-clause-stopped
returns-in_default-clause-stopped g c =
    stops_after g.Z.NamesSetting.setting c.args.seat.now.rows c.next.new.self
    c.args.seat.now.readings c.in_ok-folded.folded c.requires.at_slot c.requires.told
    c.requires.within c.requires.task _ _ _ _ c.in_ok-folded.ensures.read
    c.in_ok-folded.ensures.slot

pub arrive_as-requires : goal.arrive_as-requires
arrive_as-requires g c =
    subst (FitsSlot g.Z.NamesSetting.setting) (sym c.in-Ok.ensures.ok)
    (fits g.Z.NamesSetting.setting c.args.seat.now.rows c.next.new.self
    c.args.seat.now.readings c.in_ok-folded.folded c.requires.at_slot c.requires.told
    c.requires.within c.requires.task _ _ _ _ c.in_ok-folded.ensures.read
    c.in_ok-folded.ensures.slot)

pub returns-clause-brought : goal.returns-clause-brought
returns-clause-brought g c =
    let told = c.arrive_as.ensures.brought c.if-not-arrive_as.false in
    subst
    (λ r. HasBrought g.Z.NamesSetting.setting c.args.seat.now.rows c.next.new.self
    c.args.seat.now.readings r (g.P.Port.left c.args.port.now) (g.P.Port.left c.next.new.port)
    (g.P.Port.tape c.args.port.now) (g.P.Port.tape c.next.new.port))
    (sym (told ∙ ap (with_slot c.args.seat.now.readings) c.in-Ok.ensures.ok))
    (brought g.Z.NamesSetting.setting c.args.seat.now.rows c.next.new.self
    c.args.seat.now.readings c.in_ok-folded.folded c.requires.at_slot c.requires.told
    c.requires.within c.requires.task _ _ _ _ c.in_ok-folded.ensures.read
    c.in_ok-folded.ensures.slot)
