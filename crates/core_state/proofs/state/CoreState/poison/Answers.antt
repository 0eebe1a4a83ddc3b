use Rattle.std.proofs.Common.{sym, subst}
use Rattle.window_model.specs.Speculation.{Poisoned, IsEnabled}
use Rattle.core_state.specs.States.{CoreTable, machine_of}
use Rattle.core_state.proofs.Follows.{from_view, has_room}
use Rattle.core_state.proofs.Events.{can_vanish, poisoned_goes}
use Rattle.core_state.proofs.state.CoreState.poison.Goals as goal

pub give_up-requires-clause-window : goal.give_up-requires-clause-window
give_up-requires-clause-window c =
    let may = subst (λ (t : CoreTable). IsEnabled t.task t.retries (machine_of t)
    (Poisoned c.args.source c.args.window)) (sym c.self.view_is) c.requires in
    (can_vanish _ c.self.invariant c.args.window may.2.own may.2.is_pending).0

pub give_up-requires-clause-live : goal.give_up-requires-clause-live
give_up-requires-clause-live c =
    let may = subst (λ (t : CoreTable). IsEnabled t.task t.retries (machine_of t)
    (Poisoned c.args.source c.args.window)) (sym c.self.view_is) c.requires in
    (can_vanish _ c.self.invariant c.args.window may.2.own may.2.is_pending).1

pub note-requires : goal.note-requires
note-requires c =
    has_room _ c.self.invariant (Poisoned c.args.source c.args.window)
    (subst (λ (t : CoreTable). IsEnabled t.task t.retries (machine_of t)
    (Poisoned c.args.source c.args.window)) (sym c.self.view_is) c.requires)

pub invariant_of-self : goal.invariant_of-self
invariant_of-self c =
    rw (c.give_up.ensures, c.note.ensures)
    (poisoned_goes _ c.self.invariant c.args.source c.args.window
    (subst (λ (t : CoreTable). IsEnabled t.task t.retries (machine_of t)
    (Poisoned c.args.source c.args.window)) (sym c.self.view_is) c.requires)).parts

pub returns : goal.returns
returns c =
    from_view _ _ _ _ _ c.self.view_is
    (rw c.note.ensures
    (poisoned_goes _ c.self.invariant c.args.source c.args.window
    (subst (λ (t : CoreTable). IsEnabled t.task t.retries (machine_of t)
    (Poisoned c.args.source c.args.window)) (sym c.self.view_is) c.requires)).happened)
