use Rattle.std.proofs.Common.{sym, subst}
use Rattle.window_model.specs.Speculation.{Verified, IsEnabled}
use Rattle.core_state.specs.States.{CoreTable, machine_of}
use Rattle.core_state.proofs.Follows.{from_view, has_room}
use Rattle.core_state.proofs.Events.{can_verify, verified_goes}
use Rattle.core_state.proofs.state.CoreState.verify.Goals as goal

pub verify-requires : goal.verify-requires
verify-requires c =
    can_verify _ c.self.invariant c.args.source c.args.window
    (subst (λ (t : CoreTable). IsEnabled t.task t.retries (machine_of t)
    (Verified c.args.source c.args.window)) (sym c.self.view_is) c.requires)

pub note-requires : goal.note-requires
note-requires c =
    has_room _ c.self.invariant (Verified c.args.source c.args.window)
    (subst (λ (t : CoreTable). IsEnabled t.task t.retries (machine_of t)
    (Verified c.args.source c.args.window)) (sym c.self.view_is) c.requires)

pub invariant_of-self : goal.invariant_of-self
invariant_of-self c =
    rw (c.verify.ensures, c.note.ensures)
    (verified_goes _ c.self.invariant c.args.source c.args.window
    (subst (λ (t : CoreTable). IsEnabled t.task t.retries (machine_of t)
    (Verified c.args.source c.args.window)) (sym c.self.view_is) c.requires)).parts

pub returns : goal.returns
returns c =
    from_view _ _ _ _ _ c.self.view_is
    (rw (c.note.ensures)
    (verified_goes _ c.self.invariant c.args.source c.args.window
    (subst (λ (t : CoreTable). IsEnabled t.task t.retries (machine_of t)
    (Verified c.args.source c.args.window)) (sym c.self.view_is) c.requires)).happened)
