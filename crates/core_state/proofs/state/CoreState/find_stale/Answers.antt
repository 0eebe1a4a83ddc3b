use Rattle.std.proofs.Common.{◌≡◌, ◌<◌, length, sym, subst}
use Rattle.window_model.specs.Speculation.{MayBeStale, Stale}
use Rattle.poison_cascade.specs.Books.{TicketBook}
use Rattle.core_state.specs.States.{CoreTable, machine_of, running_of}
use Rattle.core_state.proofs.Follows.{from_view, has_room}
use Rattle.core_state.proofs.Told.{has_entry}
use Rattle.core_state.proofs.Ticketed.{has_place, in_plan, runs_found, stale_goes, taken_claims, window_of}
use Rattle.core_state.proofs.state.CoreState.find_stale.Goals as goal

pub window-window-requires : goal.window-window-requires
window-window-requires c =
    let may = subst (λ (t : CoreTable). MayBeStale (machine_of t) c.args.ticket)
    (sym c.self.view_is) c.requires in
    taken_claims _ c.self.invariant c.args.ticket may.taken

pub running-current-requires : goal.running-current-requires
running-current-requires c =
    let may = subst (λ (t : CoreTable). MayBeStale (machine_of t) c.args.ticket)
    (sym c.self.view_is) c.requires in
    subst (λ (b : TicketBook). c.window-window.result < length b.windows) (sym c.book.ensures)
    (subst (λ w. w < length c.self.inside.phases.book.windows)
    (sym (window_of _ c.self.invariant c.args.ticket _ may.taken c.window-window.ensures))
    (has_entry _ c.self.invariant _ (in_plan _ c.self.invariant c.args.ticket may.taken)))

pub close-requires : goal.close-requires
close-requires c =
    let may = subst (λ (t : CoreTable). MayBeStale (machine_of t) c.args.ticket)
    (sym c.self.view_is) c.requires in
    has_place _ c.self.invariant c.args.ticket may.taken

pub note-requires : goal.note-requires
note-requires c =
    has_room _ c.self.invariant (Stale c.args.ticket)
    (subst (λ (t : CoreTable). MayBeStale (machine_of t) c.args.ticket) (sym c.self.view_is)
    c.requires)

pub invariant_of-self : goal.invariant_of-self
invariant_of-self c =
    let may = subst (λ (t : CoreTable). MayBeStale (machine_of t) c.args.ticket)
    (sym c.self.view_is) c.requires in
    rw (c.close.ensures, c.note.ensures)
    (stale_goes _ c.self.invariant c.args.ticket c.running-current.result may
    (runs_found _ c.self.invariant c.args.ticket _ _ _ may.taken
    c.window-window.ensures c.book.ensures c.running-current.ensures)).parts

pub returns-clause-current : goal.returns-clause-current
returns-clause-current c =
    let may = subst (λ (t : CoreTable). MayBeStale (machine_of t) c.args.ticket)
    (sym c.self.view_is) c.requires in
    subst (λ (t : CoreTable). c.running-current.result ≡ running_of
    ((machine_of t).phase ((machine_of t).claim c.args.ticket).window)) c.self.view_is
    (runs_found _ c.self.invariant c.args.ticket _ _ _ may.taken
    c.window-window.ensures c.book.ensures c.running-current.ensures)

pub returns-clause-happened : goal.returns-clause-happened
returns-clause-happened c =
    let may = subst (λ (t : CoreTable). MayBeStale (machine_of t) c.args.ticket)
    (sym c.self.view_is) c.requires in
    from_view _ _ _ _ _ c.self.view_is
    (rw (c.close.ensures, c.note.ensures) (stale_goes _ c.self.invariant c.args.ticket
    c.running-current.result may
    (runs_found _ c.self.invariant c.args.ticket _ _ _ may.taken
    c.window-window.ensures c.book.ensures c.running-current.ensures)).happened)
