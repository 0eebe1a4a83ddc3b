use Rattle.std.proofs.Common.{◌≡◌, ◌<◌, false, Some, length, option_map, sym, subst}
use Rattle.window_model.specs.Parts.{part_of}
use Rattle.window_model.specs.Speculation.{MayReturn, Returned}
use Rattle.poison_cascade.specs.Books.{Live, entry_at}
use Rattle.core_state.specs.States.{CoreTable, machine_of}
use Rattle.core_state.proofs.Follows.{from_view, has_room}
use Rattle.core_state.proofs.Ticketed.{has_place, held_goes, holds, taken_claims, window_of}
use Rattle.core_state.proofs.state.CoreState.hold.Goals as goal

pub window-window-requires : goal.window-window-requires
window-window-requires c =
    let may = subst (λ (t : CoreTable). MayReturn t.task (machine_of t) c.args.ticket
    c.args.decoded.set) (sym c.self.view_is) c.requires.may in
    taken_claims _ c.self.invariant c.args.ticket may.taken

pub hold-requires-clause-window : goal.hold-requires-clause-window
hold-requires-clause-window c =
    let may = subst (λ (t : CoreTable). MayReturn t.task (machine_of t) c.args.ticket
    c.args.decoded.set) (sym c.self.view_is) c.requires.may in
    let fits = subst (λ (t : CoreTable). c.args.decoded.problem.part
    ≡ part_of t.task.graph t.task.plan ((machine_of t).claim c.args.ticket).window)
    (sym c.self.view_is) c.requires.part in
    subst (λ w. w < length c.self.inside.phases.book.windows)
    (sym (window_of _ c.self.invariant c.args.ticket _ may.taken c.window-window.ensures))
    (holds _ c.self.invariant c.args.ticket c.args.decoded may fits).0

pub hold-requires-clause-running : goal.hold-requires-clause-running
hold-requires-clause-running c =
    let may = subst (λ (t : CoreTable). MayReturn t.task (machine_of t) c.args.ticket
    c.args.decoded.set) (sym c.self.view_is) c.requires.may in
    let fits = subst (λ (t : CoreTable). c.args.decoded.problem.part
    ≡ part_of t.task.graph t.task.plan ((machine_of t).claim c.args.ticket).window)
    (sym c.self.view_is) c.requires.part in
    subst (λ w. option_map (λ (live : Live). live.stands)
    (entry_at c.self.inside.phases.book w).live ≡ Some false)
    (sym (window_of _ c.self.invariant c.args.ticket _ may.taken c.window-window.ensures))
    (holds _ c.self.invariant c.args.ticket c.args.decoded may fits).1

pub answer-requires : goal.answer-requires
answer-requires c =
    let may = subst (λ (t : CoreTable). MayReturn t.task (machine_of t) c.args.ticket
    c.args.decoded.set) (sym c.self.view_is) c.requires.may in
    has_place _ c.self.invariant c.args.ticket may.taken

pub note-requires : goal.note-requires
note-requires c =
    has_room _ c.self.invariant (Returned c.args.ticket c.args.decoded.set)
    (subst (λ (t : CoreTable). MayReturn t.task (machine_of t) c.args.ticket c.args.decoded.set)
    (sym c.self.view_is) c.requires.may)

pub invariant_of-self : goal.invariant_of-self
invariant_of-self c =
    let may = subst (λ (t : CoreTable). MayReturn t.task (machine_of t) c.args.ticket
    c.args.decoded.set) (sym c.self.view_is) c.requires.may in
    let fits = subst (λ (t : CoreTable). c.args.decoded.problem.part
    ≡ part_of t.task.graph t.task.plan ((machine_of t).claim c.args.ticket).window)
    (sym c.self.view_is) c.requires.part in
    rw (
      c.hold.ensures,
      c.answer.ensures,
      c.note.ensures,
      window_of _ c.self.invariant c.args.ticket _ may.taken c.window-window.ensures,
    )
    (held_goes _ c.self.invariant c.args.ticket c.args.decoded may fits).parts

pub returns : goal.returns
returns c =
    let may = subst (λ (t : CoreTable). MayReturn t.task (machine_of t) c.args.ticket
    c.args.decoded.set) (sym c.self.view_is) c.requires.may in
    let fits = subst (λ (t : CoreTable). c.args.decoded.problem.part
    ≡ part_of t.task.graph t.task.plan ((machine_of t).claim c.args.ticket).window)
    (sym c.self.view_is) c.requires.part in
    from_view _ _ _ _ _ c.self.view_is
    (rw (c.answer.ensures, c.note.ensures) (held_goes _ c.self.invariant c.args.ticket
    c.args.decoded may fits).happened)
