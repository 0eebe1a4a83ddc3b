use Rattle.std.proofs.Common.{◌≡◌, ◌<◌, sym, ap, ◌∙◌, subst}
use Rattle.graph_model.specs.Problems.{Decoding}
use Rattle.window_model.specs.Parts.{part_of}
use Rattle.core_state.specs.States.{CoreTable, machine_of}
use Rattle.core_store.specs.Tickets.{answer_at, set_of}
use Rattle.core_state.proofs.Told.{answer_part, answer_set, if_some, sets_same}
use Rattle.core_state.proofs.Ticketed.{has_place}
use Rattle.core_state.proofs.state.CoreState.answer_of.Goals as goal

pub answer_of-requires : goal.answer_of-requires
answer_of-requires c =
    has_place _ c.self.invariant c.args.ticket
    (subst (λ (t : CoreTable). c.args.ticket < (machine_of t).tickets) (sym c.self.view_is)
    c.requires)

pub returns-clause-set : goal.returns-clause-set
returns-clause-set c =
    sets_same (λ d. d.now) c.answer_of.result ∙ ap set_of c.answer_of.ensures
    ∙ subst (λ (t : CoreTable). set_of (answer_at c.self.inside.tickets c.args.ticket)
    ≡ ((machine_of t).claim c.args.ticket).result) c.self.view_is
    (answer_set _ c.self.invariant c.args.ticket
    (subst (λ (t : CoreTable). c.args.ticket < (machine_of t).tickets) (sym c.self.view_is)
    c.requires))

pub returns-clause-part : goal.returns-clause-part
returns-clause-part c =
    let l = subst (λ (t : CoreTable). c.args.ticket < (machine_of t).tickets) (sym c.self.view_is)
    c.requires in
    if_some (λ d. d.now) (λ (d : Decoding). d.problem.part ≡ part_of c.args.self.now.task.graph
    c.args.self.now.task.plan ((machine_of c.args.self.now).claim c.args.ticket).window)
    c.answer_of.result
    (λ d e. subst (λ (t : CoreTable). d.problem.part ≡ part_of t.task.graph t.task.plan
    ((machine_of t).claim c.args.ticket).window) c.self.view_is
    (answer_part _ c.self.invariant c.args.ticket d l (sym c.answer_of.ensures ∙ e)))
