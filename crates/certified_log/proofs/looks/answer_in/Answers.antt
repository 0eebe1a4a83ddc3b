use Rattle.std.proofs.Common.{◌≡◌, IfSome, sym, ◌∙◌, subst}
use Rattle.window_model.specs.Parts.{part_of}
use Rattle.certified_log.proofs.Answered.{answer_is, claim_window, ticket_in}
use Rattle.certified_log.proofs.looks.answer_in.Goals as goal

pub answer_of-requires : goal.answer_of-requires
answer_of-requires c =
    ticket_in c.args.core.now c.is_state.ensures c.args.window c.in_ok-ticket.ticket
    (sym c.ticket_of.ensures ∙ c.in_ok-ticket.was)

pub returns-clause-set : goal.returns-clause-set
returns-clause-set c =
    answer_is c.args.core.now c.is_state.ensures c.args.window c.in_ok-ticket.ticket
    (sym c.ticket_of.ensures ∙ c.in_ok-ticket.was) _ c.answer_of.ensures.set

pub returns-clause-part : goal.returns-clause-part
returns-clause-part c =
    subst (λ w. IfSome c.answer_of.result (λ d. d.now.problem.part
    ≡ part_of c.args.core.now.task.graph c.args.core.now.task.plan w))
    (claim_window c.args.core.now c.is_state.ensures c.args.window c.in_ok-ticket.ticket
    (sym c.ticket_of.ensures ∙ c.in_ok-ticket.was)) c.answer_of.ensures.part
