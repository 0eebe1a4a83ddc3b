use Rattle.std.proofs.Common.{◌≡◌, Some, option_map, sym, ap, ◌∙◌, subst}
use Rattle.window_model.specs.Speculation.{done, result_of}
use Rattle.core_state.specs.States.{CoreTable, machine_of}
use Rattle.window_core.proofs.Awaited.{sound}
use Rattle.window_core.proofs.Everywhere.{some_result, stands_held}
use Rattle.window_core.proofs.machine.Core.decoded.Goals as goal
use Rattle.window_model.proofs.Soundness.{done_standing}

pub answer_of-requires : goal.answer_of-requires
answer_of-requires c =
    let at_ = subst (λ (t : CoreTable). done ((machine_of t).phase c.args.window)
    ≡ Some c.in_ok-ticket.ticket) (sym c.self.view_is)
    (sym c.committed.ensures ∙ c.in_ok-ticket.was) in
    ((sound c.self.inside.state c.is_state.ensures).current c.args.window c.in_ok-ticket.ticket
    (stands_held _ _ (done_standing _ _ at_))).0

pub returns : goal.returns
returns c =
    let at_ = subst (λ (t : CoreTable). done ((machine_of t).phase c.args.window)
    ≡ Some c.in_ok-ticket.ticket) (sym c.self.view_is)
    (sym c.committed.ensures ∙ c.in_ok-ticket.was) in
    subst (λ (t : CoreTable). option_map (λ d. d.now.set) c.answer_of.result
    ≡ option_map (result_of (machine_of t)) (done ((machine_of t).phase c.args.window)))
    c.self.view_is
    (c.answer_of.ensures.set
    ∙ some_result _ ((sound c.self.inside.state c.is_state.ensures).least c.args.window
    c.in_ok-ticket.ticket (done_standing _ _ at_)).0
    ∙ ap (option_map (result_of (machine_of c.self.inside.state))) (sym at_))
