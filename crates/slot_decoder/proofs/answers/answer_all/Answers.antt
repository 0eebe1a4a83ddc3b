use Rattle.std.proofs.Common.{◌∙◌, sym, ap, arith}
use Rattle.core_state.specs.States.{CoreTable, machine_of}
use Rattle.slot_decoder.proofs.Settling.{answered_both, answered_none, closed_next, idle_now}
use Rattle.slot_decoder.proofs.answers.answer_all.Goals as goal

pub loop-ticket-init : goal.loop-ticket-init
loop-ticket-init g c = record {
  answered = answered_none c.args.core.now;
  count = c.tickets-ticket-end.ensures
      ∙ ap (λ (k : CoreTable). (machine_of k).tickets) c.state.ensures;
  closed = λ k l. absurd (omega (arith, l));
}

pub loop-ticket-preserved : goal.loop-ticket-preserved
loop-ticket-preserved g c =
    let one = c.in_ok-answer_where_open.ensures in
    record {
      answered = answered_both _ _ _ c.loop-ticket.invariant.answered one.answered;
      count = c.loop-ticket.invariant.count ∙ sym one.answered.tickets;
      closed = closed_next c.answer_where_open.new.core c.loop-ticket.ticket
          (λ k l. one.answered.closed k (c.loop-ticket.invariant.closed k l)) one.closed;
    }

pub returns-clause-idle : goal.returns-clause-idle
returns-clause-idle g c =
    idle_now c.loop-ticket.core c.is_core.ensures.state c.tickets-ticket-end.result
    c.loop-ticket.invariant.count (λ k l. c.loop-ticket.invariant.closed k
    (let end = c.loop-ticket-test.false in omega (arith, l, end)))
