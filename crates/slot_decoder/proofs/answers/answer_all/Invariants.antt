use Rattle.std.proofs.Common.{◌≡◌, ◌<◌, ℕ}
use Rattle.core_state.specs.States.{machine_of}
use Rattle.slot_decoder.specs.Answers.{HasAnswered, IsClosed}
use Rattle.slot_decoder.proofs.answers.answer_all.Given as goal

-- the tickets so far have had their answers
abbrev pub invariant-loop-ticket : goal.invariant-loop-ticket
invariant-loop-ticket g l = record {
  answered : HasAnswered l.fn.core l.core;
  count : l.ticket-end ≡ (machine_of l.core).tickets;
  closed : (k : ℕ) → k < l.ticket → IsClosed l.core k;
}
