use Rattle.window_core.proofs.machine.Core.all_done.Goals as goal

pub returns-then-all_committed-clause-yes : goal.returns-then-all_committed-clause-yes
returns-then-all_committed-clause-yes c released = record {
  windows = c.all_committed.ensures.yes c.if-all_committed.true;
  operations = c.all_released.ensures.yes released;
}
