use Rattle.window_core.proofs.quiet.is_quiet.Goals as goal

pub returns-then-runs-clause-no : goal.returns-then-runs-clause-no
returns-then-runs-clause-no c _ quiet = c.runs.ensures.yes c.if-runs.true quiet.none_running

pub returns-then-has_turn-clause-no : goal.returns-then-has_turn-clause-no
returns-then-has_turn-clause-no c _ quiet = c.has_turn.ensures.yes c.if-has_turn.true quiet.no_turn

pub returns-clause-yes : goal.returns-clause-yes
returns-clause-yes c _ = record {
  none_running = c.runs.ensures.no c.if-runs.false;
  no_turn = c.has_turn.ensures.no c.if-has_turn.false;
}
