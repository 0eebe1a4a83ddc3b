use Rattle.decode_rounds.proofs.working.read_with_workers.Given as goal

-- the setting, the retries and the guesses of the core that is started
abbrev pub ghosts-read_named : goal.ghosts-read_named
ghosts-read_named g a = record {
  setting = a.core.task;
  retries = a.core.retries;
  may_guess = g.Q.Predictor.may_guess a.crew.now.predictor.now;
}
