use Rattle.std.proofs.Common.{◌≡◌, ◌≤◌, count_by, take}
use Rattle.window_model.specs.Speculation.{is_guess}
use Rattle.run_report.proofs.links.guesses_among.Given as goal

abbrev pub invariant-loop-at : goal.invariant-loop-at
invariant-loop-at l = record {
  counted : l.count ≡ count_by is_guess (take l.at l.origins);
  few : l.count ≤ l.at;
}
