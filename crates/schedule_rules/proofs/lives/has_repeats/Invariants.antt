use Rattle.std.proofs.Common.{◌≡◌, false, take}
use Rattle.surface_model.specs.Rules.{has_repeats}
use Rattle.schedule_rules.proofs.lives.has_repeats.Given as goal

abbrev pub invariant-loop-at : goal.invariant-loop-at
invariant-loop-at l = has_repeats (take l.at l.labels) ≡ false
