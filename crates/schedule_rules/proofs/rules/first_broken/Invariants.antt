use Rattle.std.proofs.Common.{◌≡◌, drop}
use Rattle.surface_model.specs.Rules.{first_broken}
use Rattle.schedule_rules.proofs.rules.first_broken.Given as goal

abbrev pub invariant-loop-rule : goal.invariant-loop-rule
invariant-loop-rule l = first_broken l.schedule (drop l.rule-index l.rules)
    ≡ first_broken l.schedule l.rules
