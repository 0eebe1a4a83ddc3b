use Rattle.std.proofs.Common.{◌≡◌, not, take}
use Rattle.std.specs.Prelude.{nat_lt}
use Rattle.surface_model.specs.Schedules.{ReadLine}
use Rattle.surface_model.specs.Rules.{of_life}
use Rattle.schedule_rules.proofs.Broken.{so_far}
use Rattle.schedule_rules.proofs.rules.bad_life.Given as goal

abbrev pub invariant-loop-read : goal.invariant-loop-read
invariant-loop-read l = l.least ≡ so_far (λ (x : ReadLine). x.line) (λ x.
    not (of_life l.schedule nat_lt x.patch)) (take l.read-index l.schedule.reads)
