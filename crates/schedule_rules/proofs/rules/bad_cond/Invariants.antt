use Rattle.std.proofs.Common.{◌≡◌, ◌&&◌, ◌||◌, not, take}
use Rattle.std.specs.Prelude.{nat_le}
use Rattle.surface_model.specs.Schedules.{CondLine}
use Rattle.surface_model.specs.Rules.{of_life, has_repeats}
use Rattle.schedule_rules.proofs.Broken.{so_far}
use Rattle.schedule_rules.proofs.rules.bad_cond.Given as goal

abbrev pub invariant-loop-cond : goal.invariant-loop-cond
invariant-loop-cond l = l.least ≡ so_far (λ (x : CondLine). x.line) (λ x. has_repeats x.labels
    || not (of_life l.schedule (λ first last. nat_le first x.slot && nat_le x.slot last) x.patch))
    (take l.cond-index l.schedule.conds)
