use Rattle.std.proofs.Common.{◌≡◌, map, take}
use Rattle.surface_model.specs.Schedules.{CondLine}
use Rattle.run_rounds.proofs.labels.labels_of.Given as goal

abbrev pub invariant-loop-cond : goal.invariant-loop-cond
invariant-loop-cond l = l.labels.items ≡ map (λ (c : CondLine). c.label) (take l.cond-index l.conds)
