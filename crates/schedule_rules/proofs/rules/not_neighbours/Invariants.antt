use Rattle.std.proofs.Common.{◌≡◌, not, take}
use Rattle.surface_model.specs.Schedules.{MergeLine}
use Rattle.surface_model.specs.Layout.{patch_at}
use Rattle.surface_model.specs.Rules.{are_neighbours}
use Rattle.schedule_rules.proofs.Broken.{so_far}
use Rattle.schedule_rules.proofs.rules.not_neighbours.Given as goal

abbrev pub invariant-loop-merge : goal.invariant-loop-merge
invariant-loop-merge l = l.least ≡ so_far (λ (x : MergeLine). x.line) (λ x. not (are_neighbours
    (patch_at l.schedule x.one) (patch_at l.schedule x.two))) (take l.merge-index l.schedule.merges)
