use Rattle.std.proofs.Common.{◌≡◌, ◌&&◌, not, take}
use Rattle.std.specs.Prelude.{nat_lt}
use Rattle.surface_model.specs.Schedules.{MergeLine}
use Rattle.surface_model.specs.Layout.{split_slot}
use Rattle.surface_model.specs.Rules.{of_life}
use Rattle.schedule_rules.proofs.Broken.{so_far}
use Rattle.schedule_rules.proofs.rules.outside_life.Given as goal

abbrev pub invariant-loop-merge : goal.invariant-loop-merge
invariant-loop-merge l = l.least ≡ so_far (λ (x : MergeLine). x.line) (λ x.
    not (of_life l.schedule (λ first last. nat_lt first x.slot && nat_lt (split_slot x) last) x.one
    && of_life l.schedule (λ first last. nat_lt first x.slot && nat_lt (split_slot x) last) x.two))
    (take l.merge-index l.schedule.merges)
