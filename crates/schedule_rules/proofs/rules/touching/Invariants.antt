use Rattle.std.proofs.Common.{◌≡◌, ◌&&◌, take}
use Rattle.std.specs.Prelude.{nat_lt}
use Rattle.std.specs.List.{list_any}
use Rattle.surface_model.specs.Schedules.{MergeLine}
use Rattle.surface_model.specs.Rules.{share_a_patch, share_a_slot}
use Rattle.schedule_rules.proofs.Broken.{so_far}
use Rattle.schedule_rules.proofs.rules.touching.Given as goal

abbrev pub invariant-loop-merge : goal.invariant-loop-merge
invariant-loop-merge l = l.least ≡ so_far (λ (x : MergeLine). x.line) (λ x. list_any (λ b. nat_lt
    b.line x.line && share_a_patch x b && share_a_slot x b) l.merges) (take l.merge-index l.merges)
