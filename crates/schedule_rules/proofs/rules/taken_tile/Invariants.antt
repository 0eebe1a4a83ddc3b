use Rattle.std.proofs.Common.{◌≡◌, ◌&&◌, take}
use Rattle.std.specs.Prelude.{nat_lt}
use Rattle.std.specs.List.{list_any}
use Rattle.surface_model.specs.Schedules.{PatchLine}
use Rattle.surface_model.specs.Rules.{same_tile}
use Rattle.schedule_rules.proofs.Broken.{so_far}
use Rattle.schedule_rules.proofs.rules.taken_tile.Given as goal

abbrev pub invariant-loop-patch : goal.invariant-loop-patch
invariant-loop-patch l = l.least ≡ so_far (λ (x : PatchLine). x.line) (λ x.
    list_any (λ b. nat_lt b.line x.line && same_tile x b) l.patches) (take l.patch-index l.patches)
