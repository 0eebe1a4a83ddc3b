use Rattle.std.proofs.Common.{◌≡◌, ◌&&◌, not, drop, map, fold}
use Rattle.std.specs.Prelude.{is_some}
use Rattle.surface_model.specs.Schedules.{PatchLine}
use Rattle.surface_model.specs.Rules.{filter_numbered, init_of, read_of}
use Rattle.schedule_rules.specs.Least.{least, lesser}
use Rattle.schedule_rules.proofs.rules.incomplete.Given as goal

abbrev pub invariant-loop-at : goal.invariant-loop-at
invariant-loop-at l =
    fold lesser l.least (map (λ (p : PatchLine). p.line) (filter_numbered (λ n. not (is_some
    (init_of l.schedule n) && is_some (read_of l.schedule n))) l.at (drop l.at l.patches)))
    ≡ least (map (λ (p : PatchLine). p.line) (filter_numbered (λ n.
    not (is_some (init_of l.schedule n) && is_some (read_of l.schedule n))) 0 l.patches))
