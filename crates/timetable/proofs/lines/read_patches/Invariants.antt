use Rattle.std.proofs.Common.{◌≡◌, map, take}
use Rattle.surface_model.specs.Schedules.{ReadLine}
use Rattle.timetable.proofs.lines.read_patches.Given as goal

abbrev pub invariant-loop-read : goal.invariant-loop-read
invariant-loop-read l =
    l.patches.items ≡ map (λ (line : ReadLine). line.patch) (take l.read-index l.schedule.reads)
