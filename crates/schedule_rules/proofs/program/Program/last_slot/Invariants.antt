use Rattle.std.proofs.Common.{◌≡◌, take, map, fold}
use Rattle.std.specs.Prelude.{max}
use Rattle.surface_model.specs.Schedules.{ReadLine}
use Rattle.schedule_rules.proofs.program.Program.last_slot.Given as goal

abbrev pub invariant-loop-read : goal.invariant-loop-read
invariant-loop-read l =
    l.last ≡ fold max 0 (map (λ (r : ReadLine). r.slot) (take l.read-index l.self.reads))
