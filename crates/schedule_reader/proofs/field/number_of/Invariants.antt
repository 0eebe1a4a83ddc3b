use Rattle.std.proofs.Common.{◌≡◌, ◌<◌, ◌^◌, take}
use Rattle.surface_model.specs.Text.{number_of}
use Rattle.schedule_reader.proofs.field.number_of.Given as goal

abbrev pub invariant-loop-byte : goal.invariant-loop-byte
invariant-loop-byte l = (l.number ≡ number_of (take l.byte-index l.field))
    × (l.number < 10 ^ l.byte-index)
