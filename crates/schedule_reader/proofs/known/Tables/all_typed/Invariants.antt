use Rattle.std.proofs.Common.{◌≡◌, map}
use Rattle.schedule_reader.proofs.Typed.{all_from}
use Rattle.schedule_reader.specs.Known.{test_of}
use Rattle.schedule_reader.proofs.known.Tables.all_typed.Given as goal

abbrev pub invariant-loop-at : goal.invariant-loop-at
invariant-loop-at l = all_from (test_of l.self l.check) l.kinds (map (λ f. f.now) l.fields) 0
    ≡ all_from (test_of l.self l.check) l.kinds (map (λ f. f.now) l.fields) l.at
