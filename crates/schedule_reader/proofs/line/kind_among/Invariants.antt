use Rattle.std.proofs.Common.{◌≡◌, bytes_eq, drop}
use Rattle.std.specs.Prelude.{find}
use Rattle.schedule_reader.specs.Lines.{word_of}
use Rattle.schedule_reader.proofs.line.kind_among.Given as goal

abbrev pub invariant-loop-kind : goal.invariant-loop-kind
invariant-loop-kind l = find (λ kind. bytes_eq l.word (word_of kind)) (drop l.kind-index l.kinds)
    ≡ find (λ kind. bytes_eq l.word (word_of kind)) l.kinds
