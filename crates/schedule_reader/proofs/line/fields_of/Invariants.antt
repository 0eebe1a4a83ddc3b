use Rattle.std.proofs.Common.{◌≡◌, ◌++◌, map, length}
use Rattle.surface_model.specs.Text.{fields_of}
use Rattle.schedule_reader.proofs.line.fields_of.Given as goal

abbrev pub invariant-loop-rest : goal.invariant-loop-rest
invariant-loop-rest l = map (λ f. f.now) l.fields.items ++ fields_of l.rest ≡ fields_of l.line

abbrev pub decreases-loop-rest : goal.decreases-loop-rest
decreases-loop-rest l = length l.rest
