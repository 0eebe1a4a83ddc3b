use Rattle.std.proofs.Common.{◌≡◌, map, take}
use Rattle.poison_cascade.specs.declared.support.Support.{Support as Rest}
use Rattle.poison_cascade.proofs.entry.guesses.Given as goal

abbrev pub invariant-loop-source : goal.invariant-loop-source
invariant-loop-source l = map (λ (s : Rest). s.source) l.supports.items ≡ take l.source-index l.deps
