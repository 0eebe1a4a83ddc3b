use Rattle.std.proofs.Common.{◌≡◌, map, take}
use Rattle.poison_cascade.specs.declared.support.Support.{Support as Rest}
use Rattle.poison_cascade.proofs.entry.write_origins.Given as goal

abbrev pub invariant-loop-at : goal.invariant-loop-at
invariant-loop-at l = record {
  sources : map (λ (s : Rest). s.source) l.supports.items
      ≡ map (λ (s : Rest). s.source) l.fn.supports.items;
  origins : take l.at (map (λ (s : Rest). s.origin) l.supports.items) ≡ take l.at l.origins;
}
