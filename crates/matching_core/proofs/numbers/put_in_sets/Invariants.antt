use Rattle.std.proofs.Common.{◌≡◌, ◌<◌, length}
use Rattle.blossom_nest.specs.Nests.{no_set}
use Rattle.matching_core.proofs.numbers.put_in_sets.Given as goal

abbrev pub invariant-loop-step : goal.invariant-loop-step
invariant-loop-step l = record {
  here : l.here < no_set l.nest;
  count : length l.sets.items ≡ length l.fn.sets.items;
}
