use Rattle.std.proofs.Common.{◌≡◌, ◌≢◌, ◌<◌, ◌-◌, true}
use Rattle.blossom_nest.specs.Nests.{no_set, parent_of}
use Rattle.blossom_forest.specs.Trees.{even_way}
use Rattle.blossom_forest.proofs.open.is_even_way.Given as goal

abbrev pub invariant-loop-step : goal.invariant-loop-step
invariant-loop-step l = record {
  below : l.here < no_set l.nest;
  inside : parent_of l.nest l.here ≢ no_set l.nest;
  rest : even_way (l.nest.vertices - l._step) l.nest l.to l.even l.here
      ≡ even_way l.nest.vertices l.nest l.to true l.from;
}
