use Rattle.std.proofs.Common.{rules, ◌<◌}
use Rattle.std.specs.Prelude.{true}
use Rattle.blossom_forest.specs.Trees.{even_way}
use Rattle.blossom_forest.proofs.Evens.{goes_round}
use Rattle.blossom_forest.proofs.open.is_even_way.Goals as goal

pub loop-step-preserved : goal.loop-step-preserved
loop-step-preserved c = record {
  below = c.after-here.ensures.below;
  inside = search rules;
  rest =
      let low : c.loop-step._step < c.args.nest.now.vertices = search rules in
      goes_round c.args.nest.now c.args.to c.args.nest.now.vertices c.loop-step._step
      c.loop-step.even c.loop-step.here
      (even_way c.args.nest.now.vertices c.args.nest.now c.args.to true c.args.from) low
      c.loop-step.invariant.rest c.if-here-to.false c.after-here.result c.after-here.ensures.next;
}
