use Rattle.std.proofs.Common.{rules, ◌<◌, ◌+◌, ◌++◌, ◌-◌, List, [], ◌∷◌, ℕ, ap, ◌∙◌}
use Rattle.blossom_forest.specs.Trees.{names, way_up}
use Rattle.blossom_forest.proofs.Ways.{all_more, comes_to_end, goes_on}
use Rattle.blossom_forest.proofs.paths.path_to_root.Goals as goal

pub returns-then-tie-clause-way : goal.returns-then-tie-clause-way
returns-then-tie-clause-way c =
    let low : c.loop-step._step < c.args.trees.now.vertices = search rules in
    c.push_reserved.ensures.items
    ∙ comes_to_end c.args.nest.now c.args.trees.now c.args.trees.now.vertices c.loop-step._step
    c.loop-step.here c.loop-step.path.items
    (c.args.path.now.items ++ way_up c.args.trees.now.vertices c.args.nest.now c.args.trees.now
    c.args.set) c.tie_up-tie.result low c.tie_up-tie.ensures.tie c.if-tie.true
    c.loop-step.invariant.way

pub loop-step-preserved : goal.loop-step-preserved
loop-step-preserved c = record {
  here = search rules;
  way =
      let low : c.loop-step._step < c.args.trees.now.vertices = search rules in
      let left : ℕ → List ℕ = λ z. way_up (c.args.trees.now.vertices - (c.loop-step._step + 1))
      c.args.nest.now c.args.trees.now z in
      ap (λ xs. xs ++ left c.top-here.result) c.push_reserved.ensures.items
      ∙ ap (λ z. (c.loop-step.path.items ++ c.loop-step.here ∷ []) ++ left z)
      c.top-here.ensures.value
      ∙ goes_on c.args.nest.now c.args.trees.now c.args.trees.now.vertices c.loop-step._step
      c.loop-step.here c.loop-step.path.items
      (c.args.path.now.items ++ way_up c.args.trees.now.vertices c.args.nest.now c.args.trees.now
      c.args.set) c.tie_up-tie.result low c.tie_up-tie.ensures.tie c.if-tie.false
      c.loop-step.invariant.way;
  low = λ all. all_more (names c.args.trees.now.vertices) c.loop-step.path.items
      c.push_reserved.new.self.items c.loop-step.here c.push_reserved.ensures.items
      c.loop-step.invariant.here (c.loop-step.invariant.low all);
  len = search rules;
  room = search rules;
}
