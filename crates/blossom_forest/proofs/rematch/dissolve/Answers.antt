use Rattle.std.proofs.Common.{rules, ◌≡◌, ◌<◌, ◌==◌, ◌||◌, Bool, cond, ℕ, ap, ◌∙◌, subst}
use Rattle.std.specs.Prelude.{slice_index, slice_index_or}
use Rattle.blossom_forest.specs.Trees.{Forested, names}
use Rattle.blossom_forest.specs.declared.step.Mark.TheVariants.{Outer, Away}
use Rattle.blossom_forest.proofs.Marks.{one_out}
use Rattle.blossom_forest.proofs.rematch.dissolve.Goals as goal

pub loop-set-preserved : goal.loop-set-preserved
loop-set-preserved c = record {
  count = search rules;
  same = search rules;
  marks = λ at within.
      let leaves : ℕ → Bool = λ s. (slice_index c.args.trees.now.label s == c.args.one)
      || (slice_index c.args.trees.now.label s == c.args.two) in
      let low : c.loop-set.set < names c.args.trees.now.vertices = search rules in
      let is : c.mark_without-mark.result ≡ cond (leaves c.loop-set.set) Away
      (slice_index_or c.loop-set.trees.mark c.loop-set.set Outer) =
      subst (λ ls. c.mark_without-mark.result
      ≡ cond ((slice_index ls c.loop-set.set == c.args.one)
      || (slice_index ls c.loop-set.set == c.args.two)) Away
      (slice_index_or c.loop-set.trees.mark c.loop-set.set Outer))
      (ap (λ (z : Forested). z.label) c.loop-set.invariant.same) c.mark_without-mark.ensures in
      ap (λ (z : Forested). slice_index_or z.mark at Outer) c.set_mark.ensures
      ∙ one_out c.args.trees.now.mark c.loop-set.trees.mark leaves
      (names c.args.trees.now.vertices) c.loop-set.set c.mark_without-mark.result
      c.loop-set.invariant.count low is c.loop-set.invariant.marks at within;
}
