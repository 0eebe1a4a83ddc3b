use Rattle.std.proofs.Common.{◌≡◌, ◌==◌, ◌||◌, length}
use Rattle.std.specs.Prelude.{slice_index}
use Rattle.blossom_forest.specs.Trees.{names}
use Rattle.blossom_forest.proofs.Marks.{AreOut}
use Rattle.blossom_forest.proofs.rematch.dissolve.Given as goal

abbrev pub invariant-loop-set : goal.invariant-loop-set
invariant-loop-set l = record {
  count : length l.trees.mark ≡ names l.fn.trees.vertices;
  same : l.trees ≡ record l.fn.trees { mark = l.trees.mark };
  marks : AreOut l.fn.trees.mark l.trees.mark
      (λ c. (slice_index l.fn.trees.label c == l.one) || (slice_index l.fn.trees.label c == l.two))
      l.set (names l.fn.trees.vertices);
}
