use Rattle.std.proofs.Common.{◌≡◌, ◌-◌, drop, length}
use Rattle.blossom_forest.proofs.paths.shared.Given as goal

abbrev pub invariant-loop-count : goal.invariant-loop-count
invariant-loop-count l = record {
  same : drop (length l.one - l.count) l.one ≡ drop (length l.two - l.count) l.two;
}
