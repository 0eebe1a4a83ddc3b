use Rattle.std.proofs.Common.{◌≡◌, take}
use Rattle.matching_model.specs.Joins.{all_of}
use Rattle.pair_plain.proofs.symmetric_difference.Given as goal

abbrev pub invariant-loop-walk : goal.invariant-loop-walk
invariant-loop-walk l = l.edges.items ≡ all_of (take l.walk-index l.walks)
