use Rattle.std.proofs.Common.{take}
use Rattle.matching_model.specs.Joins.{AreJoins}
use Rattle.dist_search.specs.Tables.{dist_of}
use Rattle.pair_plain.proofs.walks_of.Given as goal

abbrev pub invariant-loop-first : goal.invariant-loop-first
invariant-loop-first l =
    AreJoins l.problem (dist_of l.table) (take l.first-index l.pairs) l.walks.items
