use Rattle.std.proofs.Common.{◌≡◌, filter}
use Rattle.std.specs.List.{range_with_len}
use Rattle.graph_model.specs.Parity.{parity}
use Rattle.matching_model.specs.Certificates.{has_defect}
use Rattle.dist_search.proofs.table.members_of.Given as goal

abbrev pub invariant-loop-place : goal.invariant-loop-place
invariant-loop-place l =
    (l.members.items ≡ filter (has_defect l.problem) (range_with_len 0 l.place))
    × (l.odd ≡ parity (has_defect l.problem) (range_with_len 0 l.place))
