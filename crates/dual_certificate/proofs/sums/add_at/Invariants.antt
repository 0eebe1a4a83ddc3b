use Rattle.std.proofs.Common.{◌≡◌, ℕ, ◌+◌, cond, length, take, get_or}
use Rattle.graph_model.specs.Graph.{is_in}
use Rattle.dual_certificate.proofs.sums.add_at.Given as goal

abbrev pub invariant-loop-member : goal.invariant-loop-member
invariant-loop-member l = record {
  count : length l.sums.items ≡ length l.initial.sums.items;
  so_far : (j : ℕ) → get_or l.sums.items j 0 ≡ get_or l.initial.sums.items j 0
      + cond (is_in (take l.member-index l.members) j) l.number 0;
}
