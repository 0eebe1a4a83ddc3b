use Rattle.std.proofs.Common.{◌≡◌, ◌≤◌, ◌*◌, ◌^◌, take, sum_by}
use Rattle.graph_model.specs.Problems.{problem_weight}
use Rattle.dual_certificate.proofs.correction.weight_of.Given as goal

abbrev pub invariant-loop-number : goal.invariant-loop-number
invariant-loop-number l = record {
  bound : l.total ≤ 2 ^ 32 * l.number-index;
  so_far : l.total ≡ sum_by (problem_weight l.problem) (take l.number-index l.number-items);
}
