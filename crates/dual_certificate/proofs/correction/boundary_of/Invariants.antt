use Rattle.std.proofs.Common.{◌≡◌, ℕ, false, length, take, slice_index_or}
use Rattle.graph_model.specs.Parity.{parity}
use Rattle.graph_model.specs.Problems.{meets}
use Rattle.matching_model.specs.Certificates.{free_end}
use Rattle.dual_certificate.proofs.correction.boundary_of.Given as goal

-- the places are those of the edges so far
abbrev pub invariant-loop-number : goal.invariant-loop-number
invariant-loop-number l = record {
  count : length l.bits ≡ free_end l.problem;
  so_far : (v : ℕ) → slice_index_or l.bits v false
      ≡ parity (meets l.problem.part v) (take l.number-index l.set);
}
