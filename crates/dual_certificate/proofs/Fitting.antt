-- A certificate at two functions that give the same distances.
use Rattle.std.proofs.Common.{◌≡◌, ℕ, ◌*◌, ◌<◌, List, length, map, sum_by, sym, subst, arith}
use Rattle.std.specs.Prelude.{pos, ◌≤ℤ◌}
use Rattle.std.specs.List.{range_with_len}
use Rattle.graph_model.specs.Corrections.{IsCorrection}
use Rattle.graph_model.specs.Problems.{IsPart, Problem, Solves, meets, problem_weight}
use Rattle.graph_model.specs.declared.PartEdge.{PartEdge}
use Rattle.matching_model.specs.Certificates.{AreDistances, Certificate, IsDual, free_end, has_defect, members, pair_sum, whole_sum}
use Rattle.matching_model.specs.Certified.{IsCertified}
use Rattle.matching_model.proofs.Solvable.{part_is_problem}
use Rattle.matching_model.proofs.WeakDuality.{weak_duality}
use Rattle.dist_search.specs.Tables.{Distances, IsTableOf, dist_of}

module _ (p : Problem) (one two : ℕ → ℕ → ℕ) (ones : AreDistances p one)
    (twos : AreDistances p two) where
  same_distance : (i j : ℕ) → i < length (members p) → j < length (members p) → one i j ≡ two i j
  same_distance i j l m =
      let a = (ones i j l m).least (two i j) (twos i j l m).walk in
      let b = (twos i j l m).least (one i j) (ones i j l m).walk in omega (arith, a, b)

  pub dual_at : (c : Certificate) → IsDual (length (members p)) one c →
      IsDual (length (members p)) two c
  dual_at c dual = record {
    each_member = dual.each_member;
    odd_sets = dual.odd_sets;
    cheap = λ i j l m. subst (λ (d : ℕ). pair_sum c i j ≤ℤ pos (2 * d))
        (same_distance i j (omega (arith, l, m)) m) (dual.cheap i j l m);
  }

-- what the checks show
module _ (p : Problem) (t : Distances) (table : IsTableOf p t) (set : List ℕ)
    (c : Certificate) where
  pub certified_by : IsCorrection (meets p.part) (range_with_len 0 (free_end p))
      (map (λ (edge : PartEdge). edge.edge) p.part.edges) (has_defect p) set →
      whole_sum c ≡ pos (2 * sum_by (problem_weight p) set) →
      IsDual (length t.members) (dist_of t) c → IsCertified p set c
  certified_by correction tight dual = record {
    dist = dist_of t;
    distances = table.distances;
    fits = record {
      correction = correction;
      dual = subst (λ ms. IsDual (length ms) (dist_of t) c)
          table.members_are dual;
      tight = tight;
    };
  }

  pub dual_by : IsCertified p set c → IsDual (length t.members) (dist_of t) c
  dual_by shown =
      subst (λ ms. IsDual (length ms) (dist_of t) c) (sym table.members_are)
      (dual_at p shown.dist (dist_of t) shown.distances table.distances c shown.fits.dual)

-- what a certificate shows
pub certified_least : (p : Problem) → IsPart p.part → (set : List ℕ) (c : Certificate) →
    IsCertified p set c → Solves p set
certified_least p part set c shown =
    weak_duality p (part_is_problem p part) shown.dist shown.distances set c shown.fits
