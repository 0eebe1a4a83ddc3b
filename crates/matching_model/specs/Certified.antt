-- Certificates at the problem's own distances.
use Rattle.std.specs.Prelude.{ℕ, List}
use Rattle.graph_model.specs.Problems.{Problem}
use Rattle.matching_model.specs.Certificates.{AreDistances, Certificate, Fits}

-- the certificate fits the problem and the set, where `dist` gives the distances that the problem
-- has
pub record IsCertified (p : Problem) (set : List ℕ) (c : Certificate) : Type 0 where
  pub dist : ℕ → ℕ → ℕ
  pub distances : AreDistances p dist
  pub fits : Fits p dist set c
