-- A problem without a defect is solved by the empty set.
use Rattle.std.proofs.Common.{◌≡◌, ℕ, false, slice_index_or, sym, arith, []}
use Rattle.graph_model.specs.Problems.{Problem, Solves}

pub solves_empty : (p : Problem) → ((place : ℕ) → slice_index_or p.defects place false ≡ false) →
    Solves p []
solves_empty p quiet = record {
  correction = record {
    ascending = λ k l. absurd (omega arith);
    within = λ k d l. absurd (omega arith);
    matching = λ k d l. sym (quiet _);
  };
  least = λ other fits_. omega arith;
}
