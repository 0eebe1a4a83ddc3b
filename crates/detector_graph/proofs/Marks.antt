-- The tests' part of one detector with two free edges without weight, and a least set of it.
use Rattle.std.proofs.Common.{◌≡◌, ◌<◌, ℕ, zero, suc, true, false, Bool, [], ◌∷◌, None, get_or, slice_index_or, refl, subst, arith}
use Rattle.std.specs.List.{range_with_len}
use Rattle.std.proofs.lemmas.List.Elements.{Contains-get_or}
use Rattle.graph_model.specs.Parity.{parity}
use Rattle.graph_model.specs.Problems.{Part, IsPart, IsPartEdge, IsOpen, Solves, meets}
use Rattle.graph_model.specs.Problems.IsOpen.{free}
use Rattle.graph_model.specs.declared.PartEdge.{PartEdge}
use Rattle.graph_model.proofs.Potentials.{ascending}

abbrev pub mark : ℕ → Bool → PartEdge
mark n owned = record { edge = n; first = 0; second = None; weight = 0; owned = owned }

abbrev pub two_marks : Part
two_marks = record { window = 6; detectors = 5 ∷ []; edges = mark 4 true ∷ mark 7 false ∷ [] }

mark_fits : (n : ℕ) (owned : Bool) → IsPartEdge 1 (mark n owned)
mark_fits n owned = record { first = omega arith; second = tt; weight = omega arith }

pub marks_fit : IsPart two_marks
marks_fit = record {
  few_detectors = omega arith;
  few_edges = omega arith;
  ascending = ascending (4 ∷ 7 ∷ []) refl;
  fits = fits_each;
  is_open = λ place l. let e : 0 ≡ place = omega (arith, l) in
      subst (IsOpen two_marks) e (free (0, mark 4 true, omega arith, refl, refl));
}
  where
    fits_each : (k : ℕ) (d : PartEdge) → k < 2 → IsPartEdge 1 (get_or two_marks.edges k d)
    fits_each zero d l = mark_fits 4 true
    fits_each (suc zero) d l = mark_fits 7 false
    fits_each (suc (suc k)) d l = absurd (omega (arith, l))

pub marks_solved : Solves (record { part = two_marks; defects = false ∷ [] }) (4 ∷ 7 ∷ [])
marks_solved = record {
  correction = record {
    ascending = ascending (4 ∷ 7 ∷ []) refl;
    within = λ k d l. Contains-get_or (4 ∷ 7 ∷ []) k d l;
    matching = matches;
  };
  least = λ other fits_. omega arith;
}
  where
    matches : (k d : ℕ) → k < 1 → parity (meets two_marks (get_or (range_with_len 0 1) k d)) (4 ∷ 7
        ∷ []) ≡ slice_index_or (false ∷ []) (get_or (range_with_len 0 1) k d) false
    matches zero d l = refl
    matches (suc k) d l = absurd (omega (arith, l))
