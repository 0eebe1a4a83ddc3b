use Rattle.std.proofs.Common.{◌∷◌, [], List, ℕ, false, sym, subst}
use Rattle.graph_model.specs.Problems.{Problem, Solves}
use Rattle.detector_graph.proofs.Marks.{two_marks, marks_solved}
use Rattle.detector_graph.proofs.tests.what_the_window_owns_is_kept.Goals as goal

pub new-requires : goal.new-requires
new-requires g c =
    subst (λ (p : Problem). Solves p c.in_ok-set.set) (sym c.in_ok-problem.ensures)
    (subst (λ (s : List ℕ). Solves (record { part = two_marks; defects = false ∷ [] }) s)
    (sym c.in_ok-set.ensures) marks_solved)
