-- What a plan of a graph has: owned edges are the graph's, and dependencies are lower.
use Rattle.std.proofs.Common.{ℕ, ◌<◌, ◌==◌, All, List, [], get_or, length, sym, subst, arith}
use Rattle.graph_model.specs.Graph.{DetectorGraph, IsGraph}
use Rattle.graph_model.proofs.Members.{all_within}
use Rattle.window_model.specs.Windows.{Window, WindowPlan, edge_passes, owner_of, window_at, window_count}
use Rattle.window_model.proofs.Plans.{at_window, count_is, in_below}
use Rattle.release_gate.specs.Gated.{AreNeeded}
use Rattle.release_gate.specs.Operations.{IsPlanOf, TimedOperation}

pub owned_within : (g : DetectorGraph) (plan : WindowPlan) → IsGraph g → IsPlanOf g plan → (w : ℕ) →
    w < window_count plan → All (λ e. e < length g.edges) (window_at plan w).owned
owned_within g plan graph made w l =
    let count = count_is g made.tags made.order made.commit made.buffer plan graph made.each_tag
    made.is_plan in
    let is = at_window g made.tags made.order made.commit made.buffer plan graph made.each_tag
    made.is_plan w (omega (arith, l, count)) in
    subst (λ (window : Window). All (λ e. e < length g.edges) window.owned) (sym is)
    (all_within (λ e. e < length g.edges) _ (λ e m.
    (in_below (edge_passes g (λ edge. owner_of plan.homes edge == w)) (length g.edges) e m).0))

pub needed_within : (g : DetectorGraph) (plan : WindowPlan) (ops : List TimedOperation)
    (lists : List (List ℕ)) → AreNeeded g plan ops lists → (k : ℕ) → k < length ops →
    All (λ w. w < window_count plan) (get_or lists k [])
needed_within g plan ops lists are k l = subst (All (λ w. w < window_count plan)) (sym (are.needed k
    l)) (all_within (λ w. w < window_count plan) _ (λ w m. (in_below _ (window_count plan) w m).0))
