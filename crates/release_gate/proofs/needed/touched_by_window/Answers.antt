use Rattle.std.proofs.Common.{◌<◌, All, length, sym, subst, arith}
use Rattle.release_gate.proofs.Planned.{owned_within}
use Rattle.release_gate.proofs.needed.touched_by_window.Goals as goal

pub touched_by-requires-clause-edges : goal.touched_by-requires-clause-edges
touched_by-requires-clause-edges c =
    subst (All (λ e. e < length c.args.graph.now.edges)) (sym c.owned.ensures)
    (owned_within c.args.graph.now c.args.plan.now.plan c.is_graph.ensures.ends c.requires.plan
    c.loop-window.window (omega (arith, c.loop-window-test.true, c.windows-window-end.ensures)))
