use Rattle.std.proofs.Common.{ℕ, ◌<◌, sym, subst, arith, All}
use Rattle.window_model.specs.Windows.{window_at, window_count}
use Rattle.boundary_fold.proofs.Placed.{detectors_below}
use Rattle.boundary_fold.proofs.tests.left_over.Goals as goal

pub incoming-requires-clause-values : goal.incoming-requires-clause-values
incoming-requires-clause-values c =
    let within : 1 < window_count c.args.plan.now.plan = omega arith in
    subst (λ (n : ℕ). All (λ v. v < n) (window_at c.args.plan.now.plan 1).detectors)
    (sym c.requires.values)
    (detectors_below c.args.graph.now c.requires.plan.0 c.args.plan.now c.requires.plan.1 1 within)
