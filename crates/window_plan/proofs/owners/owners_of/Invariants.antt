use Rattle.std.proofs.Common.{◌≡◌, take, map}
use Rattle.window_model.specs.Windows.{owner_of}
use Rattle.window_plan.proofs.owners.owners_of.Given as goal

abbrev pub invariant-loop-number : goal.invariant-loop-number
invariant-loop-number l = l.owners.items ≡ map (owner_of l.homes) (take l.number l.graph.edges)
