use Rattle.window_model.specs.Windows.{owner_of}
use Rattle.window_plan.proofs.Gathered.{mapped_more}
use Rattle.window_plan.proofs.owners.owners_of.Goals as goal

pub loop-number-preserved : goal.loop-number-preserved
loop-number-preserved c =
    mapped_more (owner_of c.args.homes.now) c.args.graph.now.edges c.loop-number.number
    c.edge.result.now c.loop-number.owners.items c.push.new.self.items c.owner.result
    c.edge.ensures.value c.owner.ensures c.loop-number.invariant c.in_ok-push.ensures.items
