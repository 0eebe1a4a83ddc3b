use Rattle.std.proofs.Common.{arith}
use Rattle.window_plan.proofs.Tables.{count_is}
use Rattle.window_plan.proofs.plan_table.Plan.windows.Goals as goal

pub returns : goal.returns
returns c = let k = count_is c.self.inside.cells.items c.self.inside.homes.items
    c.self.inside.detectors c.self.inside.edges c.self.inside.owned.rows c.self.inside.deps
    c.self.inside.lasts.items c.self.inside.places c.self.invariant c.args.self.now
    c.self.view_is in omega (arith, k, c.self.invariant.lasts_long)
