use Rattle.std.proofs.Common.{refl, arith}
use Rattle.window_model.specs.Windows.{Window}
use Rattle.window_plan.proofs.Tables.{read_list, within}
use Rattle.window_plan.proofs.plan_table.Plan.owned.Goals as goal

pub row-requires : goal.row-requires
row-requires c = let k = within c.self.inside.cells.items c.self.inside.homes.items
    c.self.inside.detectors c.self.inside.edges c.self.inside.owned.rows c.self.inside.deps
    c.self.inside.lasts.items c.self.inside.places c.self.invariant c.args.self.now c.self.view_is
    c.args.window c.requires in omega (arith, k, c.self.invariant.owned_long)

pub returns : goal.returns
returns c = read_list c.self.inside.cells.items c.self.inside.homes.items c.self.inside.detectors
    c.self.inside.edges c.self.inside.owned.rows c.self.inside.deps c.self.inside.lasts.items
    c.self.inside.places c.self.invariant c.args.self.now c.self.view_is (λ (v : Window). v.owned)
    c.self.inside.owned.rows c.args.window c.row.result.now c.requires c.row.ensures refl
