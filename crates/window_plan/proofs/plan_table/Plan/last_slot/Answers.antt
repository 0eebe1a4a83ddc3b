use Rattle.std.proofs.Common.{◌<◌, ◌∙◌, sym, ap, arith, length}
use Rattle.std.proofs.lemmas.List.{get_or_default}
use Rattle.window_model.specs.Windows.{Window}
use Rattle.window_plan.proofs.Tables.{within, read_window}
use Rattle.window_plan.proofs.plan_table.Plan.last_slot.Goals as goal

pub index-requires : goal.index-requires
index-requires c = let k = within c.self.inside.cells.items c.self.inside.homes.items
    c.self.inside.detectors c.self.inside.edges c.self.inside.owned.rows c.self.inside.deps
    c.self.inside.lasts.items c.self.inside.places c.self.invariant c.args.self.now c.self.view_is
    c.args.window c.requires in omega (arith, k, c.self.invariant.lasts_long)

pub returns : goal.returns
returns c =
    let lasts = c.self.inside.lasts.items in
    let l : c.args.window < length lasts = let k = within c.self.inside.cells.items
    c.self.inside.homes.items c.self.inside.detectors c.self.inside.edges
    c.self.inside.owned.rows c.self.inside.deps c.self.inside.lasts.items c.self.inside.places
    c.self.invariant c.args.self.now c.self.view_is c.args.window c.requires in
    omega (arith, k, c.self.invariant.lasts_long) in
    c.index.ensures ∙ get_or_default lasts c.args.window c.index.result.now 0 l
    ∙ ap (λ (v : Window). v.last)
    (sym (read_window c.self.inside.cells.items c.self.inside.homes.items
    c.self.inside.detectors c.self.inside.edges c.self.inside.owned.rows c.self.inside.deps
    c.self.inside.lasts.items c.self.inside.places c.self.invariant c.args.self.now
    c.self.view_is c.args.window c.requires))
