use Rattle.std.proofs.Common.{◌<◌, ◌∙◌, refl, sym, ap, arith, length, slice_get, option_map}
use Rattle.std.proofs.lemmas.Option.{slice_get-map, slice_get_read}
use Rattle.window_plan.specs.Placed.{PlacedPlan}
use Rattle.window_plan.specs.Ranks.{cell_at}
use Rattle.window_plan.proofs.Tables.{within}
use Rattle.window_plan.proofs.plan_table.Plan.cell.Goals as goal

pub index-requires : goal.index-requires
index-requires c = let k = within c.self.inside.cells.items c.self.inside.homes.items
    c.self.inside.detectors c.self.inside.edges c.self.inside.owned.rows c.self.inside.deps
    c.self.inside.lasts.items c.self.inside.places c.self.invariant c.args.self.now c.self.view_is
    c.args.window c.requires in omega (arith, k, c.self.invariant.cells_long)

pub returns : goal.returns
returns c =
    let cells = c.self.inside.cells.items in
    let l : c.args.window < length cells = let k = within c.self.inside.cells.items
    c.self.inside.homes.items c.self.inside.detectors c.self.inside.edges
    c.self.inside.owned.rows c.self.inside.deps c.self.inside.lasts.items c.self.inside.places
    c.self.invariant c.args.self.now c.self.view_is c.args.window c.requires in
    omega (arith, k, c.self.invariant.cells_long) in
    ap (λ (p : PlacedPlan). slice_get p.plan.cells c.args.window) (sym c.self.view_is)
    ∙ slice_get-map cell_at cells c.args.window
    ∙ ap (option_map cell_at)
    (slice_get_read cells (length cells) c.args.window c.index.result.now refl l
    c.index.ensures)
