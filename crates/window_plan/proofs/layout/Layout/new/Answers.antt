use Rattle.std.proofs.Common.{◌≡◌, ◌<◌, ◌∙◌, All, ap, map, subst, sym}
use Rattle.window_model.specs.Windows.{owner_of}
use Rattle.window_plan.proofs.Gathered.{owners_below}
use Rattle.window_plan.proofs.layout.Layout.new.Goals as goal

pub grouped-requires-2-clause-groups : goal.grouped-requires-2-clause-groups
grouped-requires-2-clause-groups c =
    let g = c.args.graph.now in
    let homes = c.args.homes.items in
    let owners = c.in_ok-owners.owners.items in
    let owned : owners ≡ map (owner_of homes) g.edges = c.in_ok-owners.ensures
    ∙ ap (λ hs. map (owner_of hs) g.edges) c.deref.ensures.value in
    subst (All (λ owner. owner < c.args.windows)) (sym c.deref-3.ensures.value)
    (owners_below g c.is_graph.ensures.ends homes owners owned c.args.windows c.requires.long
    c.requires.homes)
