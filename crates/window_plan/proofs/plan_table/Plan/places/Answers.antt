use Rattle.std.proofs.Common.{◌≡◌, ◌<◌, ◌+◌, ◌∙◌, sym, ap, subst, arith, length, get_or, refl, Some, true, [], slice_get}
use Rattle.std.specs.List.Sorted.{IsStrictlyIncreasing}
use Rattle.std.specs.declared.cmp.Ordering.TheVariants.{Equal}
use Rattle.std.proofs.lemmas.Cmp.{ranked}
use Rattle.std.proofs.lemmas.Option.{get_or_from_slice_get}
use Rattle.graph_model.specs.Graph.{is_in}
use Rattle.window_model.specs.Parts.{place_of}
use Rattle.window_model.specs.Windows.{Window}
use Rattle.window_model.proofs.PartLaws.{place_rising}
use Rattle.window_plan.proofs.Tables.{dep_within, link_within, read_list, read_places, not_missed}
use Rattle.window_plan.proofs.plan_table.Plan.places.Goals as goal

pub get-requires : goal.get-requires
get-requires c =
    dep_within c.self.inside.cells.items c.self.inside.homes.items c.self.inside.detectors
    c.self.inside.edges c.self.inside.owned.rows c.self.inside.deps c.self.inside.lasts.items
    c.self.inside.places c.self.invariant c.args.self.now c.self.view_is c.args.window
    c.requires.window

pub before-requires : goal.before-requires
before-requires c = let k = dep_within c.self.inside.cells.items c.self.inside.homes.items
    c.self.inside.detectors c.self.inside.edges c.self.inside.owned.rows c.self.inside.deps
    c.self.inside.lasts.items c.self.inside.places c.self.invariant c.args.self.now c.self.view_is
    c.args.window c.requires.window in omega (arith, k)

pub overflow_add-link : goal.overflow_add-link
overflow_add-link c =
    let deps = c.self.inside.deps in
    let w = c.args.window in
    let row : get_or deps w [] ≡ c.get.result.now =
    get_or_from_slice_get deps w c.get.result.now [] c.get.ensures in
    let short : c.in-Ok.place < length (get_or deps w []) = let k = ap length row in
    omega (arith, k, c.in-Ok.ensures.bound) in
    let k = dep_within c.self.inside.cells.items c.self.inside.homes.items c.self.inside.detectors
    c.self.inside.edges c.self.inside.owned.rows deps c.self.inside.lasts.items
    c.self.inside.places c.self.invariant c.args.self.now c.self.view_is w c.requires.window in
    let l = link_within deps c.self.inside.places w k c.self.invariant.links_long c.in-Ok.place
    short in
    omega (arith, l, c.before-in-Ok.ensures, c.self.invariant.few_links)

pub get-requires-in-Ok : goal.get-requires-in-Ok
get-requires-in-Ok c =
    let deps = c.self.inside.deps in
    let w = c.args.window in
    let row : get_or deps w [] ≡ c.get.result.now =
    get_or_from_slice_get deps w c.get.result.now [] c.get.ensures in
    let short : c.in-Ok.place < length (get_or deps w []) = let k = ap length row in
    omega (arith, k, c.in-Ok.ensures.bound) in
    let k = dep_within c.self.inside.cells.items c.self.inside.homes.items c.self.inside.detectors
    c.self.inside.edges c.self.inside.owned.rows deps c.self.inside.lasts.items
    c.self.inside.places c.self.invariant c.args.self.now c.self.view_is w c.requires.window in
    let l = link_within deps c.self.inside.places w k c.self.invariant.links_long c.in-Ok.place
    short in
    omega (arith, l, c.before-in-Ok.ensures)

pub unreachable-requires : goal.unreachable-requires
unreachable-requires c =
    let deps = c.self.inside.deps in
    let w = c.args.window in
    let row : get_or deps w [] ≡ c.get.result.now =
    get_or_from_slice_get deps w c.get.result.now [] c.get.ensures in
    let member : is_in c.get.result.now c.args.dependency ≡ true =
    ap (λ xs. is_in xs c.args.dependency)
    (read_list c.self.inside.cells.items c.self.inside.homes.items c.self.inside.detectors
    c.self.inside.edges c.self.inside.owned.rows c.self.inside.deps c.self.inside.lasts.items
    c.self.inside.places c.self.invariant c.args.self.now c.self.view_is
    (λ (v : Window). v.deps) deps w c.get.result.now c.requires.window c.get.ensures refl)
    ∙ c.requires.dependency in
    not_missed c.get.result.now c.args.dependency c.in-Err.field-0
    (subst IsStrictlyIncreasing row (c.self.invariant.deps_rise w)) c.in-Err.ensures.position
    member

pub returns : goal.returns
returns c =
    let deps = c.self.inside.deps in
    let links = c.self.inside.places in
    let w = c.args.window in
    let i = c.in-Ok.place in
    let row : get_or deps w [] ≡ c.get.result.now =
    get_or_from_slice_get deps w c.get.result.now [] c.get.ensures in
    let short : i < length (get_or deps w []) = let k = ap length row in
    omega (arith, k, c.in-Ok.ensures.bound) in
    let told : get_or c.get.result.now i 0 ≡ c.args.dependency =
    ranked (get_or c.get.result.now i 0) c.args.dependency Equal (sym (c.in-Ok.ensures.ok 0)) in
    let at : place_of (get_or deps w []) c.args.dependency ≡ Some i =
    place_rising (get_or deps w []) c.args.dependency i (c.self.invariant.deps_rise w) short
    (ap (λ xs. get_or xs i 0) row ∙ told) in
    read_places c.self.inside.cells.items c.self.inside.homes.items c.self.inside.detectors
    c.self.inside.edges c.self.inside.owned.rows deps c.self.inside.lasts.items links
    c.self.invariant c.args.self.now c.self.view_is c.args.dependency w i c.get-in-Ok.result.now
    c.requires.window at short
    (subst (λ n. slice_get links (n + i) ≡ Some c.get-in-Ok.result.now) c.before-in-Ok.ensures
    c.get-in-Ok.ensures)
