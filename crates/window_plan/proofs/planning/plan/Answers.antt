use Rattle.std.proofs.Common.{◌≡◌, ℕ, ◌<◌, ◌≤◌, ◌∙◌, sym, subst, arith, length, map, All, None, Err, rules}
use Rattle.std.specs.List.{range_with_len, sum_by}
use Rattle.std.proofs.lemmas.List.{length-map}
use Rattle.window_plan.specs.Limits.{most_links, most_windows}
use Rattle.window_plan.specs.Contents.{AreContents}
use Rattle.window_plan.specs.Kinds.{order_of}
use Rattle.window_plan.specs.Layouts.{IsSurvey, deps_at, large_window}
use Rattle.window_plan.specs.Placed.{IsPlacedPlan, places_by_window, windows_by}
use Rattle.window_plan.specs.Ranks.{cell_at}
use Rattle.window_plan.proofs.Assembled.{beyond, homes_within, is_placed, is_table, many_windows, none_mapped, own_lists}
use Rattle.window_plan.proofs.planning.plan.Goals as goal

pub find_homes-requires-clause-few : goal.find_homes-requires-clause-few
find_homes-requires-clause-few c =
    omega (arith, c.requires.tags, c.vertices-vertices.ensures, c.vertices-vertices.type_inv)

pub returns-then-windows-gt-MOST_WINDOWS-clause-err :
    goal.returns-then-windows-gt-MOST_WINDOWS-clause-err
returns-then-windows-gt-MOST_WINDOWS-clause-err c =
    let g = c.args.graph.now in
    let tags = c.args.tags.now in
    let order = order_of c.args.kind in
    let commit = c.args.commit in
    let buffer = c.args.buffer in
    let cells = c.in_ok-found.found.cells.items in
    let homes = c.in_ok-found.found.homes.items in
    let count : c.len-windows.result ≡ length cells =
    omega (arith, c.len-windows.ensures, c.in_ok-found.found.cells.ok) in
    many_windows g tags order commit buffer cells homes c.in_ok-found.ensures.cells
    c.in_ok-found.ensures.homes c.len-windows.result count c.if-windows-gt-MOST_WINDOWS.true

pub new-requires-clause-homes : goal.new-requires-clause-homes
new-requires-clause-homes c =
    let g = c.args.graph.now in
    let tags = c.args.tags.now in
    let order = order_of c.args.kind in
    let commit = c.args.commit in
    let buffer = c.args.buffer in
    let cells = c.in_ok-found.found.cells.items in
    let homes = c.in_ok-found.found.homes.items in
    let count : c.len-windows.result ≡ length cells =
    omega (arith, c.len-windows.ensures, c.in_ok-found.found.cells.ok) in
    subst (λ k. All (λ home. home < k) homes) (length-map cells cell_at
    ∙ sym count)
    (homes_within commit tags (map cell_at cells) homes c.in_ok-found.ensures.homes)

pub returns-in_err-within_limits-clause-err : goal.returns-in_err-within_limits-clause-err
returns-in_err-within_limits-clause-err c =
    let g = c.args.graph.now in
    let tags = c.args.tags.now in
    let order = order_of c.args.kind in
    let commit = c.args.commit in
    let buffer = c.args.buffer in
    let cells = c.in_ok-found.found.cells.items in
    let homes = c.in_ok-found.found.homes.items in
    let count : c.len-windows.result ≡ length cells =
    omega (arith, c.len-windows.ensures, c.in_ok-found.found.cells.ok) in
    let few : length cells ≤ most_windows =
    omega (arith, count, c.if-windows-gt-MOST_WINDOWS.false) in
    let n = length (map cell_at cells) in
    let windows : c.in_ok-layout.layout.windows ≡ n = c.in_ok-layout.ensures.windows ∙ count
    ∙ sym (length-map cells cell_at) in
    let look = c.in_ok-survey.survey in
    let looked : IsSurvey g homes n buffer n look.detectors look.deps look.links look.larger =
    subst (λ k. IsSurvey g homes k buffer k look.detectors look.deps look.links look.larger) windows
    (subst (λ h. IsSurvey g h c.in_ok-layout.layout.windows buffer c.in_ok-layout.layout.windows
    look.detectors look.deps look.links look.larger) c.in_ok-layout.ensures.homes
    c.in_ok-survey.ensures.survey) in
    let e = c.in_err-within_limits.field-0.0 in
    let is : c.from_residual-in_err-within_limits.result ≡ Err e = search rules in
    rw is (beyond g tags order commit buffer cells homes c.in_ok-found.ensures.cells
    c.in_ok-found.ensures.homes look.links look.larger few looked.linked looked.first e
    c.in_err-within_limits.ensures.err)

pub invariant_of-result : goal.invariant_of-result
invariant_of-result c =
    let g = c.args.graph.now in
    let tags = c.args.tags.now in
    let order = order_of c.args.kind in
    let commit = c.args.commit in
    let buffer = c.args.buffer in
    let cells = c.in_ok-found.found.cells.items in
    let homes = c.in_ok-found.found.homes.items in
    let count : c.len-windows.result ≡ length cells =
    omega (arith, c.len-windows.ensures, c.in_ok-found.found.cells.ok) in
    let few : length cells ≤ most_windows =
    omega (arith, count, c.if-windows-gt-MOST_WINDOWS.false) in
    let n = length (map cell_at cells) in
    let windows : c.in_ok-layout.layout.windows ≡ n = c.in_ok-layout.ensures.windows ∙ count
    ∙ sym (length-map cells cell_at) in
    let look = c.in_ok-survey.survey in
    let looked : IsSurvey g homes n buffer n look.detectors look.deps look.links look.larger =
    subst (λ k. IsSurvey g homes k buffer k look.detectors look.deps look.links look.larger) windows
    (subst (λ h. IsSurvey g h c.in_ok-layout.layout.windows buffer c.in_ok-layout.layout.windows
    look.detectors look.deps look.links look.larger) c.in_ok-layout.ensures.homes
    c.in_ok-survey.ensures.survey) in
    let none : look.larger ≡ None = c.in_ok-within_limits.ensures.larger in
    let full = c.in_ok-contents.contents in
    let filled : AreContents g tags c.in_ok-layout.layout.homes.items c.in_ok-layout.layout.windows
    buffer c.in_ok-layout.layout.windows full.edges full.lasts.items full.places =
    subst (λ b. AreContents g tags c.in_ok-layout.layout.homes.items c.in_ok-layout.layout.windows b
    c.in_ok-layout.layout.windows full.edges full.lasts.items full.places)
    c.in_ok-survey.ensures.buffer c.in_ok-contents.ensures in
    let contents : AreContents g tags homes n buffer n full.edges full.lasts.items full.places =
    subst (λ k. AreContents g tags homes k buffer k full.edges full.lasts.items full.places) windows
    (subst (λ h. AreContents g tags h c.in_ok-layout.layout.windows buffer
    c.in_ok-layout.layout.windows full.edges full.lasts.items full.places)
    c.in_ok-layout.ensures.homes filled) in
    let owned = c.in_ok-layout.layout.owned.rows in
    let mine : length owned ≡ n = c.in_ok-layout.ensures.layout.lists ∙ windows in
    let linked = looked.linked in
    let short : sum_by length (map (deps_at g homes n buffer) (range_with_len 0 n)) ≤ most_links =
    omega (arith, linked, c.in_ok-within_limits.ensures.links) in
    let small = none_mapped (large_window g homes buffer) _ (sym looked.first ∙ none) in
    let owned_is =
    λ (w : ℕ) (l : w < n). own_lists g c.is_graph.ensures.ends c.in_ok-layout.layout.homes.items
    homes c.in_ok-layout.ensures.homes c.in_ok-layout.layout.owners.items
    c.in_ok-layout.layout.members.rows owned c.in_ok-layout.layout.windows
    c.in_ok-layout.ensures.layout w in
    is_table g tags order commit buffer cells homes c.in_ok-found.ensures.cells
    c.in_ok-found.ensures.homes few look.detectors full.edges owned look.deps full.lasts.items
    full.places n (length-map cells cell_at) (looked.searched none) (looked.depended none)
    contents mine owned_is short small

pub returns-clause-ok : goal.returns-clause-ok
returns-clause-ok c =
    let g = c.args.graph.now in
    let tags = c.args.tags.now in
    let order = order_of c.args.kind in
    let commit = c.args.commit in
    let buffer = c.args.buffer in
    let cells = c.in_ok-found.found.cells.items in
    let homes = c.in_ok-found.found.homes.items in
    let count : c.len-windows.result ≡ length cells =
    omega (arith, c.len-windows.ensures, c.in_ok-found.found.cells.ok) in
    let few : length cells ≤ most_windows =
    omega (arith, count, c.if-windows-gt-MOST_WINDOWS.false) in
    let n = length (map cell_at cells) in
    let windows : c.in_ok-layout.layout.windows ≡ n = c.in_ok-layout.ensures.windows ∙ count
    ∙ sym (length-map cells cell_at) in
    let look = c.in_ok-survey.survey in
    let looked : IsSurvey g homes n buffer n look.detectors look.deps look.links look.larger =
    subst (λ k. IsSurvey g homes k buffer k look.detectors look.deps look.links look.larger) windows
    (subst (λ h. IsSurvey g h c.in_ok-layout.layout.windows buffer c.in_ok-layout.layout.windows
    look.detectors look.deps look.links look.larger) c.in_ok-layout.ensures.homes
    c.in_ok-survey.ensures.survey) in
    let none : look.larger ≡ None = c.in_ok-within_limits.ensures.larger in
    let full = c.in_ok-contents.contents in
    let filled : AreContents g tags c.in_ok-layout.layout.homes.items c.in_ok-layout.layout.windows
    buffer c.in_ok-layout.layout.windows full.edges full.lasts.items full.places =
    subst (λ b. AreContents g tags c.in_ok-layout.layout.homes.items c.in_ok-layout.layout.windows b
    c.in_ok-layout.layout.windows full.edges full.lasts.items full.places)
    c.in_ok-survey.ensures.buffer c.in_ok-contents.ensures in
    let contents : AreContents g tags homes n buffer n full.edges full.lasts.items full.places =
    subst (λ k. AreContents g tags homes k buffer k full.edges full.lasts.items full.places) windows
    (subst (λ h. AreContents g tags h c.in_ok-layout.layout.windows buffer
    c.in_ok-layout.layout.windows full.edges full.lasts.items full.places)
    c.in_ok-layout.ensures.homes filled) in
    let owned = c.in_ok-layout.layout.owned.rows in
    let mine : length owned ≡ n = c.in_ok-layout.ensures.layout.lists ∙ windows in
    let linked = looked.linked in
    let short : sum_by length (map (deps_at g homes n buffer) (range_with_len 0 n)) ≤ most_links =
    omega (arith, linked, c.in_ok-within_limits.ensures.links) in
    let small = none_mapped (large_window g homes buffer) _ (sym looked.first ∙ none) in
    let owned_is =
    λ (w : ℕ) (l : w < n). own_lists g c.is_graph.ensures.ends c.in_ok-layout.layout.homes.items
    homes c.in_ok-layout.ensures.homes c.in_ok-layout.layout.owners.items
    c.in_ok-layout.layout.members.rows owned c.in_ok-layout.layout.windows
    c.in_ok-layout.ensures.layout w in
    subst (λ h. IsPlacedPlan g tags order commit buffer
    (record {
      plan = record {
        cells = map cell_at cells;
        homes = h;
        windows = windows_by look.detectors full.edges owned look.deps full.lasts.items;
      };
      places = places_by_window look.deps full.places;
    })) (sym c.in_ok-layout.ensures.homes)
    (is_placed g tags order commit buffer cells homes c.in_ok-found.ensures.cells
    c.in_ok-found.ensures.homes few look.detectors full.edges owned look.deps full.lasts.items
    full.places n (length-map cells cell_at) (looked.searched none) (looked.depended none)
    contents mine owned_is short small)
