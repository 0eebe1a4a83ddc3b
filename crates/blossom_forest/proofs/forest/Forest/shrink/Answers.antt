use Rattle.std.proofs.Common.{rules, ◌≡◌, ◌<◌, ◌-◌, ◌++◌, ℕ, [], All, Some, slice_get, arith, length, refl, sym, ap, ◌∙◌, subst, take}
use Rattle.std.specs.Prelude.{slice_index}
use Rattle.std.specs.List.{AllByRecursion}
use Rattle.std.proofs.lemmas.List.Elements.{All-nil, All-take}
use Rattle.std.proofs.lemmas.Option.{get_or_from_slice_get, slice_get_read}
use Rattle.link_lists.specs.Lists.{IsApart}
use Rattle.blossom_nest.specs.Nests.{IsOutermost}
use Rattle.blossom_forest.specs.Trees.{IsClosed, names, way_from, way_up}
use Rattle.blossom_forest.proofs.Joining.{closes}
use Rattle.blossom_forest.proofs.forest.Forest.shrink.Goals as goal

pub join_ways-requires-clause-one : goal.join_ways-requires-clause-one
join_ways-requires-clause-one c =
    let Low : ℕ → Type 0 = λ s. s < names c.self.inside.trees.vertices in
    let empty : c.clear.new.self.items ≡ [] = search rules in
    let same : c.deref-3.result.now ≡ c.path_to_root.new.path.items = search rules in
    All-take Low (c.len-2.result - c.shared-shared.result) c.deref-3.result.now
    (subst (All Low) (sym same) (c.path_to_root.ensures.low (subst (All Low) (sym empty)
    (All-nil Low))))

pub join_ways-requires-clause-two : goal.join_ways-requires-clause-two
join_ways-requires-clause-two c =
    let Low : ℕ → Type 0 = λ s. s < names c.self.inside.trees.vertices in
    let empty : c.clear-2.new.self.items ≡ [] = search rules in
    let same : c.deref-4.result.now ≡ c.path_to_root-2.new.path.items = search rules in
    All-take Low (c.len-3.result - c.shared-shared.result) c.deref-4.result.now
    (subst (All Low) (sym same) (c.path_to_root-2.ensures.low (subst (All Low) (sym empty)
    (All-nil Low))))

pub returns-clause-closed : goal.returns-clause-closed
returns-clause-closed c =
    let old = c.self.inside.trees in
    let nest = c.args.nest.now in
    let count = c.shared-shared.result in
    let path = c.deref.result.now in
    let other = c.deref-2.result.now in
    let ring = c.deref-6.result.now in
    let none : c.clear.new.self.items ≡ [] = search rules in
    let none' : c.clear-2.new.self.items ≡ [] = search rules in
    let first_way : path ≡ way_from old nest c.args.one =
    c.deref.ensures.value ∙ c.path_to_root.ensures.way
    ∙ ap (λ xs. xs ++ way_up old.vertices nest old c.top-first.result) none
    ∙ ap (way_up old.vertices nest old) c.top-first.ensures.value in
    let second_way : other ≡ way_from old nest c.args.two =
    c.deref-2.ensures.value ∙ c.path_to_root-2.ensures.way
    ∙ ap (λ xs. xs ++ way_up old.vertices nest old c.top-second.result) none'
    ∙ ap (way_up old.vertices nest old) c.top-second.ensures.value in
    let same : c.deref-3.result.now ≡ path = search rules in
    let same' : c.deref-4.result.now ≡ other = search rules in
    let long : c.len-2.result ≡ length path = search rules in
    let long' : c.len-3.result ≡ length other = search rules in
    let some : count ≡ 0 → ⊥ = search rules in
    let items = c.path_to_root.new.path.items in
    let whole : path ≡ items = c.deref.ensures.value in
    let size : c.len.result ≡ length items = search rules in
    let at = c.len.result - count in
    let within : at < length items =
    omega (arith, size, some, c.shared-shared.ensures.first, ap length whole) in
    let got : slice_get items at ≡ Some c.index.result.now =
    slice_get_read items (length items) at c.index.result.now refl within c.index.ensures in
    let meet : c.index.result.now ≡ slice_index path (length path - count) =
    sym (get_or_from_slice_get items at c.index.result.now 0 got)
    ∙ ap (λ m. slice_index items (m - count)) size
    ∙ ap (λ z. slice_index z (length z - count)) (sym whole) in
    let first = take (c.len-2.result - count) c.deref-3.result.now in
    let second = take (c.len-3.result - count) c.deref-4.result.now in
    let left : first ≡ take (length path - count) path =
    ap (λ n. take (n - count) c.deref-3.result.now) long ∙ ap (take (length path - count)) same in
    let right : second ≡ take (length other - count) other =
    ap (λ n. take (n - count) c.deref-4.result.now) long' ∙ ap (take (length other - count)) same'
    in
    let listed : ring ≡ c.list_ring.new.ring.items = search rules in
    let checked : c.deref-5.result.now ≡ ring = search rules in
    subst (λ z. IsClosed z nest c.args.one c.args.two c.shrink-set.result c.note_outer.new.trees
    c.shrink-set.new.self) c.self.view_is
    (closes old c.note_outer.new.trees c.join_ways.new.trees nest c.shrink-set.new.self c.args.one
    c.args.two c.shrink-set.result path other first second ring count c.index.result.now first_way
    second_way c.shared-shared.ensures some meet left right (listed ∙ c.list_ring.ensures.list)
    (subst IsApart checked (c.is_ring.ensures.apart c.if-not-is_ring.false))
    (subst (AllByRecursion (IsOutermost nest)) checked (c.is_ring.ensures.outermost
    c.if-not-is_ring.false))
    c.shrink-set.ensures c.join_ways.ensures.round c.note_outer.ensures)
