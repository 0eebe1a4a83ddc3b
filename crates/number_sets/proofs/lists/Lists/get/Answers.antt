use Rattle.std.proofs.Common.{◌≡◌, ◌+◌, ◌∙◌, arith}
use Rattle.std.specs.Prelude.{slice_index}
use Rattle.std.proofs.lemmas.Grind.{get_or_default_zero}
use Rattle.number_sets.proofs.Cuts.{seen_bound, seen_list}
use Rattle.number_sets.proofs.lists.Lists.get.Goals as goal

pub index-requires : goal.index-requires
index-requires c = let k = seen_bound c.self.inside.bounds.items c.self.inside.values.items
    c.self.invariant c.args.self.now c.self.view_is (c.args.at + 1) (omega (arith, c.requires)) in
    omega (arith, k, c.self.inside.bounds.ok)

pub overflow_add-at : goal.overflow_add-at
overflow_add-at c = let k = seen_bound c.self.inside.bounds.items c.self.inside.values.items
    c.self.invariant c.args.self.now c.self.view_is (c.args.at + 1) (omega (arith, c.requires)) in
    omega (arith, k, c.self.inside.bounds.ok, c.self.inside.bounds.small)

pub index-requires-2 : goal.index-requires-2
index-requires-2 c = let k = seen_bound c.self.inside.bounds.items c.self.inside.values.items
    c.self.invariant c.args.self.now c.self.view_is (c.args.at + 1) (omega (arith, c.requires)) in
    omega (arith, k, c.self.inside.bounds.ok)

pub part-requires-clause-order : goal.part-requires-clause-order
part-requires-clause-order c =
    let bounds = c.self.inside.bounds.items in
    let k = seen_bound bounds c.self.inside.values.items c.self.invariant c.args.self.now
    c.self.view_is (c.args.at + 1) (omega (arith, c.requires)) in
    let start = c.index.ensures
    ∙ get_or_default_zero bounds c.args.at c.index.result.now (omega (arith, k)) in
    let end = c.index-2.ensures
    ∙ get_or_default_zero bounds (c.args.at + 1) c.index-2.result.now k in
    let rise = c.self.invariant.rising c.args.at k in
    omega (arith, start, end, rise)

pub part-requires-clause-end : goal.part-requires-clause-end
part-requires-clause-end c =
    let bounds = c.self.inside.bounds.items in
    let k = seen_bound bounds c.self.inside.values.items c.self.invariant c.args.self.now
    c.self.view_is (c.args.at + 1) (omega (arith, c.requires)) in
    let end = c.index-2.ensures
    ∙ get_or_default_zero bounds (c.args.at + 1) c.index-2.result.now k in
    let within = c.self.invariant.within (c.args.at + 1) k in
    omega (arith, end, within, c.deref.ensures.len, c.self.inside.values.ok)

pub returns : goal.returns
returns c =
    let bounds = c.self.inside.bounds.items in
    let values = c.self.inside.values.items in
    let k = seen_bound bounds values c.self.invariant c.args.self.now c.self.view_is (c.args.at + 1)
    (omega (arith, c.requires)) in
    let start : c.index.result.now ≡ slice_index bounds c.args.at = c.index.ensures
    ∙ get_or_default_zero bounds c.args.at c.index.result.now (omega (arith, k)) in
    let end : c.index-2.result.now ≡ slice_index bounds (c.args.at + 1) = c.index-2.ensures
    ∙ get_or_default_zero bounds (c.args.at + 1) c.index-2.result.now k in
    seen_list bounds values c.self.invariant c.args.self.now c.self.view_is c.args.at
    c.index.result.now c.index-2.result.now c.deref.result.now c.part.result.now c.requires
    start end c.deref.ensures.value c.part.ensures
