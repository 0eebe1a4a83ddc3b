use Rattle.std.proofs.Common.{◌≡◌, subst}
use Rattle.blossom_forest.specs.Trees.{IsInRange, noted, unmatched}
use Rattle.blossom_forest.proofs.Fresh.{fresh}
use Rattle.blossom_forest.proofs.trees.Trees.new.Goals as goal

pub invariant_of-result : goal.invariant_of-result
invariant_of-result c =
    let n = c.args.vertices in
    let mark = c.in_ok-vec.ensures.items_if_clones_equal (λ y e. e) in
    let label = c.in_ok-each_itself.ensures in
    let base = c.in_ok-each_itself-2.ensures in
    let link = c.in_ok-vec-2.ensures.items_if_clones_equal (λ y e. e) in
    let joint = c.in_ok-vec-3.ensures.items_if_clones_equal (λ y e. e) in
    let mate = c.in_ok-each_itself-3.ensures in
    let same : unmatched n ≡ noted n n c.in_ok-vec.field-0.items c.in_ok-each_itself.field-0.items
    c.in_ok-each_itself-2.field-0.items c.in_ok-vec-2.field-0.items c.in_ok-vec-3.field-0.items
    c.in_ok-each_itself-3.field-0.items = cc (mark, label, base, link, joint, mate) in
    subst IsInRange same (fresh n c.requires)
