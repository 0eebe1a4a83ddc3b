use Rattle.std.proofs.Common.{◌∙◌, arith}
use Rattle.std.proofs.lemmas.Grind.{get_or_default_zero}
use Rattle.number_sets.proofs.Cuts.{seen_before, seen_bound}
use Rattle.number_sets.proofs.lists.Lists.before.Goals as goal

pub index-requires : goal.index-requires
index-requires c = let k = seen_bound c.self.inside.bounds.items c.self.inside.values.items
    c.self.invariant c.args.self.now c.self.view_is c.args.at c.requires in
    omega (arith, k, c.self.inside.bounds.ok)

pub returns : goal.returns
returns c =
    let bounds = c.self.inside.bounds.items in
    let values = c.self.inside.values.items in
    c.index.ensures
    ∙ get_or_default_zero bounds c.args.at c.index.result.now
    (seen_bound bounds values c.self.invariant c.args.self.now c.self.view_is c.args.at
    c.requires)
    ∙ seen_before bounds values c.self.invariant c.args.self.now c.self.view_is c.args.at c.requires
