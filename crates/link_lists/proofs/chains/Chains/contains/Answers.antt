use Rattle.std.proofs.Common.{◌≡◌, ◌<◌, ◌==◌, ◌∙◌, sym, ap, arith}
use Rattle.std.proofs.lemmas.Grind.{common_steps}
use Rattle.link_lists.specs.Chains.{at}
use Rattle.link_lists.specs.Lists.{Lists}
use Rattle.link_lists.proofs.Writes.{home_is}
use Rattle.link_lists.proofs.chains.Chains.contains.Goals as goal

pub returns : goal.returns
returns c =
    let same = ap (λ (s : Lists). s.nodes) c.self.view_is in
    let low : c.args.node < c.self.inside.nodes = omega (arith, same, c.requires.node) in
    let read : at c.self.inside.home.items c.args.node ≡ c.index.result.now =
    grind (arith, common_steps, c.self.invariant.home_len) in
    ap (λ h. h == c.args.list) (sym read) ∙ home_is _ _ _ _ _ c.self.invariant c.args.list
    c.args.node _ c.self.view_is c.requires.list c.requires.node
