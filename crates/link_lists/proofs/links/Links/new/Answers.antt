use Rattle.std.proofs.Common.{◌≡◌, ◌∙◌, sym, ap, subst, arith}
use Rattle.link_lists.specs.Lists.{AreSingle, bare}
use Rattle.link_lists.proofs.Singles.{begun, begun_view, shown}
use Rattle.link_lists.proofs.links.Links.new.Goals as goal

pub invariant_of-result : goal.invariant_of-result
invariant_of-result c =
    subst (AreSingle c.args.nodes) (sym c.loop.invariant) (begun c.args.nodes c.loop.counter)

pub returns : goal.returns
returns c =
    let all : c.loop.counter ≡ c.args.lists =
    omega (arith, c.loop-test.false, c.loop.auto.counter-end) in
    ap (shown c.args.nodes) c.loop.invariant ∙ begun_view c.args.nodes c.loop.counter
    ∙ ap (bare c.args.nodes) all
