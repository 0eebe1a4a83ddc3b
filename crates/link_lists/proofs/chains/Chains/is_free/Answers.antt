use Rattle.std.proofs.Common.{◌≡◌, ◌<◌, ◌≤◌, ap, arith}
use Rattle.std.proofs.lemmas.Bool.Decides.{nat_tests}
use Rattle.std.proofs.lemmas.Grind.{common_steps}
use Rattle.link_lists.specs.Chains.{at}
use Rattle.link_lists.specs.Lists.{Lists}
use Rattle.link_lists.proofs.Writes.{is_free, is_taken}
use Rattle.link_lists.proofs.chains.Chains.is_free.Goals as goal
use Rattle.link_lists.proofs.chains.Chains.is_free.Goals.{After-index}

home_read : (c : After-index) → at c.self.inside.home.items c.args.node ≡ c.index.result.now
home_read c =
    let same = ap (λ (s : Lists). s.nodes) c.self.view_is in
    let low : c.args.node < c.self.inside.nodes = omega (arith, same, c.requires) in
    grind (arith, common_steps, c.self.invariant.home_len)

pub returns-clause-free : goal.returns-clause-free
returns-clause-free c = λ t.
    let past : c.self.inside.lists ≤ c.index.result.now = grind (arith, nat_tests, t) in
    let read = home_read (goal.at.returns-clause-free c).After-index in
    is_free _ _ _ _ _ c.self.invariant c.args.node _ c.self.view_is c.requires (omega (
      arith,
      past,
      read,
    ))

pub returns-clause-taken : goal.returns-clause-taken
returns-clause-taken c = λ t.
    let low : c.index.result.now < c.self.inside.lists = grind (arith, nat_tests, t) in
    let read = home_read (goal.at.returns-clause-taken c).After-index in
    is_taken _ _ _ _ _ c.self.invariant c.args.node _ c.self.view_is c.requires (omega (
      arith,
      low,
      read,
    ))
