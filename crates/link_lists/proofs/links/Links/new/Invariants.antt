use Rattle.std.proofs.Common.{◌≡◌, replicate}
use Rattle.link_lists.specs.Lists.{bare}
use Rattle.link_lists.proofs.links.Links.new.Given as goal

abbrev pub invariant-loop : goal.invariant-loop
invariant-loop l = l.made.items ≡ replicate l.counter (bare l.nodes 1)
