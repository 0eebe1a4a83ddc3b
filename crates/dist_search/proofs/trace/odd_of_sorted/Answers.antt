use Rattle.std.proofs.Common.{sym, ◌∙◌}
use Rattle.dist_search.proofs.Ways.{odd_skip, odd_keep}
use Rattle.dist_search.proofs.trace.odd_of_sorted.Goals as goal

pub loop-at-preserved-then-is_twice : goal.loop-at-preserved-then-is_twice
loop-at-preserved-then-is_twice c = odd_skip c.args.edges.now c.requires c.loop-at.at c.loop-at.set
    c.loop-at-test.true c.loop-at.invariant (sym c.is_twice.ensures ∙ c.if-is_twice.true)

pub loop-at-preserved : goal.loop-at-preserved
loop-at-preserved c =
    odd_keep c.args.edges.now c.requires c.loop-at.at c.loop-at.set c.loop-at-test.true
    c.loop-at.invariant c.push.new.self (sym c.is_twice.ensures ∙ c.if-is_twice.false)
    c.in_ok-push.ensures.ok
