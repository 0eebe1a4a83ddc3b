use Rattle.std.proofs.Common.{arith}
use Rattle.workload_maker.proofs.Drawn.{draw_end, draw_more}
use Rattle.workload_maker.specs.Draws.{generator_of}
use Rattle.workload_maker.proofs.errors.happening.Goals as goal

pub loop-error-preserved : goal.loop-error-preserved
loop-error-preserved c =
    draw_more (generator_of c.args.seed) c.loop-error.generator c.next_word.new.self
    c.next_word.result c.args.listed.now c.loop-error.errors.items
    c.push_happening.new.errors.items c.loop-error.error-index _ c.loop-error-test.true
    c.next_word.ensures c.in_ok-push_happening.ensures c.loop-error.invariant

pub returns : goal.returns
returns c =
    draw_end (generator_of c.args.seed) c.loop-error.generator c.args.listed.now
    c.loop-error.errors.items c.loop-error.error-index (omega (arith, c.loop-error-test.false))
    c.loop-error.invariant
