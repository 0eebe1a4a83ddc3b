use Rattle.std.proofs.Common.{◌+◌, sym, ◌∙◌, subst}
use Rattle.slot_bits.proofs.Searching.{Merging, first_step, second_step, both_step}
use Rattle.slot_bits.proofs.order.union.Goals as goal

pub loop-first-preserved-then-comes_before : goal.loop-first-preserved-then-comes_before
loop-first-preserved-then-comes_before c =
    subst (λ zs. Merging c.args.one.now c.args.two.now zs (c.loop-first.first + 1)
    c.loop-first.second) (sym c.in_ok-push.ensures.items)
    (first_step c.args.one.now c.args.two.now c.loop-first.bits.items c.loop-first.first
    c.loop-first.second c.index-one-first.result c.index-two-second.result
    c.loop-first-test.true c.if-second-two.true c.index-one-first.is c.index-two-second.is
    c.loop-first.invariant (sym c.comes_before.ensures ∙ c.if-comes_before.true))

pub loop-first-preserved-then-comes_before-2 : goal.loop-first-preserved-then-comes_before-2
loop-first-preserved-then-comes_before-2 c =
    subst (λ zs. Merging c.args.one.now c.args.two.now zs c.loop-first.first
    (c.loop-first.second + 1)) (sym c.in_ok-push-2.ensures.items)
    (second_step c.args.one.now c.args.two.now c.loop-first.bits.items c.loop-first.first
    c.loop-first.second c.index-one-first.result c.index-two-second.result
    c.loop-first-test.true c.if-second-two.true c.index-one-first.is c.index-two-second.is
    c.loop-first.invariant (sym c.comes_before-else-comes_before.ensures
    ∙ c.if-comes_before-2.true))

pub loop-first-preserved : goal.loop-first-preserved
loop-first-preserved c =
    subst (λ zs. Merging c.args.one.now c.args.two.now zs (c.loop-first.first + 1)
    (c.loop-first.second + 1)) (sym c.in_ok-push-3.ensures.items)
    (both_step c.args.one.now c.args.two.now c.loop-first.bits.items c.loop-first.first
    c.loop-first.second c.index-one-first.result c.index-two-second.result
    c.loop-first-test.true c.if-second-two.true c.index-one-first.is c.index-two-second.is
    c.loop-first.invariant (sym c.comes_before.ensures ∙ c.if-comes_before.false)
    (sym c.comes_before-else-comes_before.ensures ∙ c.if-comes_before-2.false))
