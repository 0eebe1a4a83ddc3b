use Rattle.std.proofs.Common.{◌<◌, ◌+◌, ◌-◌, ◌/◌, arith, sym, ◌∙◌, ap, length}
use Rattle.slot_bits.specs.Order.{comes_before}
use Rattle.slot_bits.specs.Seen.{bit_of, bits_of}
use Rattle.slot_bits.proofs.Searching.{before_bound, counted, not_counted, get-bits, length-bits}
use Rattle.slot_bits.proofs.order.count_before.Goals as goal

pub loop-low-init : goal.loop-low-init
loop-low-init c = (
  omega arith,
  omega arith,
  omega (
    arith,
    before_bound (bits_of c.args.bits.now) (bit_of c.args.bit.now),
    length-bits c.args.bits.now,
  ),
)

pub loop-low-preserved-then-comes_before : goal.loop-low-preserved-then-comes_before
loop-low-preserved-then-comes_before c =
    let at = c.loop-low.low + (c.loop-low.high - c.loop-low.low) / 2 in
    let x = c.index-bits-middle.result in
    let l : at < length (bits_of c.args.bits.now) =
    omega (arith, length-bits c.args.bits.now, c.loop-low.invariant.0) in
    let k = counted (bits_of c.args.bits.now) (bit_of c.args.bit.now) at
    (bit_of x) c.requires.rising l
    (ap (λ y. comes_before y (bit_of c.args.bit.now)) (get-bits c.args.bits.now at x
    ∙ ap bit_of (sym c.index-bits-middle.is)) ∙ sym c.comes_before.ensures
    ∙ c.if-comes_before.true) in
    (c.loop-low.invariant.0, omega (arith, k), c.loop-low.invariant.2)

pub loop-low-preserved : goal.loop-low-preserved
loop-low-preserved c =
    let at = c.loop-low.low + (c.loop-low.high - c.loop-low.low) / 2 in
    let x = c.index-bits-middle.result in
    let k = not_counted (bits_of c.args.bits.now) (bit_of c.args.bit.now) at (bit_of x)
    (ap (λ y. comes_before y (bit_of c.args.bit.now)) (get-bits c.args.bits.now at x
    ∙ ap bit_of (sym c.index-bits-middle.is)) ∙ sym c.comes_before.ensures
    ∙ c.if-comes_before.false) in
    (omega (arith, c.loop-low.invariant.0), c.loop-low.invariant.1, k)
