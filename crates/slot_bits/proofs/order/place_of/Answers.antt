use Rattle.std.proofs.Common.{arith, sym, ◌∙◌, ap, get_or, Some}
use Rattle.slot_bits.specs.Order.{comes_before}
use Rattle.slot_bits.specs.Seen.{bit_of, bits_of}
use Rattle.slot_bits.proofs.Searching.{place_found, place_absent, get-bits, length-bits}
use Rattle.slot_bits.proofs.order.place_of.Goals as goal

pub returns-then-low-bits : goal.returns-then-low-bits
returns-then-low-bits c =
    sym (place_absent (bits_of c.args.bits.now) (bit_of c.args.bit.now) (bit_of c.args.bit.now)
    c.requires.rising
    (λ l. absurd (omega (
      arith,
      l,
      length-bits c.args.bits.now,
      c.count_before-low.ensures.count,
      c.if-low-bits.true,
    ))))

pub returns-then-comes_before : goal.returns-then-comes_before
returns-then-comes_before c =
    let xs = bits_of c.args.bits.now in let b = bit_of c.args.bit.now in
    let x = c.index-bits-low.result in
    sym (place_absent xs b (bit_of x) c.requires.rising
    (λ l. ap (comes_before b)
    (ap (λ n. get_or xs n (bit_of x)) (sym c.count_before-low.ensures.count)
    ∙ get-bits c.args.bits.now c.count_before-low.result x
    ∙ ap bit_of (sym c.index-bits-low.is)) ∙ sym c.comes_before.ensures
    ∙ c.if-comes_before.true))

pub returns : goal.returns
returns c =
    let xs = bits_of c.args.bits.now in let b = bit_of c.args.bit.now in
    let x = c.index-bits-low.result in
    ap Some c.count_before-low.ensures.count
    ∙ sym (place_found xs b (bit_of x) c.requires.rising (omega (
      arith,
      length-bits c.args.bits.now,
      c.count_before-low.ensures.count,
      c.count_before-low.ensures.bound,
      c.if-low-bits.false,
    ))
    (ap (comes_before b) (ap (λ n. get_or xs n (bit_of x)) (sym c.count_before-low.ensures.count)
    ∙ get-bits c.args.bits.now c.count_before-low.result x
    ∙ ap bit_of (sym c.index-bits-low.is)) ∙ sym c.comes_before.ensures
    ∙ c.if-comes_before.false))
