use Rattle.std.proofs.Common.{[], ◌++◌, ap, ◌∙◌, get_or, refl}
use Rattle.slot_bits.specs.Seen.{bits_of}
use Rattle.error_map.specs.Sees.{changed_among}
use Rattle.error_map.proofs.Loops.{take_whole}
use Rattle.error_map.proofs.Round.{near_turn}
use Rattle.error_map.proofs.changes.push_changes.Goals as goal

pub loop-bit-preserved : goal.loop-bit-preserved
loop-bit-preserved c =
    near_turn c.args.effect c.args.slot
    (get_or c.args.map.now.lines c.args.slot []) c.args.bits.now.items c.args.near.now
    c.loop-bit.bit-index c.bit-item.result c.loop-bit-test.true c.bit-item.is
    c.changed_place.result c.changed_place.ensures c.loop-bit.bits.items c.push_place.new.bits.items
    c.loop-bit.invariant c.in_ok-push_place.ensures

pub returns : goal.returns
returns c =
    c.loop-bit.invariant
    ∙ ap (λ xs. c.args.bits.now.items ++ changed_among c.args.effect c.args.slot
    (get_or c.args.map.now.lines c.args.slot []) (bits_of xs))
    (take_whole c.args.near.now c.args.near.now refl c.loop-bit.bit-index c.loop-bit-test.false)
