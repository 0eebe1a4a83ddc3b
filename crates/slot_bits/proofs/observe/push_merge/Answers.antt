use Rattle.std.proofs.Common.{arith}
use Rattle.slot_bits.proofs.Watching.{in_of, merge_is}
use Rattle.slot_bits.proofs.observe.push_merge.Goals as goal

pub overflow_cast-split : goal.overflow_cast-split
overflow_cast-split c =
    let k = merge_is c.args.places.now c.is_accepted.ensures c.args.merge.now
    (in_of _ _ c.requires) in
    let a = k.slot in let b = k.count in omega (arith, a, b, c.split_slot-split.ensures)
