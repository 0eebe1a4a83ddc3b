use Rattle.std.proofs.Common.{arith}
use Rattle.schedule_reader.proofs.Numbers.{number_room, number_digit}
use Rattle.schedule_reader.proofs.field.number_of.Goals as goal

pub overflow_mul-number : goal.overflow_mul-number
overflow_mul-number c = let h = number_room _ _ _ c.requires c.loop-byte-test.true
    c.loop-byte.invariant.1 in omega arith

pub overflow_add-number : goal.overflow_add-number
overflow_add-number c =
    let h = number_room _ _ _ c.requires c.loop-byte-test.true c.loop-byte.invariant.1 in
    let d = number_digit _ _ c.requires c.loop-byte-test.true in
    omega arith
