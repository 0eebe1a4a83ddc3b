use Rattle.std.proofs.Common.{[], ◌∷◌, refl, arith}
use Rattle.syndrome_source.proofs.Steps.{byte_for_bit, feed_for_bit}
use Rattle.port_io.proofs.Takings.{byte_taken, end_taken, none_taken}
use Rattle.syndrome_source.proofs.rows.take_bit.Goals as goal

pub returns-in-Byte-eq48-clause-bit : goal.returns-in-Byte-eq48-clause-bit
returns-in-Byte-eq48-clause-bit g c =
    byte_taken _ _ _ _ _ _ _ c.in-Byte-eq48.is c.in-Byte-eq48.field-0-test c.take.ensures.left
    c.take.ensures.tape

pub returns-in-Byte-eq49-clause-bit : goal.returns-in-Byte-eq49-clause-bit
returns-in-Byte-eq49-clause-bit g c =
    byte_taken _ _ _ _ _ _ _ c.in-Byte-eq49.is c.in-Byte-eq49.field-0-test c.take.ensures.left
    c.take.ensures.tape

pub returns-in-Byte-eq10-clause-refused : goal.returns-in-Byte-eq10-clause-refused
returns-in-Byte-eq10-clause-refused g c = (
  10 ∷ [],
  byte_taken _ _ _ _ _ _ _ c.in-Byte-eq10.is c.in-Byte-eq10.field-0-test c.take.ensures.left
      c.take.ensures.tape,
  λ more last. (refl, feed_for_bit more last),
)

pub returns-in-Byte-clause-refused : goal.returns-in-Byte-clause-refused
returns-in-Byte-clause-refused g c = (
  c.in-Byte.field-0 ∷ [],
  byte_taken _ _ _ _ _ _ _ c.in-Byte.is refl c.take.ensures.left c.take.ensures.tape,
  λ more last. (
    refl,
    byte_for_bit more c.in-Byte.field-0 last (λ e. omega arith) (λ e. omega arith)
        (λ e. omega arith),
  ),
)

pub returns-in-End-clause-refused : goal.returns-in-End-clause-refused
returns-in-End-clause-refused g c =
    let went = end_taken _ _ _ _ _ c.in-End.is c.take.ensures.left c.take.ensures.tape in
    ([], went.0, λ more last. (refl, went.1, refl))

pub returns-in-Failed-clause-refused : goal.returns-in-Failed-clause-refused
returns-in-Failed-clause-refused g c = (
  [],
  none_taken _ _ _ _ _ c.in-Failed.is c.take.ensures.left c.take.ensures.tape,
  λ more last. refl,
)
