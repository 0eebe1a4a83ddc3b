use Rattle.std.proofs.Common.{[], ◌∷◌, refl, arith, rules}
use Rattle.syndrome_source.proofs.Steps.{byte_for_feed, bit_for_feed, feed_ends, end_ends, end_lacks}
use Rattle.port_io.proofs.Takings.{byte_taken, end_taken, none_taken}
use Rattle.syndrome_source.proofs.rows.take_end.Goals as goal

pub returns-in-Byte-eq10-clause-end : goal.returns-in-Byte-eq10-clause-end
returns-in-Byte-eq10-clause-end g c = (
  10 ∷ [],
  byte_taken _ _ _ _ _ _ _ c.in-Byte-eq10.is c.in-Byte-eq10.field-0-test c.take.ensures.left
      c.take.ensures.tape,
  feed_ends _ _,
)

pub returns-in-Byte-eq48-clause-refused : goal.returns-in-Byte-eq48-clause-refused
returns-in-Byte-eq48-clause-refused g c = (
  c.in-Byte-eq48.field-0 ∷ [],
  byte_taken _ _ _ _ _ _ _ c.in-Byte-eq48.is refl c.take.ensures.left c.take.ensures.tape,
  (refl, bit_for_feed c.in-Byte-eq48.field-0 _ (omega arith) (omega arith)),
)

pub returns-in-Byte-clause-refused : goal.returns-in-Byte-clause-refused
returns-in-Byte-clause-refused g c = (
  c.in-Byte.field-0 ∷ [],
  byte_taken _ _ _ _ _ _ _ c.in-Byte.is refl c.take.ensures.left c.take.ensures.tape,
  (
    refl,
    byte_for_feed c.in-Byte.field-0 _ (λ e. omega arith) (λ e. omega arith)
        (λ e. omega arith),
  ),
)

pub returns-in-Byte-2-clause-refused : goal.returns-in-Byte-2-clause-refused
returns-in-Byte-2-clause-refused g c = (
  c.in-Byte.field-0 ∷ [],
  byte_taken _ _ _ _ _ _ _ c.in-Byte.is refl c.take.ensures.left c.take.ensures.tape,
  (
    refl,
    byte_for_feed c.in-Byte.field-0 _ (λ e. omega arith) (λ e. omega arith)
        (λ e. omega arith),
  ),
)

pub returns-in-LineFeedOrInput-clause-end : goal.returns-in-LineFeedOrInput-clause-end
returns-in-LineFeedOrInput-clause-end g c =
    let went = end_taken _ _ _ _ _ c.in-End.is c.take.ensures.left c.take.ensures.tape in
    ([], went.0, end_ends _ _ (search rules) went.1)

pub returns-in-LineFeed-clause-refused : goal.returns-in-LineFeed-clause-refused
returns-in-LineFeed-clause-refused g c =
    let went = end_taken _ _ _ _ _ c.in-End.is c.take.ensures.left c.take.ensures.tape in
    ([], went.0, (refl, went.1, end_lacks _ (search rules)))

pub returns-in-Failed-clause-refused : goal.returns-in-Failed-clause-refused
returns-in-Failed-clause-refused g c =
    ([], none_taken _ _ _ _ _ c.in-Failed.is c.take.ensures.left c.take.ensures.tape, refl)
