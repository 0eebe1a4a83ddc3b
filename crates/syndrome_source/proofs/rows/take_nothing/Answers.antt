use Rattle.std.proofs.Common.{[], ◌∷◌, refl}
use Rattle.port_io.proofs.Takings.{byte_taken, end_taken, none_taken}
use Rattle.syndrome_source.proofs.rows.take_nothing.Goals as goal

pub returns-in-Byte-clause-refused : goal.returns-in-Byte-clause-refused
returns-in-Byte-clause-refused g c = (
  c.in-Byte.field-0 ∷ [],
  byte_taken _ _ _ _ _ _ _ c.in-Byte.is refl c.take.ensures.left c.take.ensures.tape,
  (refl, λ rest. refl),
)

pub returns-in-End-clause-end : goal.returns-in-End-clause-end
returns-in-End-clause-end g c =
    end_taken _ _ _ _ _ c.in-End.is c.take.ensures.left c.take.ensures.tape

pub returns-in-Failed-clause-refused : goal.returns-in-Failed-clause-refused
returns-in-Failed-clause-refused g c =
    ([], none_taken _ _ _ _ _ c.in-Failed.is c.take.ensures.left c.take.ensures.tape, refl)
