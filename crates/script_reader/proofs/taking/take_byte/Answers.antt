use Rattle.std.proofs.Common.{◌≡◌, [], ◌∷◌, refl, arith}
use Rattle.std.proofs.lemmas.Bool.{ne_eqb}
use Rattle.port_io.proofs.Takings.{byte_taken, end_taken, none_taken}
use Rattle.script_reader.proofs.Due.{other_byte}
use Rattle.script_reader.proofs.taking.take_byte.Goals as goal

pub returns-then-byte-due-clause-due : goal.returns-then-byte-due-clause-due
returns-then-byte-due-clause-due g c =
    let same : c.in-Byte.byte ≡ c.args.due = omega arith in
    byte_taken _ _ _ _ _ _ _ c.in-Byte.is same c.take.ensures.left c.take.ensures.tape

pub returns-else-byte-due-clause-refused : goal.returns-else-byte-due-clause-refused
returns-else-byte-due-clause-refused g c = (
  c.in-Byte.byte ∷ [],
  byte_taken _ _ _ _ _ _ _ c.in-Byte.is refl c.take.ensures.left c.take.ensures.tape,
  λ more. (
    refl,
    record {
      front = [];
      byte = c.in-Byte.byte;
      bytes_are = refl;
      sound = refl;
      unfit = λ rest. other_byte c.args.due c.in-Byte.byte more rest
          (ne_eqb c.in-Byte.byte c.args.due (λ e. omega arith));
    },
  ),
)

pub returns-in-End-clause-refused : goal.returns-in-End-clause-refused
returns-in-End-clause-refused g c =
    let went = end_taken _ _ _ _ _ c.in-End.is c.take.ensures.left c.take.ensures.tape in
    ([], went.0, λ more. (refl, went.1, refl))

pub returns-in-Failed-clause-refused : goal.returns-in-Failed-clause-refused
returns-in-Failed-clause-refused g c = (
  [],
  none_taken _ _ _ _ _ c.in-Failed.is c.take.ensures.left c.take.ensures.tape,
  λ more. refl,
)
