use Rattle.std.proofs.Common.{sym, subst}
use Rattle.window_model.specs.Decoder.{Task}
use Rattle.window_table.specs.Readings.{MayBring}
use Rattle.window_table.proofs.reader.Reader.may_bring.Goals as goal

pub returns-then-not-is_next-clause-no : goal.returns-then-not-is_next-clause-no
returns-then-not-is_next-clause-no g c _ may =
    let here = subst (λ (t : Task). MayBring t c.args.self.now c.args.slot) (sym c.requires) may in
    c.is_next.ensures.no c.if-not-is_next.true (here.next, here.in_range)

pub returns-clause-yes : goal.returns-clause-yes
returns-clause-yes g c yes_ =
    subst (λ (t : Task). MayBring t c.args.self.now c.args.slot) c.requires (record {
      next = c.is_next.ensures.next c.if-not-is_next.false;
      in_range = c.is_next.ensures.in_range c.if-not-is_next.false;
      told = c.are_told.ensures.yes yes_;
    })

pub returns-clause-no : goal.returns-clause-no
returns-clause-no g c no_ may =
    let here = subst (λ (t : Task). MayBring t c.args.self.now c.args.slot) (sym c.requires) may in
    c.are_told.ensures.no no_ here.told
