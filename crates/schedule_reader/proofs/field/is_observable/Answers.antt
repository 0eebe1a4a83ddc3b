use Rattle.std.proofs.Common.{refl, sym, ◌∙◌}
use Rattle.schedule_reader.proofs.Pieces.{observable_is}
use Rattle.schedule_reader.proofs.field.is_observable.Goals as goal

pub returns-then-eq : goal.returns-then-eq
returns-then-eq c =
    let e = observable_is c.args.field.now c.cut.result.0.now c.cut.ensures.front in
    let n = sym c.is_name.ensures ∙ c.if-is_name.true in
    let q = sym c.eq.ensures ∙ c.if-eq.true in
    c.if-eq.true ∙ sym (e ∙ rw (n, q) refl)

pub returns-else-eq : goal.returns-else-eq
returns-else-eq c =
    let e = observable_is c.args.field.now c.cut.result.0.now c.cut.ensures.front in
    let n = sym c.is_name.ensures ∙ c.if-is_name.true in
    let q = sym c.eq.ensures ∙ c.if-eq.false in
    c.is_joined.ensures ∙ sym (e ∙ rw (n, q) refl)

pub returns-else-is_name : goal.returns-else-is_name
returns-else-is_name c =
    let e = observable_is c.args.field.now c.cut.result.0.now c.cut.ensures.front in
    let n = sym c.is_name.ensures ∙ c.if-is_name.false in
    c.if-is_name.false ∙ sym (e ∙ rw n refl)
