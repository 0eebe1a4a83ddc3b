use Rattle.std.proofs.Common.{refl, ap, sym, ◌∙◌, bytes_eq}
use Rattle.schedule_reader.proofs.Pieces.{joined}
use Rattle.schedule_reader.proofs.field.is_joined.Goals as goal

pub returns-in-Some : goal.returns-in-Some
returns-in-Some c =
    let e = joined c.args.field.now c.args.front.now c.args.back.now in
    let h = c.in-Some.ensures.cases in
    c.eq.ensures ∙ ap (λ t. bytes_eq t c.args.back.now) h.1 ∙ sym (e ∙ rw h.0 refl)

pub returns-in-None : goal.returns-in-None
returns-in-None c =
    let e = joined c.args.field.now c.args.front.now c.args.back.now in
    let h = c.in-None.ensures.cases in
    sym (e ∙ rw h refl)
