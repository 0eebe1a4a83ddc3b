use Rattle.std.proofs.Common.{sym, ◌∙◌, refl}
use Rattle.schedule_reader.proofs.Pieces.{field_step}
use Rattle.schedule_reader.proofs.line.fields_of.Goals as goal

pub loop-rest-preserved-in_ok-push : goal.loop-rest-preserved-in_ok-push
loop-rest-preserved-in_ok-push c =
    field_step (λ f. f.now) c.args.line.now c.loop-rest.rest.now
    c.cut.result.0.now c.cut.result.1.now c.loop-rest.fields.items c.push.new.self.items
    c.cut.result.0 c.cut.ensures.front c.cut.ensures.back c.loop-rest.invariant (sym
    c.is_empty-in-loop-rest.ensures ∙ c.if-not-is_empty.true) c.in_ok-push.ensures.items refl
