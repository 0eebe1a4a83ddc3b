use Rattle.std.proofs.Common.{◌∙◌, bytes_eq, sym}
use Rattle.schedule_reader.specs.declared.line.LineKind.TheVariants.{Swiper}
use Rattle.schedule_reader.specs.Lines.{word_of}
use Rattle.schedule_reader.proofs.Named.{found_here, not_here}
use Rattle.schedule_reader.proofs.line.kind_among.Goals as goal

pub returns-then-begins_with : goal.returns-then-begins_with
returns-then-begins_with c = found_here (λ kind. bytes_eq c.args.word.now (word_of kind))
    c.args.kinds.now c.loop-kind.kind-index Swiper c.loop-kind-test.true c.loop-kind.invariant
    (sym c.begins_with.ensures ∙ c.if-begins_with.true)

pub loop-kind-preserved : goal.loop-kind-preserved
loop-kind-preserved c = not_here (λ kind. bytes_eq c.args.word.now (word_of kind))
    c.args.kinds.now c.loop-kind.kind-index Swiper c.loop-kind-test.true c.loop-kind.invariant
    (sym c.begins_with.ensures ∙ c.if-begins_with.false)
