use Rattle.std.proofs.Common.{All, arith, rules, subst, SFits, w64, to_z-of_z, slice_index_or}
use Rattle.std.specs.Prelude.{pos}
use Rattle.std.proofs.lemmas.List.{take_all}
use Rattle.certified_lines.specs.Certified.{IsNumber}
use Rattle.certified_log.proofs.Answered.{all_more}
use Rattle.certified_log.proofs.short.are_numbers.Goals as goal

pub loop-number-preserved : goal.loop-number-preserved
loop-number-preserved c =
    let fits : SFits w64 (slice_index_or c.args.numbers.now c.loop-number.number-index (pos 0)) =
    search rules in
    all_more IsNumber c.args.numbers.now c.loop-number.number-index (pos 0) (omega arith)
    c.loop-number.invariant
    (subst IsNumber (to_z-of_z fits) (c.is_number.ensures c.if-not-is_number.false))

pub returns : goal.returns
returns c = λ e. subst (All IsNumber) (take_all c.loop-number.number-index c.args.numbers.now
    (omega arith)) c.loop-number.invariant
