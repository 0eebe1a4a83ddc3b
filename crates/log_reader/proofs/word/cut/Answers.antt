use Rattle.std.proofs.Common.{length, sym, ◌∙◌, eqb-true}
use Rattle.log_reader.proofs.Bytes.{cut_is, lacks_is, split_one}
use Rattle.log_reader.proofs.word.cut.Goals as goal

pub returns-then-is_empty-clause-none : goal.returns-then-is_empty-clause-none
returns-then-is_empty-clause-none c =
    lacks_is c.args.value c.place_of.result c.args.bytes.now c.split_at.result.1.now
    c.place_of.ensures.place c.split_at.ensures.back
    (eqb-true (length c.split_at.result.1.now) 0 (sym c.is_empty.ensures ∙ c.if-is_empty.true))

pub returns-else-is_empty-clause-some : goal.returns-else-is_empty-clause-some
returns-else-is_empty-clause-some c =
    let s = split_one c.split_at.result.1.now c.behind_first.result.now
    (sym c.is_empty.ensures ∙ c.if-is_empty.false) c.behind_first.ensures in
    cut_is c.args.value c.place_of.result c.args.bytes.now c.split_at.result.0.now
    c.split_at.result.1.now s.0 c.behind_first.result.now c.place_of.ensures.place
    c.split_at.ensures.front c.split_at.ensures.back s.1
