use Rattle.std.proofs.Common.{◌∙◌, arith}
use Rattle.std.specs.Prelude.{pos, ◌≤ℤ◌}
use Rattle.std.proofs.lemmas.Int.{ints}
use Rattle.log_reader.specs.Words.{words_behind}
use Rattle.log_reader.proofs.Bytes.{more_words}
use Rattle.certified_lines.proofs.Reading.{not_positive}
use Rattle.certified_lines.proofs.reader.set_of.Goals as goal

pub returns-then-number-le0 : goal.returns-then-number-le0
returns-then-number-le0 c =
    let word = c.first_word.result.0.now in
    let behind = c.first_word.result.1.now in
    let low : c.in-Some-number_of.number ≤ℤ pos 0 = omega (arith, ints, c.if-number-le0.true) in
    not_positive (words_behind c.args.tail.now) word (words_behind behind)
    c.in-Some-number_of.number
    (more_words c.args.tail.now c.in-Some.rest.now c.in-Some.ensures.cases.0
    c.in-Some.ensures.cases.1 ∙ c.first_word.ensures.words)
    c.in-Some-number_of.ensures.some c.in-Some-number_of.ensures.short low
