use Rattle.std.proofs.Common.{◌++◌, ◌∷◌, [], map, ap, ◌∙◌, SFits, w64, to_z-of_z, rules}
use Rattle.std.specs.Fmt.{signed_decimal}
use Rattle.log_reader.specs.Words.{words_behind}
use Rattle.log_reader.proofs.Bytes.{more_words}
use Rattle.certified_lines.proofs.Reading.{no_number, one_more}
use Rattle.certified_lines.proofs.numbers.numbers_of.Goals as goal

pub returns-in_default-number_of : goal.returns-in_default-number_of
returns-in_default-number_of c =
    let front = c.loop-rest.numbers.items in
    let word = c.first_word.result.0.now in
    let behind = c.first_word.result.1.now in
    let next = more_words c.loop-rest.left.now c.in-Some.rest.now c.in-Some.ensures.cases.0
    c.in-Some.ensures.cases.1 in
    no_number front word (words_behind behind) (words_behind c.args.tail.now)
    (c.loop-rest.invariant.words
    ∙ ap (λ ws. map signed_decimal front ++ ws) (next ∙ c.first_word.ensures.words))
    c.in_default-number_of.ensures.none

pub loop-rest-preserved : goal.loop-rest-preserved
loop-rest-preserved c =
    let next = more_words c.loop-rest.left.now c.in-Some.rest.now c.in-Some.ensures.cases.0
    c.in-Some.ensures.cases.1 in
    let fits : SFits w64 c.in-Some-number_of.number = search rules in
    let same = to_z-of_z fits in
    let more = one_more c.loop-rest.numbers.items c.push.new.self.items
    c.in-Some-number_of.number
    c.first_word.result.0.now (words_behind c.first_word.result.1.now)
    (words_behind c.loop-rest.left.now) (words_behind c.args.tail.now)
    (c.in_ok-push.ensures.items ∙ ap (λ z. c.loop-rest.numbers.items ++ z ∷ []) same)
    c.in-Some-number_of.ensures.some
    c.in-Some-number_of.ensures.short
    c.loop-rest.invariant.each c.loop-rest.invariant.words (next ∙ c.first_word.ensures.words) in
    record { words = more.0; each = more.1; tail = c.first_word.ensures.tail }
