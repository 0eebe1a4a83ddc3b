use Rattle.syndrome_source.proofs.Fields.{with_word, without_word}
use Rattle.syndrome_source.proofs.text.is_rounds_alone.Goals as goal

pub returns-in-Some : goal.returns-in-Some
returns-in-Some c =
    with_word c.args.line.now c.without_spaces.result.now c.in-Some.rest.now _
    c.without_spaces.ensures.fields c.without_spaces.ensures.first c.in-Some.ensures.cases
    c.is_blank.ensures

pub returns-in-None : goal.returns-in-None
returns-in-None c =
    without_word c.args.line.now c.without_spaces.result.now c.without_spaces.ensures.fields
    c.without_spaces.ensures.first c.in-None.ensures.cases
