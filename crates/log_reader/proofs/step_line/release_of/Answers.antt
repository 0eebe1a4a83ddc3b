use Rattle.log_reader.proofs.Bytes.{more_words}
use Rattle.log_reader.proofs.Read.{no_last_bit}
use Rattle.log_reader.proofs.step_line.release_of.Goals as goal

pub returns-in_default-bit_of : goal.returns-in_default-bit_of
returns-in_default-bit_of c =
    let label = c.first_word.result.0.now in
    let tail = c.first_word.result.1.now in
    no_last_bit c.args.rest.now label tail c.in-Some.last.now c.first_word.ensures.words
    (more_words tail c.in-Some.last.now c.in-Some.ensures.cases.0 c.in-Some.ensures.cases.1)
    c.in_default-bit_of.ensures.none
