use Rattle.log_reader.proofs.Bytes.{first_split}
use Rattle.log_reader.proofs.word.first_word.Goals as goal

pub returns-clause-words : goal.returns-clause-words
returns-clause-words c =
    (first_split c.place_of.result c.args.bytes.now c.split_at.result.0.now
    c.split_at.result.1.now c.place_of.ensures.place c.split_at.ensures.front
    c.split_at.ensures.back).0

pub returns-clause-tail : goal.returns-clause-tail
returns-clause-tail c =
    (first_split c.place_of.result c.args.bytes.now c.split_at.result.0.now
    c.split_at.result.1.now c.place_of.ensures.place c.split_at.ensures.front
    c.split_at.ensures.back).1
