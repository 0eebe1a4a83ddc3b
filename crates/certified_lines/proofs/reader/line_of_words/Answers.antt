use Rattle.std.proofs.Common.{◌≡◌, false, bytes_eq, codes, rules}
use Rattle.log_reader.specs.Words.{words_behind}
use Rattle.certified_lines.proofs.Reading.{of_step}
use Rattle.certified_lines.proofs.reader.line_of_words.Goals as goal

pub step_in-requires : goal.step_in-requires
step_in-requires c =
    let line = c.args.line.now in
    let word = c.first_word.result.0.now in
    let first : bytes_eq c.args.line.now (codes "log 1 certified") ≡ false = search rules in
    let last : bytes_eq c.args.line.now (codes "end log") ≡ false = search rules in
    let whole : bytes_eq c.first_word.result.0.now (codes "whole") ≡ false = search rules in
    let vertex : bytes_eq c.first_word.result.0.now (codes "vertex") ≡ false = search rules in
    let set : bytes_eq c.first_word.result.0.now (codes "set") ≡ false = search rules in
    of_step line word (words_behind c.first_word.result.1.now) c.first_word.ensures.words first
    last whole vertex set
