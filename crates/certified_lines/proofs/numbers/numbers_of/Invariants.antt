use Rattle.std.proofs.Common.{◌≡◌, ◌++◌, All, length, map, true}
use Rattle.std.specs.Fmt.{signed_decimal}
use Rattle.log_reader.specs.Words.{is_tail, words_behind}
use Rattle.certified_lines.specs.Certified.{IsNumber}
use Rattle.certified_lines.proofs.numbers.numbers_of.Given as goal

-- the words so far are those of the numbers so far
abbrev pub invariant-loop-rest : goal.invariant-loop-rest
invariant-loop-rest l = record {
  words : words_behind l.fn.tail ≡ map signed_decimal l.numbers.items ++ words_behind l.left;
  each : All IsNumber l.numbers.items;
  tail : is_tail l.left ≡ true;
}

abbrev pub decreases-loop-rest : goal.decreases-loop-rest
decreases-loop-rest l = length l.left
