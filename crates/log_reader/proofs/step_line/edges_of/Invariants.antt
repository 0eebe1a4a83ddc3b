use Rattle.std.proofs.Common.{◌≡◌, ◌++◌, All, decimal, length, map, true}
use Rattle.report_model.specs.Logs.{IsLogNumber}
use Rattle.log_reader.specs.Words.{is_tail, words_behind}
use Rattle.log_reader.proofs.step_line.edges_of.Given as goal

-- the words so far are those of the edges so far
abbrev pub invariant-loop-rest : goal.invariant-loop-rest
invariant-loop-rest l = record {
  words : words_behind l.fn.tail ≡ map decimal l.edges ++ words_behind l.left;
  each : All IsLogNumber l.edges;
  tail : is_tail l.left ≡ true;
}

abbrev pub decreases-loop-rest : goal.decreases-loop-rest
decreases-loop-rest l = length l.left
