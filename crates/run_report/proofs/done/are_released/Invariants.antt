use Rattle.std.proofs.Common.{◌≡◌, is_some, true}
use Rattle.std.specs.List.{list_all, range_with_len}
use Rattle.run_report.specs.Reports.{decoder_in}
use Rattle.run_report.proofs.done.are_released.Given as goal

abbrev pub invariant-loop-op : goal.invariant-loop-op
invariant-loop-op l =
    list_all (λ op. is_some ((decoder_in l.core).released op)) (range_with_len 0 l.op) ≡ true
