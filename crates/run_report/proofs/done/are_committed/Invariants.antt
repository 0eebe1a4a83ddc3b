use Rattle.std.proofs.Common.{◌≡◌, is_some, true}
use Rattle.std.specs.List.{list_all, range_with_len}
use Rattle.run_report.specs.Reports.{decoder_in}
use Rattle.run_report.proofs.done.are_committed.Given as goal

abbrev pub invariant-loop-window : goal.invariant-loop-window
invariant-loop-window l =
    list_all (λ w. is_some ((decoder_in l.core).kept w)) (range_with_len 0 l.window) ≡ true
