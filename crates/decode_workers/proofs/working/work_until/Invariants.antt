use Rattle.window_table.specs.Counts.{RisesBy}
use Rattle.decode_workers.proofs.working.work_until.Given as goal

-- what was taken was reported
abbrev pub invariant-loop : goal.invariant-loop
invariant-loop g l = RisesBy 0 l.fn.worker.share l.worker.share
