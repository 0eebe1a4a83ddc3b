use Rattle.std.proofs.Common.{◌≡◌, map, take}
use Rattle.run_header.specs.Timings.{timed_of}
use Rattle.run_header.proofs.timing.operations.Given as goal

-- the conditions so far
abbrev pub invariant-loop-cond : goal.invariant-loop-cond
invariant-loop-cond l = l.ops.items ≡ map (timed_of l.raws) (take l.cond-index l.conds)
