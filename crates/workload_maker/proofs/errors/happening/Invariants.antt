use Rattle.std.proofs.Common.{◌≡◌, ◌++◌, drop}
use Rattle.error_map.specs.Seen.{mechanisms_of}
use Rattle.workload_maker.specs.Draws.{generator_of, happening}
use Rattle.workload_maker.proofs.errors.happening.Given as goal

abbrev pub invariant-loop-error : goal.invariant-loop-error
invariant-loop-error l =
    happening (generator_of l.seed) (mechanisms_of l.listed)
    ≡ mechanisms_of l.errors.items
    ++ happening l.generator (mechanisms_of (drop l.error-index l.listed))
