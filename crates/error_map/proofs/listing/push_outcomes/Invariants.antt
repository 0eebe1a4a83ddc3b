use Rattle.std.proofs.Common.{◌≡◌, ◌++◌, take}
use Rattle.surface_model.specs.Errors.{OutcomeError, of_class}
use Rattle.error_map.specs.Lines.{outcome_places}
use Rattle.error_map.specs.Seen.{mechanisms_of}
use Rattle.error_map.proofs.listing.push_outcomes.Given as goal

abbrev pub invariant-loop-bit : goal.invariant-loop-bit
invariant-loop-bit l =
    mechanisms_of l.list.items ≡ mechanisms_of l.initial.list.items ++ of_class l.slot OutcomeError
    (outcome_places (take l.bit-index l.bits))
