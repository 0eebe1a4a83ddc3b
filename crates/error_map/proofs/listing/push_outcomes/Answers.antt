use Rattle.surface_model.specs.Errors.{OutcomeError}
use Rattle.error_map.specs.Lines.{outcome_place}
use Rattle.error_map.specs.Seen.{mechanisms_of}
use Rattle.error_map.proofs.Loops.{listed_turn}
use Rattle.error_map.proofs.listing.push_outcomes.Goals as goal

pub loop-bit-preserved : goal.loop-bit-preserved
loop-bit-preserved c =
    listed_turn outcome_place c.args.slot OutcomeError (mechanisms_of c.args.list.now.items)
    c.args.bits.now c.loop-bit.bit-index c.bit-item.result c.loop-bit-test.true c.bit-item.is
    (mechanisms_of c.loop-bit.list.items) (mechanisms_of c.push_outcome.new.list.items)
    c.loop-bit.invariant c.in_ok-push_outcome.ensures
