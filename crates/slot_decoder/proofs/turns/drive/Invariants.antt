use Rattle.slot_decoder.specs.Slots.{AreReleases, HasGoneOn, IsIdle}
use Rattle.slot_decoder.proofs.Driving.{room_left}
use Rattle.slot_decoder.proofs.turns.drive.Given as goal

-- so far no slot arrived, and nothing is decoded
abbrev pub invariant-loop-core : goal.invariant-loop-core
invariant-loop-core g l = record {
  gone : HasGoneOn (g.Q.Predictor.may_guess l.predictor) l.fn.core l.core;
  idle : IsIdle l.core;
  given : AreReleases l.core l.releases.items;
}

abbrev pub decreases-loop-core : goal.decreases-loop-core
decreases-loop-core g l = room_left l.core
