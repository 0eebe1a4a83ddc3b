use Rattle.std.proofs.Common.{subst}
use Rattle.surface_model.specs.Accepted.{IsAccepted}
use Rattle.slot_bits.proofs.bit_places.BitPlaces.is_accepted.Goals as goal

pub returns : goal.returns
returns c = subst IsAccepted c.self.view_is c.self.invariant.accepted
