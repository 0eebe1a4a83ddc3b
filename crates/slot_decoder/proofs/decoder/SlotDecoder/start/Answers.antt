use Rattle.slot_decoder.proofs.Resting.{at_rest_yet}
use Rattle.slot_decoder.proofs.decoder.SlotDecoder.start.Goals as goal

pub invariant_of-result : goal.invariant_of-result
invariant_of-result c =
    at_rest_yet c.in_ok-core.core c.is_core.ensures.state c.in_ok-core.ensures.journal
    c.in_ok-releases.releases.items c.in_ok-releases.ensures.items
