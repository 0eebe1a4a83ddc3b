use Rattle.std.proofs.Common.{subst}
use Rattle.slot_decoder.specs.Histories.{IsHistoryOf}
use Rattle.slot_decoder.proofs.Happened.{happened}
use Rattle.slot_decoder.proofs.decoder.SlotDecoder.is_history.Goals as goal

pub returns : goal.returns
returns c =
    subst IsHistoryOf c.self.view_is
    (happened c.self.inside.core c.is_core.ensures c.self.invariant.answered)
