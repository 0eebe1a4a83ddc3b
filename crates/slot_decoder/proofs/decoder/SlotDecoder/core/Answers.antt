use Rattle.std.proofs.Common.{sym, subst}
use Rattle.window_model.specs.Progress.{Fits}
use Rattle.slot_decoder.specs.Histories.{DecoderView}
use Rattle.slot_decoder.proofs.Resting.{agrees_with}
use Rattle.slot_decoder.proofs.decoder.SlotDecoder.core.Goals as goal

pub returns-clause-agrees : goal.returns-clause-agrees
returns-clause-agrees c s fits =
    agrees_with c.self.inside.core c.is_core.ensures.state s
    (subst (λ (d : DecoderView). Fits s d.progress) (sym c.self.view_is) fits)
