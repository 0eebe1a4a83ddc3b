use Rattle.std.proofs.Common.{subst}
use Rattle.window_model.specs.Progress.{IsProgress}
use Rattle.slot_decoder.specs.Histories.{DecoderView}
use Rattle.slot_decoder.proofs.Resting.{is_progress}
use Rattle.slot_decoder.proofs.decoder.SlotDecoder.is_progress.Goals as goal

pub returns-clause-progress : goal.returns-clause-progress
returns-clause-progress c =
    subst (λ (d : DecoderView). IsProgress d.progress) c.self.view_is
    (is_progress c.self.inside.core c.is_core.ensures.state c.self.invariant.quiet
    c.self.invariant.in_range)
