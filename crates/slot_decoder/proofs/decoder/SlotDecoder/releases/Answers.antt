use Rattle.std.proofs.Common.{◌∙◌, sym, subst, All}
use Rattle.slot_decoder.specs.Histories.{DecoderView}
use Rattle.slot_decoder.proofs.Resting.{IsOperationOf, operations}
use Rattle.slot_decoder.proofs.decoder.SlotDecoder.releases.Goals as goal

pub returns-clause-in_range : goal.returns-clause-in_range
returns-clause-in_range c =
    let core = c.self.inside.core in
    subst (λ (d : DecoderView). All (IsOperationOf d.progress.task) c.deref.result.now)
    c.self.view_is
    (subst (All (IsOperationOf core.task))
    (sym (c.deref.ensures.value ∙ c.self.invariant.releases_are))
    (operations core c.is_core.ensures.state))
