use Rattle.slot_decoder.proofs.Covered.{is_complete}
use Rattle.slot_decoder.proofs.decoder.SlotDecoder.is_complete.Goals as goal

pub returns : goal.returns
returns c = is_complete c.args.self.now.progress c.is_progress.ensures.setting
    c.is_progress.ensures.progress
