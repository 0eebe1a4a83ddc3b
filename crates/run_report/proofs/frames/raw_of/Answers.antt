use Rattle.std.proofs.Common.{◌∙◌, ap, slice_index_or, false}
use Rattle.run_report.proofs.Cores.{raw_is}
use Rattle.run_report.proofs.frames.raw_of.Goals as goal

pub returns : goal.returns
returns c s fits =
    c.get.ensures ∙ ap (λ bits. slice_index_or bits c.args.observable false) c.raws.ensures
    ∙ raw_is c.args.core.now c.is_state.ensures s fits c.args.observable c.requires.in_range
    c.requires.arrived
