use Rattle.std.proofs.Common.{◌∙◌, sym, ap, length}
use Rattle.std.proofs.lemmas.Result.{on_ok_weaker}
use Rattle.slot_decoder.specs.Histories.{DecoderView}
use Rattle.swiper_run.proofs.Reporting.{core_says, core_seen}
use Rattle.swiper_run.proofs.report.write_decoded.Goals as goal

pub write_after_log-requires : goal.write_after_log-requires
write_after_log-requires c =
    c.requires ∙ ap (λ (d : DecoderView). length d.progress.task.raw_slots)
    (sym (core_seen _ _ _ c.core-core.ensures.seen c.state.ensures))

pub returns : goal.returns
returns c =
    on_ok_weaker c.write_after_log.result
    (core_says c.args.decoder.now _ _ _ _ c.args.trace _ _ _ c.core-core.ensures.seen
    c.state.ensures (c.trace_where.ensures c.state.result.now) c.core-core.ensures.agrees)
    c.write_after_log.ensures
