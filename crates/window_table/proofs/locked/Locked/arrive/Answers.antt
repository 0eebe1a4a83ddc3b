use Rattle.std.proofs.Common.{sym, subst, ap, ◌∙◌}
use Rattle.window_model.specs.Decoder.{MayArrive, Task}
use Rattle.window_model.specs.Speculation.{decoder_of}
use Rattle.core_state.specs.Arrivals.{FitsSlot}
use Rattle.core_state.specs.States.{CoreTable, machine_of}
use Rattle.window_table.proofs.locked.Locked.arrive.Goals as goal

pub take-requires : goal.take-requires
take-requires g c =
    let named = ap (λ (t : CoreTable). t.task) (sym c.core.ensures.seen) ∙ c.core.ensures.named in
    let fits = subst (λ (t : Task). FitsSlot t c.args.folded.now) (sym named) c.requires in
    let may = subst (λ (t : CoreTable). MayArrive t.task (decoder_of t.task (machine_of t))
    c.args.folded.now.slot) c.core.ensures.seen
    (c.may_arrive.ensures.yes c.if-not-may_arrive.false) in
    (may, fits.values, fits.raws)
