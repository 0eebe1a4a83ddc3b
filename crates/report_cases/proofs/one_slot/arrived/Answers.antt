use Rattle.std.proofs.Common.{◌∙◌, ap, length}
use Rattle.window_model.specs.Decoder.{Task}
use Rattle.report_cases.proofs.OneSlot.{has_arrived, may_arrive, one_entry}
use Rattle.report_cases.proofs.one_slot.arrived.Goals as goal

pub arrive-requires : goal.arrive-requires
arrive-requires c =
    let core = c.in_ok-core.ensures in
    let slot = c.in_ok-slot.ensures in
    may_arrive c.in_ok-core.core core.journal core.tags core.ops core.raws _ _ _ slot.slot
    slot.defects slot.raws

pub returns-clause-journal : goal.returns-clause-journal
returns-clause-journal c =
    one_entry _ _ _ _ c.arrive.ensures c.in_ok-core.ensures.journal

pub returns-clause-raws : goal.returns-clause-raws
returns-clause-raws c =
    ap (λ (t : Task). length t.raw_slots) c.arrive.ensures.task
    ∙ ap length c.in_ok-core.ensures.raws

pub returns-clause-arrived : goal.returns-clause-arrived
returns-clause-arrived c =
    has_arrived _ _ _ _ _ _ c.arrive.ensures c.in_ok-core.ensures.journal
    c.in_ok-core.ensures.last
