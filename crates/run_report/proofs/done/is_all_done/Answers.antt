use Rattle.std.proofs.Common.{◌+◌, ◌&&◌, ◌==◌, Bool, is_some, length, sym, ap, ◌∙◌}
use Rattle.std.specs.List.{list_all, range_with_len}
use Rattle.window_model.specs.Windows.{window_count}
use Rattle.report_model.specs.Outcomes.{is_all_done}
use Rattle.core_state.specs.States.{CoreTable, machine_of}
use Rattle.run_report.specs.Reports.{decoder_in}
use Rattle.run_report.proofs.Cores.{decoder_is}
use Rattle.run_report.proofs.done.is_all_done.Goals as goal

abbrev arrived : CoreTable → Bool
arrived c = (machine_of c).arrived == c.task.last_slot + 1

abbrev committed : CoreTable → Bool
committed c = list_all (λ w. is_some ((decoder_in c).kept w))
    (range_with_len 0 (window_count c.task.plan))

abbrev released : CoreTable → Bool
released c = list_all (λ op. is_some ((decoder_in c).released op))
    (range_with_len 0 (length c.task.operations))

pub returns-then-not-have_arrived-clause-value : goal.returns-then-not-have_arrived-clause-value
returns-then-not-have_arrived-clause-value c =
    let core = c.args.core.now in
    sym (ap (is_all_done core.task) (decoder_is core c.is_state.ensures)
    ∙ ap (λ a. (a && committed core) && released core)
    (sym c.have_arrived.ensures ∙ c.if-not-have_arrived.true))

pub returns-then-not-are_committed-clause-value : goal.returns-then-not-are_committed-clause-value
returns-then-not-are_committed-clause-value c =
    let core = c.args.core.now in
    sym (ap (is_all_done core.task) (decoder_is core c.is_state.ensures)
    ∙ ap (λ a. (a && committed core) && released core)
    (sym c.have_arrived.ensures ∙ c.if-not-have_arrived.false)
    ∙ ap (λ b. b && released core) (sym c.are_committed.ensures ∙ c.if-not-are_committed.true))

pub returns-clause-value : goal.returns-clause-value
returns-clause-value c =
    let core = c.args.core.now in
    c.are_released.ensures
    ∙ sym (ap (is_all_done core.task) (decoder_is core c.is_state.ensures)
    ∙ ap (λ a. (a && committed core) && released core)
    (sym c.have_arrived.ensures ∙ c.if-not-have_arrived.false)
    ∙ ap (λ b. b && released core) (sym c.are_committed.ensures ∙ c.if-not-are_committed.false))
