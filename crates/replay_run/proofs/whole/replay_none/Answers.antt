use Rattle.std.proofs.Common.{◌≡◌, ◌++◌, [], Err, length, map, sym, ap, subst, ◌∙◌, rules}
use Rattle.std.specs.Prelude.{string_bytes}
use Rattle.std.proofs.lemmas.Result.{err_from_is_err_and}
use Rattle.port_io.proofs.Traffic.{goes_nothing}
use Rattle.surface_model.specs.Schedules.{CondLine}
use Rattle.report_model.specs.Outcomes.{fault_line}
use Rattle.core_state.specs.States.{CoreTable}
use Rattle.run_report.specs.Names.{printed_names}
use Rattle.replay_run.specs.Answers.{IsNothingTold}
use Rattle.replay_run.specs.Readings.{end_of_rows}
use Rattle.replay_run.specs.Replies.{fault_at}
use Rattle.replay_run.proofs.Replying.{answered_as, each_raw, nothing_told, rows_read}
use Rattle.replay_run.proofs.whole.replay_none.Goals as goal

pub report-requires : goal.report-requires
report-requires g c =
    ap (λ o. length o) c.observables.ensures
    ∙ each_raw c.args.reader.now.schedule c.args.core.now.task c.requires.task
    ∙ sym (ap (λ (k : CoreTable). length k.task.raw_slots) c.state-state.ensures)

pub returns-in_err-end-clause-answered : goal.returns-in_err-end-clause-answered
returns-in_err-end-clause-answered g c other reads cause =
    absurd (other c.in_err-end.ensures.memory.1)

pub returns-in_err-end-clause-memory : goal.returns-in_err-end-clause-memory
returns-in_err-end-clause-memory g c is =
    let same : c.from_residual.result ≡ Err c.in_err-end.field-0.0 = search rules in
    (same ∙ ap (λ e. Err e) c.in_err-end.ensures.memory.0, goes_nothing _ _)

pub returns-in_err-labels-clause-answered : goal.returns-in_err-labels-clause-answered
returns-in_err-labels-clause-answered g c other reads cause =
    let p = err_from_is_err_and c.from_residual-in_err-labels.result
    c.from_residual-in_err-labels.ensures.1 in
    rw (p.1, p.2) ([], goes_nothing _ _)

pub returns-in_err-labels-clause-memory : goal.returns-in_err-labels-clause-memory
returns-in_err-labels-clause-memory g c is = absurd (c.in_ok-end.ensures.other is)

pub returns-in_err-said-clause-answered : goal.returns-in_err-said-clause-answered
returns-in_err-said-clause-answered g c other reads cause =
    let p = err_from_is_err_and c.from_residual-in_err-said.result
    c.from_residual-in_err-said.ensures.1 in
    rw (p.1, p.2) ([], goes_nothing _ _)

pub returns-in_err-said-clause-memory : goal.returns-in_err-said-clause-memory
returns-in_err-said-clause-memory g c is = absurd (c.in_ok-end.ensures.other is)

pub returns-clause-memory : goal.returns-clause-memory
returns-clause-memory g c is = absurd (c.in_ok-end.ensures.other is)

pub returns-clause-answered : goal.returns-clause-answered
returns-clause-answered g c other reads cause =
    let s = c.args.reader.now.schedule in
    let end = c.in_ok-end.end in
    let end_is = c.in_ok-end.ensures.end in
    let state = c.state-state.result.now in
    let text = string_bytes c.in_ok-said.said in
    let labels_are = c.deref.ensures.value ∙ c.in_ok-labels.ensures
    ∙ ap (map (λ (k : CondLine). k.label)) c.conds.ensures in
    let names_are = ap printed_names c.observables.ensures ∙ c.named.ensures s in
    answered_as
    (λ bytes e said. (bytes ≡ []) × (e ≡ end) × (said ≡ text ++ fault_line (fault_at end)))
    (λ bytes e said. (bytes ≡ []) × (e ≡ end_of_rows c.args.error)
    × IsNothingTold s c.args.core.now.task e said) reads (g.P.Port.read_faults c.say.new.port) _ _
    _ _ c.say.result
    (λ bytes e said told. (
      told.0,
      told.1 ∙ end_is,
      subst (λ k. IsNothingTold s c.args.core.now.task k said) (sym told.1)
          (subst (λ (k : CoreTable). IsNothingTold s k.task end said) c.state-state.ensures
          (nothing_told c.brought.ensures s state end c.deref.result.now
          (printed_names c.observables.result.now) text said c.is_state.ensures
          (ap (λ (k : CoreTable). k.journal) c.state-state.ensures ∙ c.requires.begun) labels_are
          names_are c.in_ok-said.ensures told.2)),
    )) (c.say.ensures.said reads (λ e. cause (rows_read c.args.error (sym end_is ∙ e))))
