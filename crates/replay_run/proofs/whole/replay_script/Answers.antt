use Rattle.std.proofs.Common.{◌≡◌, ◌≤◌, ◌++◌, [], None, length, map, sym, ap, subst, ◌∙◌, arith, append-nil}
use Rattle.std.specs.Prelude.{string_bytes}
use Rattle.std.proofs.lemmas.Result.{IfOk-weaker, err_from_is_err_and}
use Rattle.surface_model.specs.Schedules.{CondLine}
use Rattle.window_model.specs.Decoder.{Syndrome}
use Rattle.report_model.specs.Outcomes.{fault_line, output_of}
use Rattle.report_model.specs.Tasks.{syndrome_of}
use Rattle.core_state.specs.States.{CoreTable, IsState}
use Rattle.run_report.specs.Names.{printed_names}
use Rattle.run_report.specs.Reports.{FitsCore, steps_of}
use Rattle.script_run.specs.Plays.{stage_of}
use Rattle.replay_run.specs.Answers.{IsScriptTold, subject}
use Rattle.replay_run.specs.Replies.{fault_at}
use Rattle.replay_run.proofs.Replying.{answered_behind, are_measured, each_raw, rose_until, taken_task, told_script}
use Rattle.replay_run.proofs.whole.replay_script.Goals as goal

pub report-requires : goal.report-requires
report-requires g c =
    let s = c.args.reader.now.schedule in
    let old = c.args.player.now in
    let rows = c.requires.rows in
    let played = c.in_ok-end.ensures.played (syndrome_of s rows.0)
    (are_measured s old.core.task rows.0 old.rows c.requires.task rows.1) in
    let task = taken_task (stage_of (g.Q.Predictor.may_guess c.args.predictor.now)
    (syndrome_of s rows.0) old.labels old.core) c.line_behind.result played.0 _ old
    c.play.new.player c.in_ok-end.end played.2 in
    ap (λ o. length o) c.observables.ensures
    ∙ each_raw s old.core.task c.requires.task
    ∙ sym (ap (λ (k : CoreTable). length k.task.raw_slots) c.state-state.ensures
    ∙ ap (λ t. length t.raw_slots) task)

-- memory was wanting, when these bytes were taken
pub returns-in_err-end-clause-answered : goal.returns-in_err-end-clause-answered
returns-in_err-end-clause-answered g c rows folded =
    let p = err_from_is_err_and c.from_residual.result c.from_residual.ensures.1 in
    rw (p.1, p.2) c.play.ensures.took

pub returns-in_err-labels-clause-answered : goal.returns-in_err-labels-clause-answered
returns-in_err-labels-clause-answered g c rows folded =
    let p = err_from_is_err_and c.from_residual-in_err-labels.result
    c.from_residual-in_err-labels.ensures.1 in
    rw (p.1, p.2) c.play.ensures.took

pub returns-in_err-said-clause-answered : goal.returns-in_err-said-clause-answered
returns-in_err-said-clause-answered g c rows folded =
    let p = err_from_is_err_and c.from_residual-in_err-said.result
    c.from_residual-in_err-said.ensures.1 in
    rw (p.1, p.2) c.play.ensures.took

pub returns-clause-read_fault : goal.returns-clause-read_fault
returns-clause-read_fault g c =
    IfOk-weaker c.say.result _ _
    (λ e same is.
    rose_until (g.P.Port.read_faults c.args.port.now) (g.P.Port.read_faults c.play.new.port)
    (g.P.Port.read_faults c.say.new.port) (c.in_ok-end.ensures.fault (sym same ∙ is))
    c.say.ensures.counts.0)
    c.say.ensures.same

pub returns-clause-answered : goal.returns-clause-answered
returns-clause-answered g c rows folded =
    let s = c.args.reader.now.schedule in
    let may = g.Q.Predictor.may_guess c.args.predictor.now in
    let old = c.args.player.now in
    let mid = c.play.new.player in
    let end = c.in_ok-end.end in
    let state = c.state-state.result.now in
    let text = string_bytes c.in_ok-said.said in
    let reads = g.P.Port.read_faults c.args.port.now in
    let left = g.P.Port.left c.play.new.port in
    let left_now = g.P.Port.left c.say.new.port in
    let played = c.in_ok-end.ensures.played (syndrome_of s rows)
    (are_measured s old.core.task rows old.rows c.requires.task folded) in
    let labels_are = c.deref.ensures.value ∙ c.in_ok-labels.ensures
    ∙ ap (map (λ (k : CondLine). k.label)) c.conds.ensures in
    let names_are = ap printed_names c.observables.ensures ∙ c.named.ensures s in
    let told : (d : Syndrome) → FitsCore mid.core d →
    text ≡ mid.text ++ output_of mid.core.task d c.deref.result.now
    (printed_names c.observables.result.now) (steps_of mid.core) None None =
    subst (λ t. (d : Syndrome) → FitsCore mid.core d →
    text ≡ t ++ output_of mid.core.task d c.deref.result.now
    (printed_names c.observables.result.now) (steps_of mid.core) None None) c.text-printed.ensures
    (subst (λ (k : CoreTable). (d : Syndrome) → FitsCore k d →
    text ≡ c.text-printed.result.now ++ output_of k.task d c.deref.result.now
    (printed_names c.observables.result.now) (steps_of k) None None) c.state-state.ensures
    c.in_ok-said.ensures) in
    let same : reads ≤ reads = omega arith in
    answered_behind
    (λ bytes e said. (bytes ≡ []) × (e ≡ end) × (said ≡ text ++ fault_line (fault_at end)))
    (λ bytes e said. IsScriptTold (subject s old.core may) rows bytes left_now e said) played.0
    reads reads (g.P.Port.read_faults c.say.new.port) _ left left_now _ _ _ c.say.result same
    played.1
    (λ bytes e said is.
    let all : played.0 ++ bytes ≡ played.0 = ap (λ l. played.0 ++ l) is.0 ∙ append-nil played.0 in
    subst (λ l. IsScriptTold (subject s old.core may) rows (played.0 ++ bytes) l e said)
    (sym c.say.ensures.left)
    (subst (λ b. IsScriptTold (subject s old.core may) rows b left e said) (sym all)
    (subst (λ k. IsScriptTold (subject s old.core may) rows played.0 left k said) (sym is.1)
    (told_script c.brought.ensures s may rows old mid played.0 left end c.deref.result.now
    (printed_names c.observables.result.now) text said c.requires.unplayed c.requires.labels
    (subst IsState c.state-state.ensures c.is_state.ensures) labels_are names_are told is.2
    c.line_behind.result c.line_behind.ensures.value played.2))))
    (c.say.ensures.said reads (λ e. rose_until reads (g.P.Port.read_faults c.play.new.port)
    (g.P.Port.read_faults c.say.new.port) (c.in_ok-end.ensures.fault e) c.say.ensures.counts.0))
