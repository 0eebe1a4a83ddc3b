use Rattle.std.proofs.Common.{Err, map, sym, ap, subst, ◌∙◌}
use Rattle.std.proofs.lemmas.Result.{IfOk-weaker, err_from_is_err_and}
use Rattle.surface_model.specs.Schedules.{CondLine}
use Rattle.report_model.specs.Tasks.{HasTask, syndrome_of}
use Rattle.core_journal.specs.Entries.{history_of}
use Rattle.script_run.specs.Plays.{AreMeasured, Playing}
use Rattle.replay_run.specs.Readings.{AreFolded}
use Rattle.replay_run.proofs.Replying.{are_measured, replied_all, replied_unfed, rose_since, rose_until}
use Rattle.replay_run.proofs.whole.replay.Goals as goal

pub new-player-requires : goal.new-player-requires
new-player-requires g c =
    let s = c.args.reader.now.schedule in
    let read = c.in-Ok.ensures.read in (
      syndrome_of s read.1,
      subst (AreMeasured c.args.core.task (syndrome_of s read.1)) (sym c.deref.ensures.value)
          (are_measured s c.args.core.task read.1 c.in-Ok.rows.items c.requires.task read.4),
    )

pub replay_script-requires-clause-task : goal.replay_script-requires-clause-task
replay_script-requires-clause-task g c =
    subst (λ (p : Playing). HasTask c.read_rows.new.reader.schedule p.core.task)
    (sym c.new-player.ensures)
    (subst (λ s. HasTask s c.args.core.task) (sym c.read_rows.ensures.schedule) c.requires.task)

pub replay_script-requires-clause-rows : goal.replay_script-requires-clause-rows
replay_script-requires-clause-rows g c =
    let read = c.in-Ok.ensures.read in (
      read.1,
      subst (λ (p : Playing). AreFolded c.read_rows.new.reader.schedule read.1 p.rows)
          (sym c.new-player.ensures)
          (subst (λ l. AreFolded c.read_rows.new.reader.schedule read.1 l)
          (sym c.deref.ensures.value)
          (subst (λ s. AreFolded s read.1 c.in-Ok.rows.items) (sym c.read_rows.ensures.schedule)
          read.4)),
    )

pub replay_script-requires-clause-unplayed : goal.replay_script-requires-clause-unplayed
replay_script-requires-clause-unplayed g c = record {
  events = ap (λ (p : Playing). history_of p.core.task p.core.kept p.core.journal)
      c.new-player.ensures
      ∙ ap (λ j. history_of c.args.core.task c.args.core.kept j) c.requires.begun;
  text = ap (λ (p : Playing). p.text) c.new-player.ensures;
}

pub replay_script-requires-clause-labels : goal.replay_script-requires-clause-labels
replay_script-requires-clause-labels g c =
    ap (λ (p : Playing). p.labels) c.new-player.ensures ∙ c.deref-in-Ok.ensures.value
    ∙ c.in_ok-labels-in-Ok.ensures ∙ ap (map (λ (k : CondLine). k.label)) c.conds.ensures

pub replay_none-requires-clause-task : goal.replay_none-requires-clause-task
replay_none-requires-clause-task g c =
    subst (λ s. HasTask s c.args.core.task) (sym c.read_rows.ensures.schedule) c.requires.task

pub returns-in_err-labels-in-Ok-clause-answered : goal.returns-in_err-labels-in-Ok-clause-answered
returns-in_err-labels-in-Ok-clause-answered g c =
    let p = err_from_is_err_and c.from_residual.result c.from_residual.ensures.1 in
    let read = c.in-Ok.ensures.read in rw (p.1, p.2) (read.0, read.2)

pub returns-in_ok-labels-in-Ok-clause-answered : goal.returns-in_ok-labels-in-Ok-clause-answered
returns-in_ok-labels-in-Ok-clause-answered g c =
    let read = c.in-Ok.ensures.read in
    replied_all c.args.reader.now.schedule c.read_rows.new.reader.schedule c.args.core
    c.new-player.result
    (g.Q.Predictor.may_guess c.args.predictor.now) read.0 read.1 c.in-Ok.rows.items
    c.replay_script.result (g.P.Port.read_faults c.args.port.now)
    (g.P.Port.read_faults c.read_rows.new.port) (g.P.Port.read_faults c.replay_script.new.port) _ _
    _ _ _ _ c.read_rows.ensures.schedule (ap (λ (p : Playing). p.core) c.new-player.ensures)
    (ap (λ (p : Playing). p.rows) c.new-player.ensures ∙ c.deref.ensures.value)
    c.read_rows.ensures.counts.0 read.2 read.3 read.4 c.replay_script.ensures.answered

pub returns-in_ok-labels-in-Ok-clause-read_fault : goal.returns-in_ok-labels-in-Ok-clause-read_fault
returns-in_ok-labels-in-Ok-clause-read_fault g c =
    IfOk-weaker c.replay_script.result _ _
    (λ e rose is. rose_since (g.P.Port.read_faults c.args.port.now)
    (g.P.Port.read_faults c.read_rows.new.port) (g.P.Port.read_faults c.replay_script.new.port)
    c.read_rows.ensures.counts.0 (rose is)) c.replay_script.ensures.read_fault

pub returns-in_ok-labels-in-Ok-clause-write_fault :
    goal.returns-in_ok-labels-in-Ok-clause-write_fault
returns-in_ok-labels-in-Ok-clause-write_fault g c e =
    rose_since (g.P.Port.write_faults c.args.port.now) (g.P.Port.write_faults c.read_rows.new.port)
    (g.P.Port.write_faults c.replay_script.new.port) c.read_rows.ensures.counts.1
    (c.replay_script.ensures.write_fault e)

pub returns-in-Err-clause-answered : goal.returns-in-Err-clause-answered
returns-in-Err-clause-answered g c =
    let refused = c.in-Err.ensures.refused in
    replied_unfed c.args.reader.now.schedule c.read_rows.new.reader.schedule c.args.core
    (g.Q.Predictor.may_guess c.args.predictor.now) refused.0 refused.1 c.in-Err.error
    c.replay_none.result (g.P.Port.read_faults c.args.port.now)
    (g.P.Port.read_faults c.read_rows.new.port) (g.P.Port.read_faults c.replay_none.new.port) _ _ _
    _ _ _ c.read_rows.ensures.schedule c.replay_none.ensures.left refused.2 refused.3
    (λ e. c.in-Err.ensures.fault (ap (λ x. Err x) e)) c.replay_none.ensures.counts.0
    c.replay_none.ensures.answered c.replay_none.ensures.memory

pub returns-in-Err-clause-read_fault : goal.returns-in-Err-clause-read_fault
returns-in-Err-clause-read_fault g c =
    IfOk-weaker c.replay_none.result _ _
    (λ e failed is. rose_until (g.P.Port.read_faults c.args.port.now)
    (g.P.Port.read_faults c.read_rows.new.port) (g.P.Port.read_faults c.replay_none.new.port)
    (c.in-Err.ensures.fault (ap (λ x. Err x) (failed is))) c.replay_none.ensures.counts.0)
    c.replay_none.ensures.read_fault

pub returns-in-Err-clause-write_fault : goal.returns-in-Err-clause-write_fault
returns-in-Err-clause-write_fault g c e =
    rose_since (g.P.Port.write_faults c.args.port.now) (g.P.Port.write_faults c.read_rows.new.port)
    (g.P.Port.write_faults c.replay_none.new.port) c.read_rows.ensures.counts.1
    (c.replay_none.ensures.write_fault e)
