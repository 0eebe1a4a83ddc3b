use Rattle.std.proofs.Common.{◌∙◌, inl, inr, length, map, refl, string_bytes, sym, ap, subst}
use Rattle.std.proofs.lemmas.List.{length-map}
use Rattle.port_io.proofs.Traffic.{goes_nothing}
use Rattle.measure_map.specs.Placed.{Placed}
use Rattle.surface_model.specs.Schedules.{CondLine}
use Rattle.report_model.specs.Tasks.{labels_of, names_of, operation_of}
use Rattle.run_report.specs.Names.{printed_names}
use Rattle.window_model.specs.Decoder.{Task}
use Rattle.swiper_run.specs.Answers.{Concludes, IsReportOf, is_of_accepted}
use Rattle.swiper_run.proofs.Concluding.{accepted_end, accepted_or_cut, status_read, status_write, was_read}
use Rattle.swiper_run.proofs.Reporting.{each_label}
use Rattle.swiper_run.proofs.top.put_report.Goals as goal

pub report-requires-clause-labels : goal.report-requires-clause-labels
report-requires-clause-labels g c =
    ap (λ (t : Task). length t.operations) c.requires.task.1
    ∙ length-map c.args.work.now.program.conds operation_of
    ∙ ap (λ l. length l) (sym c.conds_of-conds.ensures)

pub report-requires-clause-names : goal.report-requires-clause-names
report-requires-clause-names g c =
    ap (λ o. length o) c.observables.ensures ∙ each_label c.args.work.now.program
    c.requires.task.0 c.args.work.now.map c.args.rounds.now.decoder.progress.task c.requires.map
    c.requires.task.1

pub returns-in-Ok-clause-said : goal.returns-in-Ok-clause-said
returns-in-Ok-clause-said g c =
    let d = c.args.rounds.now.decoder in
    let end = c.args.rounds.now.end in
    let s = c.args.work.now.program in
    let options = c.args.work.now.options in
    let labels = ap (λ l. map (λ (line : CondLine). line.label) l) c.conds_of-conds.ensures in
    let named = ap printed_names (c.observables.ensures
    ∙ ap (λ (o : Placed). o.observables) c.requires.map) ∙ c.named.ensures s in
    inr (
      c.as_bytes.result.now,
      subst (λ b. IsReportOf (labels_of s) (names_of s) d options end b)
          (sym c.as_bytes.ensures.value)
          (subst (λ n. IsReportOf (labels_of s) n d options end (string_bytes c.in-Ok.text)) named
          (subst (λ l. IsReportOf l (printed_names c.observables.result.now) d options end
          (string_bytes c.in-Ok.text)) labels c.in-Ok.ensures)),
      subst (λ k. Concludes k c.conclude.result c.as_bytes.result.now (g.P.Port.left
          c.args.port.now) (g.P.Port.left c.conclude.new.port) (g.P.Port.tape c.args.port.now)
          (g.P.Port.tape c.conclude.new.port)) c.status_of.ensures c.conclude.ensures.done,
    )

pub returns-in-Ok-clause-read_fault : goal.returns-in-Ok-clause-read_fault
returns-in-Ok-clause-read_fault g c e =
    status_read c.args.rounds.now.end (sym c.status_of.ensures
    ∙ was_read c.status_of.result c.conclude.result c.conclude.ensures.same e)

pub returns-in-Ok-clause-write_fault : goal.returns-in-Ok-clause-write_fault
returns-in-Ok-clause-write_fault g c e =
    elim (c.conclude.ensures.cause e) [
      | inl is ↦ absurd (status_write c.args.rounds.now.end (sym c.status_of.ensures ∙ is))
      | inr rose ↦ rose
    ]

pub returns-in-Ok-clause-accepted : goal.returns-in-Ok-clause-accepted
returns-in-Ok-clause-accepted g c =
    accepted_or_cut c.status_of.result c.conclude.result c.conclude.ensures.same
    (ap is_of_accepted c.status_of.ensures ∙ accepted_end c.args.rounds.now.end)

pub returns-in-Err-clause-said : goal.returns-in-Err-clause-said
returns-in-Err-clause-said g c = inl (refl, goes_nothing _ _)
