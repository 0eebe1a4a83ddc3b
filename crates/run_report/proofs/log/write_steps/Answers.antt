use Rattle.std.proofs.Common.{◌++◌, ◌∙◌, ap, flat_map, string_bytes}
use Rattle.std.proofs.lemmas.List.{take_all}
use Rattle.report_model.specs.Texts.{step_line}
use Rattle.trace_laws.specs.Told.{entry_steps}
use Rattle.run_report.proofs.Cores.{log_lines, stands_in}
use Rattle.run_report.proofs.log.write_steps.Goals as goal

pub write_step-requires : goal.write_step-requires
write_step-requires c =
    stands_in c.args.core.now c.is_state.ensures c.journal-entry-items.result.now
    c.journal-entry-items.ensures.value c.loop-entry.entry-index _ c.loop-entry-test.true

pub returns : goal.returns
returns c =
    let core = c.args.core.now in
    let items = c.journal-entry-items.result.now in
    c.loop-entry.invariant
    ∙ ap (λ entries. string_bytes c.args.text.now ++ flat_map (step_line c.args.labels.now)
    (flat_map (entry_steps core.task core.kept) entries))
    (take_all c.loop-entry.entry-index items c.loop-entry-test.false
    ∙ c.journal-entry-items.ensures.value)
    ∙ ap (λ t. string_bytes c.args.text.now ++ t)
    (log_lines core c.is_state.ensures c.args.labels.now)
