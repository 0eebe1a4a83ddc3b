use Rattle.std.proofs.Common.{◌≡◌, ◌++◌, flat_map, take, string_bytes}
use Rattle.report_model.specs.Texts.{step_line}
use Rattle.trace_laws.specs.Told.{entry_steps}
use Rattle.run_report.proofs.log.write_steps.Given as goal

abbrev pub invariant-loop-entry : goal.invariant-loop-entry
invariant-loop-entry l = string_bytes l.text ≡ string_bytes l.fn.text
    ++ flat_map (step_line l.labels) (flat_map (entry_steps l.core.task l.core.kept)
    (take l.entry-index l.entry-items))
