use Rattle.std.proofs.Common.{◌≡◌, ◌++◌, flat_map, take, string_bytes}
use Rattle.trace_laws.specs.Told.{entry_line}
use Rattle.run_report.proofs.trace.write_entries.Given as goal

abbrev pub invariant-loop-entry : goal.invariant-loop-entry
invariant-loop-entry l = string_bytes l.text ≡ string_bytes l.fn.text
    ++ flat_map (entry_line l.core.task l.labels l.core.kept) (take l.entry-index l.entry-items)
