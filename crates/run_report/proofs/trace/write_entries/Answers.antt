use Rattle.std.proofs.Common.{◌++◌, ◌∙◌, ap, flat_map, string_bytes}
use Rattle.std.proofs.lemmas.List.{take_all}
use Rattle.trace_laws.specs.Told.{entry_line}
use Rattle.run_report.proofs.Cores.{stands_in, trace_lines}
use Rattle.run_report.proofs.trace.write_entries.Goals as goal

pub write_entry-requires : goal.write_entry-requires
write_entry-requires c =
    stands_in c.args.core.now c.is_state.ensures c.journal-entry-items.result.now
    c.journal-entry-items.ensures.value c.loop-entry.entry-index _ c.loop-entry-test.true

pub returns : goal.returns
returns c =
    let core = c.args.core.now in
    c.loop-entry.invariant
    ∙ ap (λ entries. string_bytes c.args.text.now
    ++ flat_map (entry_line core.task c.args.labels.now core.kept) entries)
    (take_all c.loop-entry.entry-index c.journal-entry-items.result.now c.loop-entry-test.false
    ∙ c.journal-entry-items.ensures.value)
    ∙ ap (λ t. string_bytes c.args.text.now ++ t)
    (trace_lines core c.is_state.ensures c.args.labels.now)
