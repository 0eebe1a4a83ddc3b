use Rattle.std.proofs.Common.{◌++◌, ◌∙◌, ap, flat_map, string_bytes}
use Rattle.std.proofs.lemmas.List.{take_all}
use Rattle.certified_lines.specs.Certified.{text_of}
use Rattle.run_report.proofs.Cores.{stands_in}
use Rattle.certified_log.specs.Shown.{certificate_at, whole_in}
use Rattle.certified_log.specs.Texts.{lines_of}
use Rattle.certified_log.proofs.Lines.{entries_text, entry_text, steps_in}
use Rattle.certified_log.proofs.text.write_entries.Goals as goal

pub write_entry-requires : goal.write_entry-requires
write_entry-requires c =
    stands_in c.args.core.now c.is_state.ensures c.journal-entry-items.result.now
    c.journal-entry-items.ensures.value c.loop-entry.entry-index _ c.loop-entry-test.true

pub returns : goal.returns
returns c =
    let core = c.args.core.now in
    let items = c.journal-entry-items.result.now in
    let labels = c.args.labels.now in
    let cert = certificate_at c.args.certs.now in
    c.loop-entry.invariant
    ∙ ap (λ entries. string_bytes c.args.text.now ++ flat_map (entry_text core.task core.kept labels
    (whole_in core) cert) entries)
    (take_all c.loop-entry.entry-index items c.loop-entry-test.false
    ∙ c.journal-entry-items.ensures.value)
    ∙ ap (λ t. string_bytes c.args.text.now ++ t)
    (entries_text core.task core.kept labels (whole_in core) cert core.journal
    ∙ ap (λ steps. text_of (lines_of labels (whole_in core) cert steps))
    (steps_in core c.is_state.ensures))
