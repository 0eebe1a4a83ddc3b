use Rattle.std.proofs.Common.{◌≡◌, ◌++◌, flat_map, take, string_bytes}
use Rattle.certified_log.specs.Shown.{certificate_at, whole_in}
use Rattle.certified_log.proofs.Lines.{entry_text}
use Rattle.certified_log.proofs.text.write_entries.Given as goal

abbrev pub invariant-loop-entry : goal.invariant-loop-entry
invariant-loop-entry l = string_bytes l.text ≡ string_bytes l.fn.text
    ++ flat_map (entry_text l.core.task l.core.kept l.labels (whole_in l.core)
    (certificate_at l.certs)) (take l.entry-index l.entry-items)
