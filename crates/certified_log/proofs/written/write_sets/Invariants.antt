use Rattle.std.proofs.Common.{◌≡◌, ◌++◌, map, take, string_bytes}
use Rattle.certified_lines.specs.Certified.{text_of}
use Rattle.certified_log.specs.Texts.{set_line}
use Rattle.certified_log.proofs.written.write_sets.Given as goal

abbrev pub invariant-loop-at : goal.invariant-loop-at
invariant-loop-at l = string_bytes l.text ≡ string_bytes l.fn.text
    ++ text_of (map set_line (take l.at l.cert.sets))
