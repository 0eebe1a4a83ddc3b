use Rattle.std.proofs.Common.{◌++◌, ap, ◌∙◌, codes, string_bytes}
use Rattle.certified_lines.specs.Certified.{text_of}
use Rattle.run_report.specs.Reports.{steps_of}
use Rattle.certified_log.specs.Shown.{certificate_at, whole_in}
use Rattle.certified_log.specs.Texts.{lines_of}
use Rattle.certified_log.proofs.Spelled.{text_whole}
use Rattle.certified_log.proofs.text.write_text.Goals as goal

pub returns : goal.returns
returns c =
    let lines = lines_of c.args.labels.now (whole_in c.args.core.now)
    (certificate_at c.args.certs.now) (steps_of c.args.core.now) in
    c.in_ok-write_word-2.ensures
    ∙ ap (λ t. t ++ codes "end log\n") (c.in_ok-write_entries.ensures
    ∙ ap (λ t. t ++ text_of lines) c.in_ok-write_word.ensures)
    ∙ text_whole (string_bytes c.args.text.now) lines
