use Rattle.std.proofs.Common.{◌≡◌, rules, string_bytes}
use Rattle.run_report.specs.Reports.{steps_of}
use Rattle.certified_log.specs.Shown.{certificate_at, whole_in}
use Rattle.certified_log.specs.Texts.{certified_of}
use Rattle.certified_log.proofs.text.text_with.Goals as goal

pub returns : goal.returns
returns c =
    let is : string_bytes c.write_text.new.text ≡ certified_of c.args.labels.now
    (whole_in c.args.core.now) (certificate_at c.args.certs.now) (steps_of c.args.core.now) =
    search rules in
    record {
      whole = whole_in c.args.core.now;
      cert = certificate_at c.args.certs.now;
      each = c.are_shown.ensures;
      text_is = is;
    }
