use Rattle.std.proofs.Common.{codes, string_bytes}
use Rattle.std.proofs.lemmas.Result.{on_ok_weaker}
use Rattle.run_report.proofs.Spelled.{fields_chain}
use Rattle.run_report.proofs.counts.write_counts.Goals as goal

pub returns : goal.returns
returns c =
    on_ok_weaker c.end_line.result
    (λ e. fields_chain (string_bytes c.args.text.now) (codes "counts") (codes "claims")
    (codes "guessed") (codes "poisoned") (codes "dropped") (codes "stale")
    c.args.counts.now.claims c.args.counts.now.guessed c.args.counts.now.poisoned
    c.args.counts.now.dropped c.args.counts.now.stale _ _ _ _ _ _ _
    c.in_ok-push_str.ensures.bytes c.in_ok-write_field.ensures c.in_ok-write_field-2.ensures
    c.in_ok-write_field-3.ensures c.in_ok-write_field-4.ensures c.in_ok-write_field-5.ensures e)
    c.end_line.ensures
