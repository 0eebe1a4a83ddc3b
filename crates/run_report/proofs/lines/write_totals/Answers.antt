use Rattle.std.proofs.Common.{◌++◌, ◌∙◌, ap, codes, string_bytes}
use Rattle.std.proofs.lemmas.Result.{on_ok_weaker}
use Rattle.run_report.specs.Words.{field}
use Rattle.run_report.proofs.Spelled.{fields_chain}
use Rattle.run_report.proofs.lines.write_totals.Goals as goal

pub returns : goal.returns
returns c =
    on_ok_weaker c.end_line.result
    (λ e. fields_chain (string_bytes c.args.text.now) (codes "summary") (codes "windows")
    (codes "done") (codes "defects") (codes "edges") (codes "weight")
    c.args.summary.now.windows c.args.summary.now.done c.args.summary.now.defects
    c.args.summary.now.edges c.args.summary.now.weight _ _ _ _ _ _ _
    c.in_ok-push_str.ensures.bytes
    (c.in_ok-write_field.ensures
    ∙ ap (λ n. string_bytes c.push_str.new.self ++ field (codes "windows") n) c.from.ensures)
    (c.in_ok-write_field-2.ensures
    ∙ ap (λ n. string_bytes c.write_field.new.text ++ field (codes "done") n) c.from-2.ensures)
    (c.in_ok-write_field-3.ensures
    ∙ ap (λ n. string_bytes c.write_field-2.new.text ++ field (codes "defects") n)
    c.from-3.ensures)
    c.in_ok-write_field-4.ensures c.in_ok-write_field-5.ensures e)
    c.end_line.ensures
