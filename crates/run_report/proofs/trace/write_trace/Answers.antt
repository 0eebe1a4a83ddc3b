use Rattle.std.proofs.Common.{◌++◌, ◌∙◌, ap, codes, string_bytes}
use Rattle.std.proofs.lemmas.Result.{on_ok_weaker}
use Rattle.window_model.specs.Speculation.{Counts, counts_of, start}
use Rattle.report_model.specs.Texts.{counts_line, event_lines}
use Rattle.core_state.specs.States.{events_of}
use Rattle.run_report.proofs.Spelled.{parts_chain}
use Rattle.run_report.proofs.trace.write_trace.Goals as goal

pub returns : goal.returns
returns c =
    let core = c.args.core.now in
    on_ok_weaker c.write_word-2.result
    (λ e. parts_chain (string_bytes c.args.text.now) (codes "trace 1\n")
    (event_lines core.task c.args.labels.now start (events_of core))
    (counts_line (counts_of (events_of core))) (codes "end trace\n") _ _ _ _
    c.in_ok-write_word.ensures c.in_ok-write_entries.ensures
    (c.in_ok-write_counts.ensures ∙ ap (λ (n : Counts). string_bytes c.write_entries.new.text
    ++ counts_line n) c.counts_of.ensures) e)
    c.write_word-2.ensures
