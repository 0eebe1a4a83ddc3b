use Rattle.std.proofs.Common.{◌++◌, ◌∙◌, ap, string_bytes}
use Rattle.std.proofs.lemmas.Result.{on_ok_weaker}
use Rattle.run_report.proofs.Cores.{entry_stands, event_printed}
use Rattle.run_report.proofs.events.write_event.Goals as goal

pub write_entry-requires : goal.write_entry-requires
write_entry-requires c =
    entry_stands c.args.core.now c.is_state.ensures c.args.at c.entry_at.result c.entry_at.ensures

pub returns : goal.returns
returns c =
    on_ok_weaker c.write_entry.result
    (λ e event happened.
    e ∙ ap (λ t. string_bytes c.args.text.now ++ t)
    (event_printed c.args.core.now c.is_state.ensures c.args.labels.now c.args.at c.entry_at.result
    c.entry_at.ensures event happened))
    c.write_entry.ensures
