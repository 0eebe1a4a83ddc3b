use Rattle.std.proofs.Common.{◌≡◌, ◌≤◌, ◌*◌, take}
use Rattle.window_model.specs.Speculation.{counts_of}
use Rattle.window_model.specs.Gates.{most_windows}
use Rattle.core_journal.specs.Entries.{history_of}
use Rattle.run_report.specs.Reports.{counts_in}
use Rattle.run_report.proofs.counts.counts_of.Given as goal

abbrev pub invariant-loop-entry : goal.invariant-loop-entry
invariant-loop-entry l = record {
  counted : counts_in l.all
      ≡ counts_of (history_of l.core.task l.core.kept (take l.entry-index l.entry-items));
  claims : l.all.claims ≤ l.entry-index;
  guessed : l.all.guessed ≤ l.entry-index * most_windows;
  poisoned : l.all.poisoned ≤ l.entry-index;
  dropped : l.all.dropped ≤ l.entry-index;
  stale : l.all.stale ≤ l.entry-index;
}
