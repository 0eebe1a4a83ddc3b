use Rattle.run_report.proofs.Cores.{stands_in}
use Rattle.run_report.proofs.counts.counts_of.Goals as goal

pub counted-all-requires-clause-stands : goal.counted-all-requires-clause-stands
counted-all-requires-clause-stands c =
    stands_in c.args.core.now c.is_state.ensures c.journal-entry-items.result.now
    c.journal-entry-items.ensures.value c.loop-entry.entry-index _ c.loop-entry-test.true
