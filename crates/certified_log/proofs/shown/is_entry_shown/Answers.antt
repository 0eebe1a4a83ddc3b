use Rattle.certified_log.proofs.Lines.{entry_committed}
use Rattle.certified_log.proofs.shown.is_entry_shown.Goals as goal

pub returns-in-Committed : goal.returns-in-Committed
returns-in-Committed c =
    entry_committed c.args.core.now c.is_state.ensures c.args.entry c.in-Committed.ticket
    c.in-Committed.window c.in-Committed.is c.requires.stands c.args.labels.now c.args.certs.now
    c.requires.certs c.kept_of.result.now c.is_set.ensures c.kept_of.ensures.value
