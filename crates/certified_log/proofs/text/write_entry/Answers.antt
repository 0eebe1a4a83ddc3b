use Rattle.certified_log.proofs.Lines.{committed_in}
use Rattle.certified_log.proofs.text.write_entry.Goals as goal

pub write_shown-requires : goal.write_shown-requires
write_shown-requires c =
    committed_in c.args.core.now c.is_state.ensures c.args.entry c.in-Committed.field-0
    c.in-Committed.window c.in-Committed.is c.requires
