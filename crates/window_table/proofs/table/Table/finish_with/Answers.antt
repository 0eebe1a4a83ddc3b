use Rattle.window_table.proofs.table.Table.finish_with.Goals as goal

pub returns-clause-given : goal.returns-clause-given
returns-clause-given g c = c.agrees.ensures.given c.if-not-agrees.false

pub returns-clause-told : goal.returns-clause-told
returns-clause-told g c = c.agrees.ensures.told c.if-not-agrees.false
