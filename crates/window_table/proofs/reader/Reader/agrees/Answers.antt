use Rattle.window_table.proofs.reader.Reader.agrees.Goals as goal

pub returns-then-not-has_given-clause-no : goal.returns-then-not-has_given-clause-no
returns-then-not-has_given-clause-no g c _ both =
    c.has_given.ensures.no c.if-not-has_given.true both.0

pub returns-clause-no : goal.returns-clause-no
returns-clause-no g c no_ both = c.are_released.ensures.no no_ both.1
