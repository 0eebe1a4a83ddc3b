use Rattle.poison_cascade.proofs.Supports.{rising_same}
use Rattle.poison_cascade.proofs.entry.Entry.take.Goals as goal

pub invariant_of-self : goal.invariant_of-self
invariant_of-self c = rising_same c.self.inside.supports.items c.write_origins.new.supports.items
    c.write_origins.ensures.sources c.self.invariant
