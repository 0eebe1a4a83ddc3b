use Rattle.poison_cascade.proofs.Supports.{rising_of}
use Rattle.poison_cascade.proofs.entry.Entry.new.Goals as goal

pub invariant_of-result : goal.invariant_of-result
invariant_of-result c =
    rising_of c.in_ok-guesses.field-0.items c.args.deps.now c.requires c.in_ok-guesses.ensures
