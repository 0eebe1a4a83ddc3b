use Rattle.std.proofs.Common.{◌≡◌, false, take}
use Rattle.std.specs.List.{list_any}
use Rattle.poison_cascade.specs.Tests.{is_from}
use Rattle.poison_cascade.proofs.entry.name_ticket.Given as goal

abbrev pub invariant-loop-at : goal.invariant-loop-at
invariant-loop-at l = record {
  same : l.supports.items ≡ l.fn.supports.items;
  passed : list_any (is_from l.source) (take l.at l.supports.items) ≡ false;
}
