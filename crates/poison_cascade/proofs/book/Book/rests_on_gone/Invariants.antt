use Rattle.std.proofs.Common.{◌≡◌, false, take}
use Rattle.std.specs.List.{list_any}
use Rattle.poison_cascade.specs.Tests.{is_gone}
use Rattle.poison_cascade.proofs.book.Book.rests_on_gone.Given as goal

abbrev pub invariant-loop-support : goal.invariant-loop-support
invariant-loop-support l = list_any (is_gone l.self) (take l.support-index l.support-items) ≡ false
