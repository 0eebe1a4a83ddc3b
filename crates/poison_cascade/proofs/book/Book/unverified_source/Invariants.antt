use Rattle.std.proofs.Common.{◌≡◌, false, take}
use Rattle.std.specs.List.{list_any}
use Rattle.poison_cascade.specs.Tests.{is_comparable}
use Rattle.poison_cascade.proofs.book.Book.unverified_source.Given as goal

abbrev pub invariant-loop-support : goal.invariant-loop-support
invariant-loop-support l = list_any (is_comparable l.self) (take l.support-index l.support-items)
    ≡ false
