use Rattle.std.proofs.Common.{◌<◌, ℕ}
use Rattle.poison_cascade.specs.Books.{IsOrphan}
use Rattle.poison_cascade.proofs.book.Book.next_orphan.Given as goal

abbrev pub invariant-loop-window : goal.invariant-loop-window
invariant-loop-window l = (y : ℕ) → y < l.window → ¬ IsOrphan l.self y
