use Rattle.std.proofs.Common.{◌<◌, ℕ}
use Rattle.poison_cascade.specs.Books.{IsUnverified}
use Rattle.poison_cascade.proofs.book.Book.next_unverified.Given as goal

abbrev pub invariant-loop-window : goal.invariant-loop-window
invariant-loop-window l = (y x : ℕ) → y < l.window → ¬ IsUnverified l.self y x
