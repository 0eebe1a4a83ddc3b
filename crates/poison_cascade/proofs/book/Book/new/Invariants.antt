use Rattle.std.proofs.Common.{◌≡◌, map, take}
use Rattle.poison_cascade.specs.Books.{fresh}
use Rattle.poison_cascade.proofs.book.Book.new.Given as goal

abbrev pub invariant-loop-list : goal.invariant-loop-list
invariant-loop-list l = l.windows.items ≡ map fresh (map (λ v. v.items) (take l.list-index l.deps))
