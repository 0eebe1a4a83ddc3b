use Rattle.std.proofs.Common.{arith}
use Rattle.poison_cascade.proofs.Windows.{few_tickets}
use Rattle.poison_cascade.proofs.book.Book.take.Goals as goal

pub overflow_add-self : goal.overflow_add-self
overflow_add-self c =
    let few = few_tickets (record {
      windows = c.self.inside.windows.items;
      retries = c.self.inside.retries;
      tickets = c.self.inside.tickets;
    }) c.self.invariant in
    omega (arith, few)
