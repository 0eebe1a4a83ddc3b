-- A book of tickets with a flag for each window: whether it is committed.
use Rattle.std.specs.Prelude.{◌≡◌, ◌<◌, ℕ, Bool, true, List, length, slice_set}
use Rattle.window_model.specs.Decoder.{Task}
use Rattle.window_model.specs.Windows.{WindowPlan, window_at, window_count}
use Rattle.window_model.specs.Speculation.{Event}
use Rattle.poison_cascade.specs.Books.{TicketBook, entry_at}
use Rattle.cascade_laws.specs.Mirror.{IsBookOf}
use Rattle.cascade_laws.specs.MirrorLaws.{reached}
use Rattle.cascade_laws.specs.Turns.{AreDone}

pub record PhaseTable : Type 0 where
  pub book : TicketBook
  pub done : List Bool

-- the book and the flags are those of a history
pub record IsTableOf (task : Task) (retries : ℕ) (events : List Event)
    (table : PhaseTable) : Type 0 where
  pub book : IsBookOf task retries events table.book
  pub done : AreDone task (reached task events) table.done

-- the book's windows and dependencies are the plan's
pub record IsOfPlan (plan : WindowPlan) (book : TicketBook) : Type 0 where
  pub each_window : length book.windows ≡ window_count plan
  pub deps : (w : ℕ) → w < window_count plan → (entry_at book w).deps ≡ (window_at plan w).deps

-- the window is committed
abbrev pub committed : PhaseTable → ℕ → PhaseTable
committed table w = record table { done = slice_set table.done w true }
