-- A book of tickets that has of a history what the scans of the speculative decoder ask for: which
-- ticket each window has, whether it has a result, and what it rests on.
use Rattle.std.specs.Prelude.{◌≡◌, ◌<◌, ◌+◌, ℕ, Bool, true, false, List, length, map, count_by, All, Option, Some, None}
use Rattle.window_model.specs.declared.Origin.{Origin}
use Rattle.window_model.specs.declared.Origin.TheVariants.{Ticket}
use Rattle.window_model.specs.Decoder.{Task}
use Rattle.window_model.specs.Windows.{window_at, window_count}
use Rattle.window_model.specs.Speculation.{Link, Claim, Phase, Waiting, Running, Held, Done, Machine, Event, start, happen_all}
use Rattle.window_model.specs.SpeculationLaws.{is_claim_of}
use Rattle.poison_cascade.specs.declared.support.Support.{Support}
use Rattle.poison_cascade.specs.Books.{Live, TicketBook, entry_at, standing, supports_of}

-- what a link rests on, without its bits
abbrev pub support_of : Link → Support
support_of link = record { source = link.source; origin = link.origin }

abbrev pub live_with : (ℕ → Claim) → ℕ → Bool → Live
live_with claim k stands =
    record { ticket = k; stands = stands; supports = map support_of (claim k).links }

-- the live ticket of a window in this phase, where these are the claims
abbrev pub live_of : (ℕ → Claim) → Phase → Option Live
live_of claim Waiting = None
live_of claim (Running k) = Some (live_with claim k false)
live_of claim (Held k) = Some (live_with claim k true)
live_of claim (Done k) = Some (live_with claim k true)

-- The book has each window's dependencies and live ticket as the machine has them, and so many
-- tickets as were taken; `claims` is how often each window was claimed.
pub record Mirrors (task : Task) (retries : ℕ) (m : Machine) (claims : ℕ →
    ℕ) (book : TicketBook) : Type 0 where
  pub each_window : length book.windows ≡ window_count task.plan
  pub retries_are : book.retries ≡ retries
  pub numbered : book.tickets ≡ m.tickets
  pub deps : (w : ℕ) → w < window_count task.plan → (entry_at book w).deps
      ≡ (window_at task.plan w).deps
  pub live : (w : ℕ) → w < window_count task.plan → (entry_at book w).live
      ≡ live_of m.claim (m.phase w)
  pub claimed : (w : ℕ) → w < window_count task.plan → (entry_at book w).taken ≡ claims w

-- the book of a history
abbrev pub IsBookOf : Task → ℕ → List Event → TicketBook → Type 0
IsBookOf task retries events book =
    Mirrors task retries (happen_all task start events) (λ w. count_by (is_claim_of w) events) book

-- a ticket may be taken for the window, with these origins
pub record MayTake (book : TicketBook) (w : ℕ) (origins : List Origin) : Type 0 where
  pub in_range : w < length book.windows
  pub none_live : (entry_at book w).live ≡ None
  pub allowed : (entry_at book w).taken < book.retries + 1
  pub each_one : length origins ≡ length (entry_at book w).deps
  pub stand : All (λ (s : Support). (k : ℕ) → s.origin ≡ Ticket k → standing book s.source
      ≡ Some k) (supports_of (entry_at book w).deps origins)
