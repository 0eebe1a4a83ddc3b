-- The tickets that stand or run, and what each rests on: for each dependency of its window a guess,
-- or the ticket whose result it used.
use Rattle.std.specs.Prelude.{◌≡◌, ◌≢◌, ◌<◌, ◌≤◌, ℕ, ◌+◌, Bool, true, false, ◌==◌, if◌then◌else◌, ◌⊎◌, List, [], ◌∷◌, length, map, sum_by, All, AllPairs, Any, Option, Some, None, option_map, slice_index_or, slice_set}
use Rattle.window_model.specs.Gates.{most_windows}
use Rattle.window_model.specs.declared.Origin.{Origin}
use Rattle.window_model.specs.declared.Origin.TheVariants.{Guess, Ticket}
use Rattle.poison_cascade.specs.declared.support.Support.{Support}

-- the ticket of a window that isn't waiting: whether it has a result, and what it rests on
pub record Live : Type 0 where
  pub ticket : ℕ
  pub stands : Bool
  pub supports : List Support

-- a window: its dependencies, its live ticket, and how many tickets were taken for it
pub record WindowEntry : Type 0 where
  pub deps : List ℕ
  pub live : Option Live
  pub taken : ℕ

-- a window with these supports of its live ticket, whose number this is
abbrev pub entry_of : List Support → Option ℕ → Bool → ℕ → WindowEntry
entry_of supports ticket stands taken = record {
  deps = map (λ (s : Support). s.source) supports;
  live = option_map (λ k. record { ticket = k; stands = stands; supports = supports }) ticket;
  taken = taken;
}

-- the windows, how often a window may be given up and still be guessed at again, and how many
-- tickets were taken
pub record TicketBook : Type 0 where
  pub windows : List WindowEntry
  pub retries : ℕ
  pub tickets : ℕ

-- ---- reading a book

abbrev pub entry_at : TicketBook → ℕ → WindowEntry
entry_at book w = slice_index_or book.windows w (record { deps = []; live = None; taken = 0 })

abbrev pub standing_of : Option Live → Option ℕ
standing_of None = None
standing_of (Some live) = if live.stands then Some live.ticket else None

-- the ticket of a window, where it has a result
abbrev pub standing : TicketBook → ℕ → Option ℕ
standing book w = standing_of (entry_at book w).live

abbrev pub supports_in : Option Live → List Support
supports_in None = []
supports_in (Some live) = live.supports

-- what the live ticket of a window rests on
abbrev pub supports_at : TicketBook → ℕ → List Support
supports_at book w = supports_in (entry_at book w).live

-- the live ticket of window w rests on a guess about x, which has a result
pub record IsUnverified (book : TicketBook) (w x : ℕ) : Type 0 where
  pub guessed : Any (λ (s : Support). (s.source ≡ x) × (s.origin ≡ Guess)) (supports_at book w)
  pub other : ℕ
  pub stands : standing book x ≡ Some other

-- the live ticket of window w rests on a ticket that no longer stands
abbrev pub IsOrphan : TicketBook → ℕ → Type 0
IsOrphan book w = Any (λ (s : Support). (k : ℕ) × (s.origin ≡ Ticket k)
    × (standing book s.source ≢ Some k)) (supports_at book w)

-- the least number of this property, or nothing where there is none
abbrev pub IsLeast : (ℕ → Type 0) → Option ℕ → Type 0
IsLeast P None = (w : ℕ) → ¬ P w
IsLeast P (Some w) = P w × ((y : ℕ) → y < w → ¬ P y)

-- the least pair, by the first number and then by the second, or nothing where there is none
abbrev pub IsLeastPair : (ℕ → ℕ → Type 0) → Option (ℕ × ℕ) → Type 0
IsLeastPair P None = (w x : ℕ) → ¬ P w x
IsLeastPair P (Some pair) = P pair.0 pair.1
    × ((y z : ℕ) → (y < pair.0) ⊎ ((y ≡ pair.0) × (z < pair.1)) → ¬ P y z)

-- ---- what a book keeps

-- how often a window may be given up and still be guessed at again
abbrev pub most_retries : ℕ
most_retries = 8

-- one more than the retries for each window
abbrev pub most_tickets : ℕ
most_tickets = 36864

-- dependencies of window w: they rise, and are lower
pub record AreLower (w : ℕ) (deps : List ℕ) : Type 0 where
  pub rising : AllPairs (λ x y. x < y) deps
  pub lower : All (λ x. x < w) deps

-- few windows, each with lower dependencies, and few retries
pub record AreWindows (lists : List (List ℕ)) (retries : ℕ) : Type 0 where
  pub few : length lists ≤ most_windows
  pub bounded : retries ≤ most_retries
  pub lower : (w : ℕ) → w < length lists → AreLower w (slice_index_or lists w [])

-- so many tickets as were taken for the windows, for each at most one more than the retries
pub record IsBook (book : TicketBook) : Type 0 where
  pub few : length book.windows ≤ most_windows
  pub bounded : book.retries ≤ most_retries
  pub counted : book.tickets ≡ sum_by (λ (e : WindowEntry). e.taken) book.windows
  pub each : All (λ (e : WindowEntry). e.taken ≤ book.retries + 1) book.windows

-- ---- what its calls do

abbrev pub with_entry : TicketBook → ℕ → WindowEntry → TicketBook
with_entry book w entry = record book { windows = slice_set book.windows w entry }

-- an origin for each dependency
abbrev pub supports_of : List ℕ → List Origin → List Support
supports_of [] origins = []
supports_of (x ∷ deps) [] = []
supports_of (x ∷ deps) (origin ∷ origins) = record { source = x; origin = origin }
    ∷ supports_of deps origins

-- no ticket is taken yet
abbrev pub fresh : List ℕ → WindowEntry
fresh deps = record { deps = deps; live = None; taken = 0 }

abbrev pub opened : List (List ℕ) → ℕ → TicketBook
opened lists retries = record { windows = map fresh lists; retries = retries; tickets = 0 }

-- the next ticket is taken for window w, without a result yet
abbrev pub taken : TicketBook → ℕ → List Origin → TicketBook
taken book w origins =
    let entry = entry_at book w in
    record (with_entry book w (record entry {
      live = Some (record {
        ticket = book.tickets;
        stands = false;
        supports = supports_of entry.deps origins;
      });
      taken = entry.taken + 1;
    })) { tickets = book.tickets + 1 }

abbrev pub marked : WindowEntry → WindowEntry
marked entry =
    record entry { live = option_map (λ (live : Live). record live { stands = true }) entry.live }

-- the live ticket of window w has a result
abbrev pub stood : TicketBook → ℕ → TicketBook
stood book w = with_entry book w (marked (entry_at book w))

-- the support of x is this ticket from now on
abbrev pub with_ticket : ℕ → ℕ → List Support → List Support
with_ticket x k [] = []
with_ticket x k (s ∷ supports) = if s.source == x then record {
  source = s.source;
  origin = Ticket k;
} ∷ supports else s ∷ with_ticket x k supports

abbrev pub confirmed_by : Option ℕ → ℕ → WindowEntry → WindowEntry
confirmed_by None x entry = entry
confirmed_by (Some k) x entry = record entry {
  live = option_map (λ (live : Live).
      record live { supports = with_ticket x k live.supports }) entry.live;
}

-- the guess of window w about x is x's standing ticket from now on
abbrev pub confirmed : TicketBook → ℕ → ℕ → TicketBook
confirmed book x w = with_entry book w (confirmed_by (standing book x) x (entry_at book w))

-- window w has no live ticket
abbrev pub vanished : TicketBook → ℕ → TicketBook
vanished book w = with_entry book w (record (entry_at book w) { live = None })
