-- What is kept of each ticket, by its number: its window, its links as they were claimed, its
-- result, and whether it is closed.
use Rattle.std.specs.Prelude.{◌≡◌, ◌<◌, ◌≤◌, ◌++◌, ◌∷◌, ℕ, Bool, true, false, List, [], length, map, replicate, Option, None, Some, slice_index, slice_index_or, slice_set}
use Rattle.std.specs.Bool.{⊤}
use Rattle.window_model.specs.Decoder.{Task}
use Rattle.window_model.specs.Laws.{PlanLaws}
use Rattle.window_model.specs.Parts.{part_of}
use Rattle.window_model.specs.Windows.{window_at}
use Rattle.window_model.specs.Speculation.{Link, Claim, Machine, Event, Claimed, Returned, Stale, sources_of, defect_of, MayClaim, MayReturn, IsEnabled, IsHistory}
use Rattle.window_model.specs.TicketLaws.{problem_of}
use Rattle.cascade_laws.specs.MirrorLaws.{reached}

-- results and closed tickets have places for tickets that aren't taken yet
pub record TicketStore : Type 0 where
  pub windows : List ℕ
  pub links : List (List Link)
  pub results : List (Option (List ℕ))
  pub closed : List Bool

abbrev pub bits_of : List Link → List (List Bool)
bits_of links = map (λ (link : Link). link.bits) links

abbrev pub links_at : TicketStore → ℕ → List Link
links_at store k = slice_index_or store.links k []

abbrev pub result_at : TicketStore → ℕ → Option (List ℕ)
result_at store k = slice_index_or store.results k None

abbrev pub is_closed_at : TicketStore → ℕ → Bool
is_closed_at store k = slice_index_or store.closed k false

-- The store has each ticket of the machine: of its links the sources and the bits, since a guess
-- may be verified later.
pub record Stores (m : Machine) (store : TicketStore) : Type 0 where
  pub each_window : length store.windows ≡ m.tickets
  pub each_links : length store.links ≡ m.tickets
  pub window : (k : ℕ) → k < m.tickets → slice_index store.windows k ≡ (m.claim k).window
  pub sources : (k : ℕ) → k < m.tickets → sources_of (links_at store k)
      ≡ sources_of (m.claim k).links
  pub bits : (k : ℕ) → k < m.tickets → bits_of (links_at store k) ≡ bits_of (m.claim k).links
  pub result : (k : ℕ) → k < m.tickets → result_at store k ≡ (m.claim k).result
  pub closed : (k : ℕ) → k < m.tickets → is_closed_at store k ≡ (m.claim k).closed
  pub no_result : (k : ℕ) → m.tickets ≤ k → result_at store k ≡ None
  pub not_closed : (k : ℕ) → m.tickets ≤ k → is_closed_at store k ≡ false

-- the store of a history
abbrev pub IsStoreOf : Task → List Event → TicketStore → Type 0
IsStoreOf task events store = Stores (reached task events) store

-- ---- what events do to it

abbrev pub no_tickets : ℕ → TicketStore
no_tickets room = record {
  windows = [];
  links = [];
  results = replicate room None;
  closed = replicate room false;
}

abbrev pub with_claim : TicketStore → ℕ → List Link → TicketStore
with_claim store w links = record store {
  windows = store.windows ++ w ∷ [];
  links = store.links
      ++ links ∷ [];
}

abbrev pub with_result : TicketStore → ℕ → List ℕ → TicketStore
with_result store k set = record store {
  results = slice_set store.results k (Some set);
  closed = slice_set store.closed k true;
}

abbrev pub with_closed : TicketStore → ℕ → TicketStore
with_closed store k = record store { closed = slice_set store.closed k true }

-- ---- laws

-- Before anything happens there is no ticket.
abbrev pub NoTicketsLaw : Type 0
NoTicketsLaw = (task : Task) (room : ℕ) → IsStoreOf task [] (no_tickets room)

-- A claim is stored under the next number.
abbrev pub StoredClaimLaw : Type 0
StoredClaimLaw =
    (task : Task) (retries : ℕ) (events : List Event) (store : TicketStore) (k w : ℕ)
    (links : List Link) → IsStoreOf task events store →
    MayClaim task retries (reached task events) k w links → (k ≡ length store.links)
    × IsStoreOf task (events ++ Claimed k w links ∷ []) (with_claim store w links)

-- A result is stored where there was none, and closes its ticket.
abbrev pub StoredResultLaw : Type 0
StoredResultLaw =
    (task : Task) (retries : ℕ) (events : List Event) (store : TicketStore) (k : ℕ) (set : List ℕ) →
    PlanLaws task.graph task.tags task.plan → IsHistory task retries events →
    IsStoreOf task events store → MayReturn task (reached task events) k set →
    k < length store.results → k < length store.closed →
    (result_at store k ≡ None)
    × IsStoreOf task (events ++ Returned k set ∷ []) (with_result store k set)

-- A stale ticket is closed.
abbrev pub StoredStaleLaw : Type 0
StoredStaleLaw =
    (task : Task) (retries : ℕ) (events : List Event) (store : TicketStore) (k : ℕ) →
    IsStoreOf task events store → IsEnabled task retries (reached task events) (Stale k) →
    k < length store.closed →
    IsStoreOf task (events ++ Stale k ∷ []) (with_closed store k)

-- whether an event leaves the store as it is
abbrev pub LeavesStore : Event → Type 0
LeavesStore (Claimed k w links) = ⊥
LeavesStore (Returned k set) = ⊥
LeavesStore (Stale k) = ⊥
LeavesStore _ = ⊤

-- Any other event leaves the store as it is.
abbrev pub StoredRestLaw : Type 0
StoredRestLaw =
    (task : Task) (retries : ℕ) (events : List Event) (store : TicketStore) (event : Event) →
    PlanLaws task.graph task.tags task.plan → IsHistory task retries events →
    IsStoreOf task events store →
    IsEnabled task retries (reached task events) event → LeavesStore event →
    IsStoreOf task (events ++ event ∷ []) store

-- a claim of this window with these links
abbrev pub claim_with : ℕ → List Link → Claim
claim_with w links = record { window = w; links = links; result = None; closed = false }

-- A ticket's problem is that of its window and of its links, as they were claimed.
abbrev pub StoredProblemLaw : Type 0
StoredProblemLaw =
    (task : Task) (events : List Event) (store : TicketStore) (k : ℕ) →
    IsStoreOf task events store → k < (reached task events).tickets →
    problem_of task (reached task events) k
    ≡ record {
      part = part_of task.graph task.plan (slice_index store.windows k);
      defects =
          map (defect_of task (reached task events).value (claim_with (slice_index store.windows k)
          (links_at store k))) (window_at task.plan (slice_index store.windows k)).detectors;
    }
