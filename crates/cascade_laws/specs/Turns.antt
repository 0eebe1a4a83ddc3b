-- What the first turn is, by what a book and the flags of committed windows say.
use Rattle.std.specs.Prelude.{◌≡◌, ◌<◌, ℕ, Bool, true, false, not, ◌&&◌, ◌||◌, nat_lt, List, length, Option, None, Some, is_none, slice_index_or, ◌↔◌}
use Rattle.std.specs.List.{list_all}
use Rattle.window_model.specs.declared.Origin.{Origin}
use Rattle.window_model.specs.declared.Origin.TheVariants.{Guess, Ticket}
use Rattle.window_model.specs.Decoder.{Task}
use Rattle.window_model.specs.Laws.{PlanLaws}
use Rattle.window_model.specs.Windows.{WindowPlan, window_at, window_count}
use Rattle.window_model.specs.Speculation.{Link, Phase, Waiting, Running, Held, Done, Machine, Event, Verified, Poisoned, Dropped, Committed, Claimed, IsEnabled, IsFirstTurn, IsHistory}
use Rattle.window_model.specs.TurnLaws.{CanCompare, CanCommit, CanClaim, NoDrop, NoComparison, NoCommit, NoRelease, NoClaim}
use Rattle.poison_cascade.specs.declared.support.Support.{Support}
use Rattle.poison_cascade.specs.Books.{TicketBook, entry_at, standing, supports_at, IsOrphan, IsUnverified, IsLeast, IsLeastPair}
use Rattle.poison_cascade.specs.Tests.{is_this, is_some_ticket}
use Rattle.cascade_laws.specs.Mirror.{IsBookOf}
use Rattle.cascade_laws.specs.MirrorLaws.{reached}

-- ---- drops and comparisons

-- the drop that was found is the first turn; or there is none
abbrev pub IsDropTurn : Task → ℕ → Machine → Option ℕ → Type 0
IsDropTurn task retries m None = NoDrop m
IsDropTurn task retries m (Some w) = IsEnabled task retries m (Dropped w)
    × IsFirstTurn task retries m (Dropped w)

abbrev pub FirstDropLaw : Type 0
FirstDropLaw =
    (task : Task) (retries : ℕ) (events : List Event) (book : TicketBook) (found : Option ℕ) →
    PlanLaws task.graph task.tags task.plan → IsHistory task retries events →
    IsBookOf task retries events book → IsLeast (IsOrphan book) found →
    IsDropTurn task retries (reached task events) found

-- the comparison that was found is the first turn, however it ends; or there is none
abbrev pub IsCompareTurn : Task → ℕ → Machine → Option (ℕ × ℕ) → Type 0
IsCompareTurn task retries m None = NoComparison task m
IsCompareTurn task retries m (Some pair) =
    CanCompare task m pair.1 pair.0 × IsFirstTurn task retries m (Verified pair.1 pair.0)
    × IsFirstTurn task retries m (Poisoned pair.1 pair.0)

abbrev pub FirstComparisonLaw : Type 0
FirstComparisonLaw =
    (task : Task) (retries : ℕ) (events : List Event) (book : TicketBook) (found : Option (ℕ × ℕ)) →
    PlanLaws task.graph task.tags task.plan → IsHistory task retries events →
    IsBookOf task retries events book → NoDrop (reached task events) → IsLeastPair
    (IsUnverified book) found → IsCompareTurn task retries (reached task events) found

-- ---- commits

abbrev pub is_done : Phase → Bool
is_done Waiting = false
is_done (Running k) = false
is_done (Held k) = false
is_done (Done k) = true

abbrev pub flag : List Bool → ℕ → Bool
flag done w = slice_index_or done w false

-- a flag for each window: whether it is committed
pub record AreDone (task : Task) (m : Machine) (done : List Bool) : Type 0 where
  pub each_window : length done ≡ window_count task.plan
  pub flags : (w : ℕ) → w < window_count task.plan → flag done w ≡ is_done (m.phase w)

abbrev pub is_based_on : Origin → Option ℕ → Bool → Bool
is_based_on Guess found done = false
is_based_on (Ticket k) found done = done && is_this found k

-- it names the ticket of a committed window
abbrev pub is_based : TicketBook → List Bool → Support → Bool
is_based book done s = is_based_on s.origin (standing book s.source) (flag done s.source)

-- a window with a result that isn't committed, and that rests on committed windows alone
abbrev pub can_commit : TicketBook → List Bool → ℕ → Bool
can_commit book done w = (not (flag done w) && is_some_ticket (standing book w))
    && list_all (is_based book done) (supports_at book w)

abbrev pub CommitLaw : Type 0
CommitLaw =
    (task : Task) (retries : ℕ) (events : List Event) (book : TicketBook) (done : List Bool)
    (w : ℕ) → PlanLaws task.graph task.tags task.plan → IsHistory task retries events →
    IsBookOf task retries events book → AreDone task (reached task events) done →
    can_commit book done w ≡ true ↔ CanCommit task (reached task events) w

-- the commit that was found is the first turn; or there is none
abbrev pub IsCommitTurn : Task → ℕ → Machine → TicketBook → Option ℕ → Type 0
IsCommitTurn task retries m book None = NoCommit task m
IsCommitTurn task retries m book (Some w) =
    (k : ℕ) × (standing book w ≡ Some k) × IsEnabled task retries m (Committed k w)
    × IsFirstTurn task retries m (Committed k w)

abbrev pub FirstCommitLaw : Type 0
FirstCommitLaw =
    (task : Task) (retries : ℕ) (events : List Event) (book : TicketBook)
    (done : List Bool) (found : Option ℕ) → PlanLaws task.graph task.tags task.plan →
    IsHistory task retries events →
    IsBookOf task retries events book → AreDone task (reached task events) done →
    NoDrop (reached task events) → NoComparison task (reached task events) →
    IsLeast (λ w. can_commit book done w ≡ true) found →
    IsCommitTurn task retries (reached task events) book found

-- ---- claims

-- a waiting window whose last slot is among those that have arrived, and which has a retry left or
-- rests on committed windows alone
abbrev pub can_claim_in : WindowPlan → ℕ → ℕ → TicketBook → List Bool → ℕ → Bool
can_claim_in plan retries arrived book done w =
    (is_none (entry_at book w).live && nat_lt (window_at plan w).last arrived)
    && (nat_lt (entry_at book w).taken retries || list_all (flag done) (entry_at book w).deps)

abbrev pub can_claim : Task → ℕ → ℕ → TicketBook → List Bool → ℕ → Bool
can_claim task retries arrived book done w = can_claim_in task.plan retries arrived book done w

abbrev pub ClaimLaw : Type 0
ClaimLaw =
    (task : Task) (retries : ℕ) (events : List Event) (book : TicketBook) (done : List Bool)
    (w : ℕ) → PlanLaws task.graph task.tags task.plan → IsHistory task retries events →
    IsBookOf task retries events book → AreDone task (reached task events) done →
    w < window_count task.plan →
    can_claim task retries (reached task events).arrived book done w
    ≡ true ↔ CanClaim task retries (reached task events) w

-- the claim that was found is the first turn, whatever its guesses; or there is none
abbrev pub IsClaimTurn : Task → ℕ → Machine → Option ℕ → Type 0
IsClaimTurn task retries m None = NoClaim task retries m
IsClaimTurn task retries m (Some w) = CanClaim task retries m w × ((k : ℕ) (links : List Link) →
    IsFirstTurn task retries m (Claimed k w links))

abbrev pub FirstClaimLaw : Type 0
FirstClaimLaw =
    (task : Task) (retries : ℕ) (events : List Event) (book : TicketBook)
    (done : List Bool) (found : Option ℕ) → PlanLaws task.graph task.tags task.plan →
    IsHistory task retries events →
    IsBookOf task retries events book → AreDone task (reached task events) done →
    NoDrop (reached task events) → NoComparison task (reached task events) →
    NoCommit task (reached task events) → NoRelease task (reached task events) →
    IsLeast (λ w. (w < window_count task.plan)
    × (can_claim task retries (reached task events).arrived book done w ≡ true)) found →
    IsClaimTurn task retries (reached task events) found
