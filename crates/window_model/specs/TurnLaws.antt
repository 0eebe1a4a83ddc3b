-- Which turn is the first: it is enough that no turn of an earlier kind is enabled, and none of its
-- own kind at lesser numbers.
use Rattle.std.specs.Prelude.{◌≡◌, ◌≢◌, ◌<◌, ◌⊎◌, ℕ, Bool, List, ◌++◌, [], ◌∷◌}
use Rattle.std.specs.Bool.{⊤}
use Rattle.window_model.specs.Decoder.{Task, MayRelease}
use Rattle.window_model.specs.Speculation.{Link, Machine, Running, Event, Verified, Poisoned, Dropped, Committed, Released, Claimed, MayClaim, Compares, IsOrphan, MayCommitTicket, start, syndrome_of, decoder_of, happen_all, IsHistory, IsTurn, IsEnabled, IsFirstTurn, IsOrderedFrom, IsQuiet}

-- a guess of window w about x can be compared
abbrev pub CanCompare : Task → Machine → ℕ → ℕ → Type 0
CanCompare task m x w = (guess : List Bool) × (flips : List Bool) × Compares task m x w guess flips

abbrev pub CanCommit : Task → Machine → ℕ → Type 0
CanCommit task m w = (k : ℕ) × MayCommitTicket task m k w

abbrev pub CanRelease : Task → Machine → ℕ → Type 0
CanRelease task m op = (bit : Bool) × MayRelease task (syndrome_of m) (decoder_of task m) op bit

abbrev pub CanClaim : Task → ℕ → Machine → ℕ → Type 0
CanClaim task retries m w = (k : ℕ) × (links : List Link) × MayClaim task retries m k w links

-- ---- no turn of a kind is enabled

abbrev pub NoDrop : Machine → Type 0
NoDrop m = (w : ℕ) → ¬ IsOrphan m w

abbrev pub NoComparison : Task → Machine → Type 0
NoComparison task m = (x w : ℕ) → ¬ CanCompare task m x w

abbrev pub NoCommit : Task → Machine → Type 0
NoCommit task m = (w : ℕ) → ¬ CanCommit task m w

abbrev pub NoRelease : Task → Machine → Type 0
NoRelease task m = (op : ℕ) → ¬ CanRelease task m op

abbrev pub NoClaim : Task → ℕ → Machine → Type 0
NoClaim task retries m = (w : ℕ) → ¬ CanClaim task retries m w

-- no comparison is enabled at a lesser window, or at this one and a lesser source
abbrev pub NoComparisonBefore : Task → Machine → ℕ → ℕ → Type 0
NoComparisonBefore task m x w = (z y : ℕ) → (y < w) ⊎ ((y ≡ w) × (z < x)) → ¬ CanCompare task m z y

-- no turn of an earlier kind is enabled, and none of the event's own kind at lesser numbers
abbrev pub NoneBefore : Task → ℕ → Machine → Event → Type 0
NoneBefore task retries m (Dropped w) = (y : ℕ) → y < w → ¬ IsOrphan m y
NoneBefore task retries m (Verified x w) = NoDrop m × NoComparisonBefore task m x w
NoneBefore task retries m (Poisoned x w) = NoDrop m × NoComparisonBefore task m x w
NoneBefore task retries m (Committed k w) = NoDrop m × NoComparison task m
    × ((y : ℕ) → y < w → ¬ CanCommit task m y)
NoneBefore task retries m (Released op bit) =
    NoDrop m × NoComparison task m × NoCommit task m × ((o : ℕ) → o < op → ¬ CanRelease task m o)
NoneBefore task retries m (Claimed k w links) =
    NoDrop m × NoComparison task m × NoCommit task m × NoRelease task m
    × ((y : ℕ) → y < w → ¬ CanClaim task retries m y)
NoneBefore task retries m _ = ⊤

-- Then the event is the first turn.
abbrev pub FirstTurnLaw : Type 0
FirstTurnLaw = (task : Task) (retries : ℕ) (m : Machine) (event : Event) →
    NoneBefore task retries m event → IsFirstTurn task retries m event

-- Where nothing runs and no turn of any kind is enabled, all is quiet.
abbrev pub IdleLaw : Type 0
IdleLaw =
    (task : Task) (retries : ℕ) (m : Machine) → ((w k : ℕ) → m.phase w ≢ Running k) → NoDrop m →
    NoComparison task m → NoCommit task m → NoRelease task m →
    NoClaim task retries m → IsQuiet task retries m

-- An ordered history is a history.
abbrev pub OrderedLaw : Type 0
OrderedLaw = (task : Task) (retries : ℕ) (events : List Event) →
    IsOrderedFrom task retries start events → IsHistory task retries events

-- An event that is enabled at the end, and first if it is a turn, makes a longer ordered history.
abbrev pub OneMoreLaw : Type 0
OneMoreLaw =
    (task : Task) (retries : ℕ) (events : List Event) (event : Event) →
    IsOrderedFrom task retries start events →
    IsEnabled task retries (happen_all task start events) event →
    (IsTurn event → IsFirstTurn task retries (happen_all task start events) event) →
    IsOrderedFrom task retries start (events ++ event ∷ [])
