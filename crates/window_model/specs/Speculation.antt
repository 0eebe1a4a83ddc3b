-- The speculative decoder: a window may be decoded before its dependencies are, on guesses of what
-- their commits will do to its defects. A claim of a window makes a ticket, with a link for each
-- dependency: the flips of a result that stands, or guessed bits. When the dependency's result
-- comes, a guess is compared with it: where they are equal the link names that result from then on
-- (it is verified), and else the window is poisoned and waits again. A window whose link names a
-- result that no longer stands is dropped. It is committed only where every link names the result
-- of a committed window, so nothing that shows rests on a guess.
use Rattle.std.specs.Prelude.{◌≡◌, ◌≢◌, ℕ, ◌+◌, ◌<◌, Bool, true, false, ◌==◌, if◌then◌else◌, ◌⊎◌, List, [], ◌∷◌, ◌++◌, length, map, All, Any, Option, Some, None, IsSome, MatchOption, option_map, fold, find, take, unwrap_or, slice_index, slice_index_or, count_by}
use Rattle.std.specs.Bool.{⊤}
use Rattle.std.specs.Ordering.{nat_cmp}
use Rattle.std.specs.Cmp.Lexicographic.{slice_cmp}
use Rattle.std.specs.declared.cmp.Ordering.TheVariants.{Less}
use Rattle.graph_model.specs.Parity.{◌⊕◌, parity}
use Rattle.graph_model.specs.Graph.{ends_at, boundary, weight_at}
use Rattle.graph_model.specs.Corrections.{IsLeastCorrection}
use Rattle.graph_model.specs.declared.Tag.{Tag}
use Rattle.window_model.specs.declared.Origin.{Origin}
use Rattle.window_model.specs.declared.Origin.TheVariants.{Guess, Ticket}
use Rattle.window_model.specs.Windows.{window_at, window_count, places, slot_of, all_below}
use Rattle.window_model.specs.Decoder.{Task, Syndrome, Step, Arrive, Commit, Release, Decoder, set_at, owned_part, MayArrive, MayRelease}

abbrev pub is_guess : Origin → Bool
is_guess Guess = true
is_guess (Ticket number) = false

-- what a ticket takes for the flips of one dependency: a bit for each place
pub record Link : Type 0 where
  pub source : ℕ
  pub origin : Origin
  pub bits : List Bool

-- one claim of a window. It is closed once it has a result or was found stale
pub record Claim : Type 0 where
  pub window : ℕ
  pub links : List Link
  pub result : Option (List ℕ)
  pub closed : Bool

-- a window waits, its claim's problem is decoded, its result is held, or it is committed; but for
-- the first it has a ticket
pub data Phase : Type 0 where
  Waiting : Phase
  Running : (ticket : ℕ) → Phase
  Held : (ticket : ℕ) → Phase
  Done : (ticket : ℕ) → Phase

-- How many slots have arrived, with the values that they brought; how many tickets are taken, with
-- the claim of each; each window's phase and how often it was given up; and the bits released
pub record Machine : Type 0 where
  pub arrived : ℕ
  pub value : ℕ → Bool
  pub raw : ℕ → Bool
  pub tickets : ℕ
  pub claim : ℕ → Claim
  pub phase : ℕ → Phase
  pub poisons : ℕ → ℕ
  pub released : ℕ → Option Bool

-- what may happen: a slot arrives with its values; a window is claimed, which makes a ticket; a
-- ticket's result returns, or is stale, since its window runs another or none; a guess of `window`
-- about `source` is verified, or poisons it; a window is dropped, or committed with a ticket's
-- result; an operation is released
pub data Event : Type 0 where
  Arrived : (slot : ℕ) → (values raws : List Bool) → Event
  Claimed : (ticket window : ℕ) → (links : List Link) → Event
  Returned : (ticket : ℕ) → (set : List ℕ) → Event
  Stale : (ticket : ℕ) → Event
  Verified : (source window : ℕ) → Event
  Poisoned : (source window : ℕ) → Event
  Dropped : (window : ℕ) → Event
  Committed : (ticket window : ℕ) → Event
  Released : (operation : ℕ) → (bit : Bool) → Event

-- ---- reading a machine

-- the ticket of a window that is held or done, whose result stands
abbrev pub standing : Phase → Option ℕ
standing Waiting = None
standing (Running k) = None
standing (Held k) = Some k
standing (Done k) = Some k

-- the ticket of a window that is running or held, which may still be given up
abbrev pub pending : Phase → Option ℕ
pending Waiting = None
pending (Running k) = Some k
pending (Held k) = Some k
pending (Done k) = None

-- the ticket of a window that is done
abbrev pub done : Phase → Option ℕ
done Waiting = None
done (Running k) = None
done (Held k) = None
done (Done k) = Some k

-- the ticket of a window that is not waiting
abbrev pub held_by : Phase → Option ℕ
held_by Waiting = None
held_by (Running k) = Some k
held_by (Held k) = Some k
held_by (Done k) = Some k

abbrev pub sources_of : List Link → List ℕ
sources_of links = map (λ (link : Link). link.source) links

-- the result of a ticket; nothing before it has returned
abbrev pub result_of : Machine → ℕ → List ℕ
result_of m k = unwrap_or (m.claim k).result []

-- the flips of a set of window x at the places that window w shares with it
abbrev pub flips_at : Task → ℕ → ℕ → List ℕ → List Bool
flips_at task x w set =
    map (boundary task.graph (owned_part task x set)) (places task.graph task.plan x w)

-- the bit of a detector, where these bits stand at these places
abbrev pub bit_at : List ℕ → List Bool → ℕ → Bool
bit_at [] bits v = false
bit_at (place ∷ places) [] v = false
bit_at (place ∷ places) (bit ∷ bits) v = if place == v then bit else bit_at places bits v

-- the defects of a claim's problem: the detector values, less what its links explain
abbrev pub defect_of : Task → (ℕ → Bool) → Claim → ℕ → Bool
defect_of task value claim v = value v ⊕ parity (λ link.
    bit_at (places task.graph task.plan link.source claim.window) link.bits v) claim.links

-- a least set for the claim's problem
abbrev pub IsLeastResult : Task → (ℕ → Bool) → Claim → List ℕ → Type 0
IsLeastResult task value claim set =
    IsLeastCorrection (ends_at task.graph) (weight_at task.graph)
    (window_at task.plan claim.window).detectors (window_at task.plan claim.window).edges
    (defect_of task value claim) set

-- what is committed so far
abbrev pub decoder_of : Task → Machine → Decoder
decoder_of task m = record {
  arrived = m.arrived;
  kept = λ w. option_map (λ k. owned_part task w (result_of m k)) (done (m.phase w));
  released = m.released;
}

-- the values and the raw values, as the observations of the decoder
abbrev pub syndrome_of : Machine → Syndrome
syndrome_of m = record { value = m.value; raw = m.raw }

-- ---- what each event does

abbrev pub start : Machine
start = record {
  arrived = 0;
  value = λ v. false;
  raw = λ l. false;
  tickets = 0;
  claim = λ k. record { window = 0; links = []; result = None; closed = false };
  phase = λ w. Waiting;
  poisons = λ w. 0;
  released = λ op. None;
}

-- how many are in slot t
abbrev pub count_in : List ℕ → ℕ → ℕ
count_in slots t = count_by (λ u. u == t) slots

-- how many of slot t stand before number n: the place of n among those of its slot
abbrev pub place_in : List ℕ → ℕ → ℕ → ℕ
place_in slots t n = count_in (take n slots) t

abbrev pub detector_slots : Task → List ℕ
detector_slots task = map (λ (tag : Tag). tag.slot) task.tags

-- the values of a slot's detectors, or observables, written over those of before
abbrev pub with_slot : List ℕ → ℕ → List Bool → (ℕ → Bool) → ℕ → Bool
with_slot slots t new old n = if slice_index slots n == t
    then slice_index_or new (place_in slots t n) false else old n

-- the links, where the one to x names the ticket from now on
abbrev pub with_ticket : ℕ → ℕ → List Link → List Link
with_ticket x k [] = []
with_ticket x k (link ∷ links) =
    if link.source == x then record { source = link.source; origin = Ticket k; bits = link.bits }
    ∷ links else link ∷ with_ticket x k links

-- where window w's ticket and the standing ticket of x are these: the link to x names the latter
abbrev pub confirm : Machine → ℕ → Option ℕ → Option ℕ → Machine
confirm m x (Some k) (Some j) = record m
    { claim = set_at m.claim k (record (m.claim k) { links = with_ticket x j (m.claim k).links }) }
confirm m x (Some k) None = m
confirm m x None found = m

-- the window waits again, and its poisons are one more
abbrev pub give_up : Machine → ℕ → Machine
give_up m w = record m {
  phase = set_at m.phase w Waiting;
  poisons = set_at m.poisons w (m.poisons w + 1);
}

-- the ticket is closed, with this result
abbrev pub close_with : Machine → ℕ → Option (List ℕ) → ℕ → Claim
close_with m k result = set_at m.claim k (record (m.claim k) { result = result; closed = true })

-- the machine after an event
abbrev pub happens : Task → Machine → Event → Machine
happens task m (Arrived t values raws) = record m {
  arrived = m.arrived + 1;
  value = with_slot (detector_slots task) t values m.value;
  raw = with_slot task.raw_slots t raws m.raw;
}
happens task m (Claimed k w links) = record m {
  tickets = m.tickets + 1;
  claim = set_at m.claim k (record { window = w; links = links; result = None; closed = false });
  phase = set_at m.phase w (Running k);
}
happens task m (Returned k set) = record m {
  claim = close_with m k (Some set);
  phase = set_at m.phase (m.claim k).window (Held k);
}
happens task m (Stale k) = record m { claim = close_with m k (m.claim k).result }
happens task m (Verified x w) = confirm m x (pending (m.phase w)) (standing (m.phase x))
happens task m (Poisoned x w) = give_up m w
happens task m (Dropped w) = give_up m w
happens task m (Committed k w) = record m { phase = set_at m.phase w (Done k) }
happens task m (Released op bit) = record m { released = set_at m.released op (Some bit) }

-- ---- when an event is enabled

-- a new link: the standing result of the source, or else any bits
abbrev pub IsNewLink : Task → Machine → ℕ → Link → Type 0
IsNewLink task m w link =
    MatchOption (standing (m.phase link.source))
    ((link.origin ≡ Guess)
    × (length link.bits ≡ length (places task.graph task.plan link.source w)))
    (λ k. (link.origin ≡ Ticket k) × (link.bits ≡ flips_at task link.source w (result_of m k)))

-- a waiting window whose last slot has arrived, and which was given up fewer than `retries` times
-- or has only committed dependencies
pub record MayClaim (task : Task) (retries : ℕ) (m : Machine) (k w : ℕ)
    (links : List Link) : Type 0 where
  pub number : k ≡ m.tickets
  pub in_range : w < window_count task.plan
  pub waiting : m.phase w ≡ Waiting
  pub arrived : (window_at task.plan w).last < m.arrived
  pub allowed : (m.poisons w < retries)
      ⊎ All (λ x. IsSome (done (m.phase x))) (window_at task.plan w).deps
  pub sources : map (λ (link : Link). link.source) links ≡ (window_at task.plan w).deps
  pub new : All (IsNewLink task m w) links

-- a least set for the problem of a ticket that its window runs
pub record MayReturn (task : Task) (m : Machine) (k : ℕ) (set : List ℕ) : Type 0 where
  pub taken : k < m.tickets
  pub running : m.phase (m.claim k).window ≡ Running k
  pub least : IsLeastResult task m.value (m.claim k) set

-- a ticket that is not closed and that its window no longer runs
pub record MayBeStale (m : Machine) (k : ℕ) : Type 0 where
  pub taken : k < m.tickets
  pub open_ : (m.claim k).closed ≡ false
  pub other : m.phase (m.claim k).window ≢ Running k

-- window w, which is running or held, guesses at x, which has a standing result: the bits of the
-- guess, and the flips of the result
pub record Compares (task : Task) (m : Machine) (x w : ℕ) (guess flips : List Bool) : Type 0 where
  pub own : ℕ
  pub is_pending : pending (m.phase w) ≡ Some own
  pub guessed : find (λ link. link.source == x) (m.claim own).links
      ≡ Some (record { source = x; origin = Guess; bits = guess })
  pub other : ℕ
  pub is_standing : standing (m.phase x) ≡ Some other
  pub result : flips ≡ flips_at task x w (result_of m other)

-- window w, which is running or held, has a link to a ticket that no longer stands
pub record IsOrphan (m : Machine) (w : ℕ) : Type 0 where
  pub own : ℕ
  pub is_pending : pending (m.phase w) ≡ Some own
  pub gone : Any (λ link. (k : ℕ) × (link.origin ≡ Ticket k)
      × (standing (m.phase link.source) ≢ Some k)) (m.claim own).links

-- a held window whose every link names the ticket of a committed window
pub record MayCommitTicket (task : Task) (m : Machine) (k w : ℕ) : Type 0 where
  pub in_range : w < window_count task.plan
  pub held : m.phase w ≡ Held k
  pub based : All (λ link. (j : ℕ) × (link.origin ≡ Ticket j) × (m.phase link.source ≡ Done j))
      (m.claim k).links

-- whether an event may happen now
abbrev pub IsEnabled : Task → ℕ → Machine → Event → Type 0
IsEnabled task retries m (Arrived t values raws) =
    MayArrive task (decoder_of task m) t × (length values ≡ count_in (detector_slots task) t)
    × (length raws ≡ count_in task.raw_slots t)
IsEnabled task retries m (Claimed k w links) = MayClaim task retries m k w links
IsEnabled task retries m (Returned k set) = MayReturn task m k set
IsEnabled task retries m (Stale k) = MayBeStale m k
IsEnabled task retries m (Verified x w) = (bits : List Bool) × Compares task m x w bits bits
IsEnabled task retries m (Poisoned x w) = (guess : List Bool) × (flips : List Bool)
    × Compares task m x w guess flips × (guess ≢ flips)
IsEnabled task retries m (Dropped w) = IsOrphan m w
IsEnabled task retries m (Committed k w) = MayCommitTicket task m k w
IsEnabled task retries m (Released op bit) =
    MayRelease task (syndrome_of m) (decoder_of task m) op bit

-- ---- histories

abbrev pub happen_all : Task → Machine → List Event → Machine
happen_all task m [] = m
happen_all task m (event ∷ events) = happen_all task (happens task m event) events

-- each event is enabled after those before it
abbrev pub IsHistoryFrom : Task → ℕ → Machine → List Event → Type 0
IsHistoryFrom task retries m [] = ⊤
IsHistoryFrom task retries m (event ∷ events) = IsEnabled task retries m event
    × IsHistoryFrom task retries (happens task m event) events

-- a history from the start on
abbrev pub IsHistory : Task → ℕ → List Event → Type 0
IsHistory task retries events = IsHistoryFrom task retries start events

-- what shows in a log: arrivals, commits with the edges that the window owns, and releases
abbrev pub visible_step : Task → Machine → Event → List Step
visible_step task m (Arrived t values raws) = Arrive t ∷ []
visible_step task m (Committed k w) = Commit w (owned_part task w (result_of m k)) ∷ []
visible_step task m (Released op bit) = Release op bit ∷ []
visible_step task m _ = []

abbrev pub visible_from : Task → Machine → List Event → List Step
visible_from task m [] = []
visible_from task m (event ∷ events) = visible_step task m event
    ++ visible_from task (happens task m event) events

abbrev pub visible : Task → List Event → List Step
visible task events = visible_from task start events

-- ---- a syndrome of which slot after slot becomes known

-- the syndrome has the values that have arrived
pub record Agrees (task : Task) (m : Machine) (s : Syndrome) : Type 0 where
  pub value : (v : ℕ) → v < task.graph.vertices → slot_of task.tags v < m.arrived →
      s.value v ≡ m.value v
  pub raw : (l : ℕ) → l < length task.raw_slots → slice_index task.raw_slots l < m.arrived →
      s.raw l ≡ m.raw l

-- the numbers of those that have this slot, ascending
abbrev pub at_slot : List ℕ → ℕ → List ℕ
at_slot slots t = all_below (length slots) (λ i. slice_index slots i == t)

-- an arrival brings the syndrome's values at the slot's detectors, and its raw values of the slot's
-- observables
abbrev pub IsBrought : Task → Syndrome → Event → Type 0
IsBrought task s (Arrived t values raws) =
    (values ≡ map s.value (at_slot (detector_slots task) t))
    × (raws ≡ map s.raw (at_slot task.raw_slots t))
IsBrought task s _ = ⊤

-- ---- the order of turns: drops, comparisons, commits, releases and then claims, each at the least
-- numbers

-- the place of a turn in that order; nothing for the events that are no turns
abbrev pub turn_key : Event → List ℕ
turn_key (Dropped w) = 1 ∷ w ∷ 0 ∷ []
turn_key (Verified x w) = 2 ∷ w ∷ x ∷ []
turn_key (Poisoned x w) = 2 ∷ w ∷ x ∷ []
turn_key (Committed k w) = 3 ∷ w ∷ 0 ∷ []
turn_key (Released op bit) = 4 ∷ op ∷ 0 ∷ []
turn_key (Claimed k w links) = 5 ∷ w ∷ 0 ∷ []
turn_key _ = []

-- the one turn's place is before the other's
abbrev pub ComesBefore : Event → Event → Type 0
ComesBefore one two = slice_cmp nat_cmp (turn_key one) (turn_key two) ≡ Less

-- the event is a turn of the machine itself: it waits for no slot and no result
abbrev pub IsTurn : Event → Type 0
IsTurn event = turn_key event ≢ []

-- no enabled turn comes before this one
abbrev pub IsFirstTurn : Task → ℕ → Machine → Event → Type 0
IsFirstTurn task retries m event = (other : Event) → IsTurn other → IsEnabled task retries m other →
    ¬ ComesBefore other event

-- each event is enabled after those before it, and each turn is then the first
abbrev pub IsOrderedFrom : Task → ℕ → Machine → List Event → Type 0
IsOrderedFrom task retries m [] = ⊤
IsOrderedFrom task retries m (event ∷ events) =
    IsEnabled task retries m event × (IsTurn event → IsFirstTurn task retries m event)
    × IsOrderedFrom task retries (happens task m event) events

-- nothing can be done before the next arrival
pub record IsQuiet (task : Task) (retries : ℕ) (m : Machine) : Type 0 where
  pub none_running : (w k : ℕ) → m.phase w ≢ Running k
  pub no_turn : (event : Event) → IsTurn event → ¬ IsEnabled task retries m event

-- ---- counts

-- how many windows were claimed, how many links of them were guesses, and how often a window was
-- poisoned or dropped and a ticket stale
pub record Counts : Type 0 where
  pub claims : ℕ
  pub guessed : ℕ
  pub poisoned : ℕ
  pub dropped : ℕ
  pub stale : ℕ

abbrev pub guesses_in : List Link → ℕ
guesses_in links = count_by (λ link. is_guess link.origin) links

abbrev pub counted : Counts → Event → Counts
counted c (Claimed k w links) =
    record c { claims = c.claims + 1; guessed = c.guessed + guesses_in links }
counted c (Poisoned x w) = record c { poisoned = c.poisoned + 1 }
counted c (Dropped w) = record c { dropped = c.dropped + 1 }
counted c (Stale k) = record c { stale = c.stale + 1 }
counted c _ = c

abbrev pub counts_of : List Event → Counts
counts_of events =
    fold counted (record { claims = 0; guessed = 0; poisoned = 0; dropped = 0; stale = 0 }) events
