-- The decoder that never guesses: what it may do at each step, and its runs. It is what the product
-- is measured by: every log has to be one of its runs. Slots arrive in order; a window is committed
-- once its last slot has arrived and its dependencies are committed; a conditional operation is
-- released once no later commit can change its bit. The order of steps and the choice among sets of
-- equal weight are free.
use Rattle.std.specs.Prelude.{◌≡◌, ℕ, ◌+◌, ◌<◌, ◌≤◌, Bool, ◌==◌, if◌then◌else◌, List, [], ◌∷◌, length, All, Option, Some, None, IsSome, IsNone, unwrap_or, slice_index, slice_index_or, filter, flat_map}
use Rattle.std.specs.List.{list_any, range_with_len}
use Rattle.std.specs.Bool.{⊤}
use Rattle.graph_model.specs.Parity.{◌⊕◌, parity}
use Rattle.graph_model.specs.Graph.{DetectorGraph, ends_at, boundary, flips, flip_of, weight_at, is_in}
use Rattle.graph_model.specs.Corrections.{IsLeastCorrection}
use Rattle.graph_model.specs.declared.Tag.{Tag}
use Rattle.window_model.specs.Windows.{WindowPlan, window_at, window_count, all_below}

-- a conditional operation: the slot that it stands in, and the observables whose exclusive or it
-- needs
pub record Operation : Type 0 where
  pub slot : ℕ
  pub labels : List ℕ

-- what is decoded: a graph under a plan. Each observable has its raw bits in one slot, and the
-- slots go from 0 to `last_slot`
pub record Task : Type 0 where
  pub graph : DetectorGraph
  pub tags : List Tag
  pub plan : WindowPlan
  pub operations : List Operation
  pub raw_slots : List ℕ
  pub last_slot : ℕ

-- what was measured: the values of the detectors, and the raw values of the observables, before any
-- correction
pub record Syndrome : Type 0 where
  pub value : ℕ → Bool
  pub raw : ℕ → Bool

-- a slot arrives; a window is committed with the edges that it keeps; an operation is released with
-- its bit
pub data Step : Type 0 where
  Arrive : (slot : ℕ) → Step
  Commit : (window : ℕ) → (set : List ℕ) → Step
  Release : (operation : ℕ) → (bit : Bool) → Step

-- how many slots have arrived, the edges of each committed window, and the bit of each released
-- operation
pub record Decoder : Type 0 where
  pub arrived : ℕ
  pub kept : ℕ → Option (List ℕ)
  pub released : ℕ → Option Bool

abbrev pub start : Decoder
start = record { arrived = 0; kept = λ _. None; released = λ _. None }

-- the function with another value at one number
abbrev pub set_at : {X : Type 0} → (ℕ → X) → ℕ → X → ℕ → X
set_at f n x m = if m == n then x else f m

-- what each step does
abbrev pub after : Decoder → Step → Decoder
after d (Arrive slot) = record d { arrived = d.arrived + 1 }
after d (Commit window set) = record d { kept = set_at d.kept window (Some set) }
after d (Release operation bit) = record d { released = set_at d.released operation (Some bit) }

abbrev pub after_all : Decoder → List Step → Decoder
after_all d [] = d
after_all d (step ∷ steps) = after_all (after d step) steps

-- ---- reading a task and a state

abbrev pub operation_at : Task → ℕ → Operation
operation_at task op = slice_index_or task.operations op (record { slot = 0; labels = [] })

-- the committed edges of a window: none before it is committed
abbrev pub kept_of : Decoder → ℕ → List ℕ
kept_of d window = unwrap_or (d.kept window) []

-- all the committed edges
abbrev pub committed_edges : Task → Decoder → List ℕ
committed_edges task d = flat_map (kept_of d) (range_with_len 0 (window_count task.plan))

-- the windows that own an edge whose mask has an odd number of the operation's observables: their
-- commits can change its bit
abbrev pub needs : Task → ℕ → List ℕ
needs task op = all_below (window_count task.plan) (λ w. list_any (λ e.
    parity (λ l. flips task.graph l e) (operation_at task op).labels) (window_at task.plan w).owned)

-- the incoming defect at a detector: its value, less what the sets of the window's dependencies
-- explain of it
abbrev pub incoming : Task → Syndrome → (ℕ → List ℕ) → ℕ → ℕ → Bool
incoming task s sets window v =
    s.value v ⊕ parity (λ x. boundary task.graph (sets x) v) (window_at task.plan window).deps

-- a least set for the window, where its dependencies have these sets
abbrev pub IsLeastFor : Task → Syndrome → (ℕ → List ℕ) → ℕ → List ℕ → Type 0
IsLeastFor task s sets window set =
    IsLeastCorrection (ends_at task.graph) (weight_at task.graph) (window_at task.plan
    window).detectors (window_at task.plan window).edges (incoming task s sets window) set

-- of a set of edges those that the window owns: what it commits
abbrev pub owned_part : Task → ℕ → List ℕ → List ℕ
owned_part task window set = filter (is_in (window_at task.plan window).owned) set

-- the raw values of the operation's observables, with what the committed edges flip
abbrev pub release_bit : Task → Syndrome → Decoder → ℕ → Bool
release_bit task s d op = parity (λ l. s.raw l ⊕ flip_of task.graph (committed_edges task d) l)
    (operation_at task op).labels

-- ---- the steps that are allowed

-- the next slot, once every operation of that slot or an earlier one is released
pub record MayArrive (task : Task) (d : Decoder) (slot : ℕ) : Type 0 where
  pub next : slot ≡ d.arrived
  pub in_range : slot ≤ task.last_slot
  pub released : (op : ℕ) → op < length task.operations → (operation_at task op).slot ≤ slot →
      IsSome (d.released op)

-- the owned edges of some least set, once the window's last slot has arrived and its dependencies
-- are committed
pub record MayCommit (task : Task) (s : Syndrome) (d : Decoder) (window : ℕ)
    (set : List ℕ) : Type 0 where
  pub in_range : window < window_count task.plan
  pub open_ : IsNone (d.kept window)
  pub arrived : (window_at task.plan window).last < d.arrived
  pub deps : All (λ x. IsSome (d.kept x)) (window_at task.plan window).deps
  pub least : (whole : List ℕ) × IsLeastFor task s (kept_of d) window whole
      × (set ≡ owned_part task window whole)

-- the raw value of an observable has arrived: the observable is one of the task's, and its slot has
-- arrived
pub record HasRaw (task : Task) (d : Decoder) (l : ℕ) : Type 0 where
  pub in_range : l < length task.raw_slots
  pub arrived : slice_index task.raw_slots l < d.arrived

-- the operation's bit, once the windows that it needs are committed and the raw values of its
-- observables have arrived
pub record MayRelease (task : Task) (s : Syndrome) (d : Decoder) (op : ℕ)
    (bit : Bool) : Type 0 where
  pub in_range : op < length task.operations
  pub open_ : IsNone (d.released op)
  pub needs_kept : All (λ w. IsSome (d.kept w)) (needs task op)
  pub raw_arrived : All (HasRaw task d) (operation_at task op).labels
  pub value : bit ≡ release_bit task s d op

abbrev pub IsAllowed : Task → Syndrome → Decoder → Step → Type 0
IsAllowed task s d (Arrive slot) = MayArrive task d slot
IsAllowed task s d (Commit window set) = MayCommit task s d window set
IsAllowed task s d (Release op bit) = MayRelease task s d op bit

-- each step is allowed after those before it
abbrev pub IsRunFrom : Task → Syndrome → Decoder → List Step → Type 0
IsRunFrom task s d [] = ⊤
IsRunFrom task s d (step ∷ steps) = IsAllowed task s d step × IsRunFrom task s (after d step) steps

-- a run from the start on
abbrev pub IsRun : Task → Syndrome → List Step → Type 0
IsRun task s steps = IsRunFrom task s start steps
