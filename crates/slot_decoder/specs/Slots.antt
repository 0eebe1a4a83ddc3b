-- The decoder slot by slot: what is seen of its core, what holds of it between slots, and what one
-- more slot does.
use Rattle.std.specs.Prelude.{◌≡◌, ◌≢◌, ◌<◌, ◌≤◌, ◌+◌, ◌++◌, ℕ, Bool, true, false, List, ◌∷◌, All, Option, None, Some, filter_map, length, map}
use Rattle.std.specs.Bool.{⊤}
use Rattle.window_model.specs.declared.GuessView.{GuessView}
use Rattle.window_model.specs.Decoder.{Syndrome, Step, Arrive, Commit, Release}
use Rattle.window_model.specs.Progress.{Progress, Fits}
use Rattle.window_model.specs.Speculation.{Event, Arrived, Running, IsQuiet, IsTurn, visible}
use Rattle.window_setting.specs.Slots.{at_slot, detector_slots}
use Rattle.core_state.specs.States.{CoreTable, MayHappen, events_of, machine_of}
use Rattle.slot_decoder.specs.Histories.{AreGuessedFrom, DecoderView}

-- what is seen of a core
abbrev pub progress_of : CoreTable → Progress
progress_of c = record {
  task = c.task;
  arrived = (machine_of c).arrived;
  values = c.kept.values;
  raws = c.kept.raws;
  steps = visible c.task (events_of c);
}

abbrev pub view_of : CoreTable → DecoderView
view_of c = record { progress = progress_of c; retries = c.retries; events = events_of c }

-- the operation that a step releases, with its bit
abbrev pub released_by : Step → Option (ℕ × Bool)
released_by (Arrive slot) = None
released_by (Commit window set) = None
released_by (Release operation bit) = Some (operation, bit)

-- the operations that are released, with their bits, in the order of their releases
abbrev pub releases_in : List Step → List (ℕ × Bool)
releases_in steps = filter_map released_by steps

abbrev pub NoneRuns : CoreTable → Type 0
NoneRuns c = (w k : ℕ) → (machine_of c).phase w ≢ Running k

-- each ticket that was claimed has had an answer
abbrev pub AllAnswered : CoreTable → Type 0
AllAnswered c = (k : ℕ) → k < (machine_of c).tickets → ((machine_of c).claim k).closed ≡ true

-- nothing is decoded, and no answer is due
pub record IsIdle (c : CoreTable) : Type 0 where
  pub none_runs : NoneRuns c
  pub answered : AllAnswered c

abbrev pub AreReleases : CoreTable → List (ℕ × Bool) → Type 0
AreReleases c releases = releases ≡ releases_in (visible c.task (events_of c))

abbrev pub AllQuiet : CoreTable → Type 0
AllQuiet c = IsQuiet c.task c.retries (machine_of c)

-- What holds between slots: nothing runs, no answer is due, and no turn is left; and these are the
-- releases.
pub record IsAtRest (c : CoreTable) (releases : List (ℕ × Bool)) : Type 0 where
  pub in_range : (machine_of c).arrived ≤ c.task.last_slot + 1
  pub quiet : AllQuiet c
  pub answered : AllAnswered c
  pub releases_are : AreReleases c releases

-- ---- one more slot

-- the step is a commit or a release
abbrev pub IsNoArrival : Step → Type 0
IsNoArrival (Arrive slot) = ⊥
IsNoArrival (Commit window set) = ⊤
IsNoArrival (Release operation bit) = ⊤

-- One more slot arrives with the values of its detectors and the raw values of its observables, in
-- order. Then windows are committed and operations released.
pub record IsArrival (old : Progress) (values raws : List Bool) (new : Progress) : Type 0 where
  pub task : new.task ≡ old.task
  pub arrived : new.arrived ≡ old.arrived + 1
  pub later : List Step
  pub none_arrives : All IsNoArrival later
  pub steps : new.steps ≡ old.steps ++ Arrive old.arrived ∷ later
  pub fits : (s : Syndrome) → Fits s old →
      values ≡ map s.value (at_slot (detector_slots old.task) old.arrived) →
      raws ≡ map s.raw (at_slot old.task.raw_slots old.arrived) → Fits s new

-- ---- what a core does of itself

-- the event brings no slot
abbrev pub BringsNoSlot : Event → Type 0
BringsNoSlot (Arrived t values raws) = ⊥
BringsNoSlot _ = ⊤

-- Events happened that bring no slot, with guesses that may be made.
pub record HasGoneOn (may_guess : GuessView → Bool → Type 0) (old new : CoreTable) : Type 0 where
  pub task : new.task ≡ old.task
  pub retries : new.retries ≡ old.retries
  pub more : List Event
  pub events : events_of new ≡ events_of old ++ more
  pub none_brings : All BringsNoSlot more
  pub guessed : AreGuessedFrom may_guess old.task (machine_of old) more

abbrev pub NoTurn : CoreTable → Type 0
NoTurn c = (event : Event) → IsTurn event → ¬ MayHappen c event

-- A turn was made, and if it was a claim, its answer is held; these are the releases now.
pub record HasStepped (may_guess : GuessView → Bool → Type 0) (old new : CoreTable)
    (releases : List (ℕ × Bool)) : Type 0 where
  pub on : HasGoneOn may_guess old new
  pub some : 1 ≤ length on.more
  pub idle : IsIdle new
  pub releases_are : AreReleases new releases

-- a turn was made; or none is left, and all is as before
abbrev pub IsStepped : (GuessView → Bool → Type 0) → (old new : CoreTable) →
    (before releases : List (ℕ × Bool)) → Bool → Type 0
IsStepped may_guess old new before releases true = HasStepped may_guess old new releases
IsStepped may_guess old new before releases false =
    (new ≡ old) × (releases ≡ before) × NoTurn old
