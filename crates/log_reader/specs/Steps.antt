-- What the words of a line spell.
use Rattle.std.specs.Prelude.{◌≡◌, ℕ, List, map, decimal, All, Option, None, Some, Result, Ok, Err}
use Rattle.std.specs.List.Sorted.{IsStrictlyIncreasing}
use Rattle.report_model.specs.Logs.{LoggedStep, Arrived, Committed, Released, IsFirstOutside, IsLogged, IsLogNumber, words_of}
use Rattle.log_reader.specs.declared.step.LogStep.{LogStep}
use Rattle.log_reader.specs.declared.step.LogStep.TheVariants as read
use Rattle.log_reader.specs.declared.error.LogError.{LogError}
use Rattle.log_reader.specs.declared.error.LogError.TheVariants.{Fault, Memory}

-- a step as it is read, in the words of logs
abbrev pub step_of : LogStep → LoggedStep
step_of (read.Arrive slot) = Arrived slot
step_of (read.Commit window edges) = Committed window edges
step_of (read.Released label bit) = Released label bit

-- these words are the step's, or those of no step
abbrev pub IsStepIn : List (List ℕ) → Option LogStep → Type 0
IsStepIn words (Some step) = (words ≡ words_of (step_of step)) × IsLogged (step_of step)
IsStepIn words None = (step : LoggedStep) → IsLogged step → words ≡ words_of step → ⊥

-- numbers of a log, each above those before it
pub record AreEdges (edges : List ℕ) : Type 0 where
  pub each : All IsLogNumber edges
  pub rising : IsStrictlyIncreasing edges

-- these words are those of the edges, or of no edges
abbrev pub IsSetIn : List (List ℕ) → Option (List ℕ) → Type 0
IsSetIn words (Some edges) = (words ≡ map decimal edges) × AreEdges edges
IsSetIn words None = (edges : List ℕ) → AreEdges edges → words ≡ map decimal edges → ⊥

-- the refusal is the text's
abbrev pub IsRefusal : List ℕ → LogError → Type 0
IsRefusal text (Fault line) = IsFirstOutside text line
IsRefusal text Memory = Unit {0}

-- the steps are read, but for want of memory
abbrev pub AreReadAs : {A : Type 0} → (A → List LoggedStep) → List LoggedStep → Result A LogError →
    Type 0
AreReadAs steps_in steps (Ok found) = steps_in found ≡ steps
AreReadAs steps_in steps (Err (Fault line)) = ⊥
AreReadAs steps_in steps (Err Memory) = Unit {0}
