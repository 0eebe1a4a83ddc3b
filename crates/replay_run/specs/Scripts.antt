-- A script without fault.
use Rattle.std.specs.Prelude.{◌≡◌, ℕ, List, Option, None}
use Rattle.window_model.specs.Speculation.{Event}
use Rattle.replay_model.specs.Replays.{IsReplay, Stage}
use Rattle.replay_model.specs.Scripts.{script_of}

-- whichever results come of those that may, no line of the script is at fault
abbrev pub IsFaultless : Stage → (first : ℕ) → (script : List ℕ) → Type 0
IsFaultless stage first script =
    (events : List Event) (printed : List ℕ) (fault : Option ℕ) →
    IsReplay stage (script_of first script) first events printed fault → fault ≡ None
