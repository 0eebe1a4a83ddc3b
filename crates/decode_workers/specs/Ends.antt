-- What steps and workers leave of a share.
use Rattle.std.specs.Prelude.{◌≡◌, ◌+◌, ◌<◌, ◌≤◌, ℕ, Bool, true, false, length}
use Rattle.std.specs.Bool.{⊤}
use Rattle.window_model.specs.Decoder.{Task}
use Rattle.window_table.specs.Counts.{RisesBy}
use Rattle.window_table.specs.declared.share.Share.{Share}
use Rattle.decode_workers.specs.declared.step.Step.{Step}
use Rattle.decode_workers.specs.declared.step.Step.TheVariants as step
use Rattle.decode_workers.specs.declared.working.Until.{Until}
use Rattle.decode_workers.specs.declared.working.Until.TheVariants as until
use Rattle.decode_workers.specs.declared.worker.WorkEnd.{WorkEnd}
use Rattle.decode_workers.specs.declared.worker.WorkEnd.TheVariants.{Finished, Memory}

-- one answer more was reported, or none, where memory was wanting
abbrev pub HasAnswered : Bool → Share → Share → Type 0
HasAnswered true old new = new ≡ record { taken = old.taken; reported = old.reported + 1 }
HasAnswered false old new = new ≡ old

-- what was taken was reported; where memory was wanting, one ticket wasn't
abbrev pub HasStepped : Step → Share → Share → Type 0
HasStepped step.Memory old new = RisesBy 1 old new
HasStepped _ old new = RisesBy 0 old new

-- what was taken was reported; where memory was wanting, at most one ticket wasn't
abbrev pub HasEnded : WorkEnd → Share → Share → Type 0
HasEnded Finished old new = RisesBy 0 old new
HasEnded Memory old new = (n : ℕ) × (n ≤ 1) × RisesBy n old new

-- an operation for which somebody works is there
abbrev pub IsThere : Task → Until → Type 0
IsThere task (until.Released op) = op < length task.operations
IsThere task _ = ⊤
