-- What a run does on its tape and what its decoder has of it: on the way, when the rows have ended,
-- and where it breaks off.
use Rattle.std.specs.Prelude.{◌≡◌, ◌≤◌, ℕ, Bool, true, List, [], ◌∷◌, ◌++◌, length, take, flat_map, filter_map, Option, Result}
use Rattle.port_io.specs.Port.{sent}
use Rattle.port_io.specs.Traffic.{Goes}
use Rattle.port_io.specs.declared.port.TapeByte.{TapeByte}
use Rattle.surface_model.specs.Schedules.{Schedule}
use Rattle.syndrome_source.specs.declared.error.RowError.{RowError}
use Rattle.window_model.specs.Decoder.{Task, Step, start, after_all, IsRun}
use Rattle.window_model.specs.Progress.{Progress, Fits, IsBeginning, IsProgress}
use Rattle.window_setting.specs.Settings.{IsSetting}
use Rattle.report_model.specs.Tapes.{Move, Put, AreAllPut, AreInTime, IsTimed, bytes_of, take_of}
use Rattle.report_model.specs.Tasks.{HasTask, labels_of, syndrome_of}
use Rattle.slot_decoder.specs.Histories.{DecoderView}
use Rattle.report_model.specs.Texts.{release_line}
use Rattle.run_rounds.specs.Courses.{IsReadTo}
use Rattle.run_rounds.specs.Moves.{puts_of, releases_of}
use Rattle.run_rounds.specs.Rounds.{AreRead, AreRounds}
use Rattle.run_rounds.specs.Slots.{At, at_first}
use Rattle.run_rounds.specs.declared.release.PutError.{PutError}
use Rattle.run_rounds.specs.declared.release.PutError.TheVariants.{WriteFault, Memory}

-- no row of the schedule was read, whose task this is
pub record HasNotBegun (at : At) (task : Task) : Type 0 where
  pub task_is : HasTask at.schedule task
  pub at_start : at ≡ at_first at.schedule

-- and the decoder of the task is at its beginning
pub record IsAtBeginning (d : DecoderView) : Type 0 where
  pub begun : IsBeginning d.progress.task d.progress
  pub none : d.events ≡ []

-- The rows of the slots so far were read, the decoder has their values, whatever rows follow, and
-- the releases of its steps were put, in their order and in time
pub record IsDecodedTo (task : Task) (at : At) (left left' : Option (List ℕ))
    (tape tape' : Option (List TapeByte)) (decoder : Progress) : Type 0 where
  pub so_far : IsReadTo (labels_of at.schedule) at left left' tape tape'
  pub task_is : decoder.task ≡ task
  pub setting : IsSetting decoder.task
  pub progress : IsProgress decoder
  pub arrived : decoder.arrived ≡ at.slot
  pub fits : (more : List (List Bool)) →
      Fits (syndrome_of at.schedule (so_far.rows ++ more)) decoder
  pub puts : puts_of so_far.moves ≡ releases_of decoder.steps
  pub timed : IsTimed task 0 true so_far.moves

-- The reading has ended so, and the decoder has the values of the rows that were read; the releases
-- of its steps were put, each once and in time
pub record IsReadThrough {A : Type 0} (s : Schedule) (task : Task) (left left' : Option (List ℕ))
    (tape tape' : Option (List TapeByte)) (decoder : Progress) (end : Result A RowError) : Type
    0 where
  pub moves : List Move
  pub rows : List (List Bool)
  pub goes : Goes (flat_map (bytes_of (labels_of s)) moves) left left' tape tape'
  pub rounds : AreRounds s (filter_map take_of moves) left' rows end
  pub arrived : decoder.arrived ≡ length rows
  pub fits : Fits (syndrome_of s rows) decoder
  pub in_time : AreInTime task decoder.steps moves
  pub all_put : AreAllPut decoder.steps moves

-- Rows are read so far by these moves, whose puts are releases of a run on them, none twice and
-- each in time; the last row may not have arrived in the run
pub record IsPartWay (s : Schedule) (task : Task) (left : Option (List ℕ))
    (moves : List Move) : Type 0 where
  pub rows : List (List Bool)
  pub read : AreRead s (filter_map take_of moves) left rows
  pub steps : List Step
  pub run : IsRun task (syndrome_of s rows) steps
  pub arrived : (after_all start steps).arrived ≤ length rows
  pub in_time : AreInTime task steps moves

-- The line of a release was due, and a front of it was put after these moves
pub record IsCutOff (s : Schedule) (task : Task) (left left' : Option (List ℕ))
    (tape tape' : Option (List TapeByte)) : Type 0 where
  pub moves : List Move
  pub operation : ℕ
  pub bit : Bool
  pub count : ℕ
  pub goes : Goes (flat_map (bytes_of (labels_of s)) moves
      ++ sent (take count (release_line (labels_of s) operation bit))) left left' tape tape'
  pub due : IsPartWay s task left' (moves ++ Put operation bit ∷ [])
  pub all_arrived : (after_all start due.steps).arrived ≡ length due.rows

-- where the run breaks off at a failed write, and for want of memory
abbrev pub IsBrokenOff : Schedule → Task → PutError → (left left' : Option (List ℕ)) →
    (tape tape' : Option (List TapeByte)) → Type 0
IsBrokenOff s task WriteFault left left' tape tape' = IsCutOff s task left left' tape tape'
IsBrokenOff s task Memory left left' tape tape' =
    (moves : List Move) × IsPartWay s task left' moves
    × Goes (flat_map (bytes_of (labels_of s)) moves) left left' tape tape'
