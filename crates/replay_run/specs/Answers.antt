-- How a replay answers: what it took and put, in one order.
use Rattle.std.specs.Prelude.{◌≡◌, ◌⊎◌, ℕ, ◌+◌, Bool, List, [], ◌++◌, take, Option, None, Result, Ok, Err}
use Rattle.port_io.specs.Port.{Rose, sent}
use Rattle.port_io.specs.Traffic.{Goes, taken}
use Rattle.port_io.specs.declared.port.TapeByte.{TapeByte}
use Rattle.surface_model.specs.Schedules.{Schedule}
use Rattle.window_model.specs.declared.GuessView.{GuessView}
use Rattle.window_model.specs.Decoder.{Task}
use Rattle.window_model.specs.Speculation.{Event}
use Rattle.report_model.specs.Outcomes.{output_of}
use Rattle.report_model.specs.Tasks.{labels_of, names_of, syndrome_of}
use Rattle.core_state.specs.States.{CoreTable}
use Rattle.run_rounds.specs.declared.release.PutError.{PutError}
use Rattle.run_rounds.specs.declared.release.PutError.TheVariants.{WriteFault, Memory}
use Rattle.replay_model.specs.Scripts.{due_line}
use Rattle.replay_run.specs.Readings.{IsCutAt, due_number}
use Rattle.replay_run.specs.Replies.{IsReplayedTo, Subject, fault_at, reply_of, stage_on}
use Rattle.replay_run.specs.declared.end.End.{End}
use Rattle.replay_run.specs.declared.end.End.TheVariants.{ReadFault}

-- One text is put after all bytes that are taken, as these bytes and this end have it. After
-- a failed write a front of it stands, and that of a failed read only where a read failed; without
-- memory nothing is put.
abbrev pub IsAnswered : (List ℕ → End → List ℕ → Type 0) → (reads reads' : ℕ) →
    (left left' : Option (List ℕ)) → (tape tape' : Option (List TapeByte)) →
    Result End PutError → Type 0
IsAnswered Told reads reads' left left' tape tape' (Ok end) =
    (bytes : List ℕ) × (text : List ℕ)
    × Goes (taken bytes ++ sent text) left left' tape tape' × Told bytes end text
IsAnswered Told reads reads' left left' tape tape' (Err WriteFault) =
    (end : End) × (bytes : List ℕ) × (text : List ℕ) × (count : ℕ)
    × Goes (taken bytes ++ sent (take count text)) left left' tape tape' × Told bytes end text
    × (end ≡ ReadFault → Rose reads reads')
IsAnswered Told reads reads' left left' tape tape' (Err Memory) =
    (bytes : List ℕ) × Goes (taken bytes) left left' tape tape'

-- the subject of a replay on this core
abbrev pub subject : Schedule → CoreTable → (GuessView → Bool → Type 0) → Subject
subject s c may_guess =
    record { schedule = s; task = c.task; retries = c.retries; may_guess = may_guess }

-- what is said where no line of a script is done, whatever rows there were
abbrev pub IsNothingTold : Schedule → Task → End → (text : List ℕ) → Type 0
IsNothingTold s task end text =
    (rows : List (List Bool)) →
    text ≡ output_of task (syndrome_of s rows) (labels_of s) (names_of s) [] None (fault_at end)

-- of a replay whose rows were taken, these bytes of the line `script` and what stands after it
pub record IsScriptTold (r : Subject) (rows : List (List Bool)) (bytes : List ℕ)
    (left : Option (List ℕ)) (end : End) (text : List ℕ) : Type 0 where
  pub events : List Event
  pub printed : List ℕ
  pub read : ((events ≡ []) × (printed ≡ []) × IsCutAt (due_number r.schedule) bytes left end)
      ⊎ ((script : List ℕ) × (bytes ≡ due_line ++ script)
      × IsReplayedTo (stage_on r rows) (due_number r.schedule + 1) script left events printed end)
  pub text_is : text ≡ reply_of r rows printed events (fault_at end)
