-- What a run puts after its releases, in its order: the log, the trace where it is asked for, the
-- frames where all is done, the summary, and the line of a fault. This is the
-- whole output of a run whose schedule was accepted and that had memory and could write; where the
-- schedule wasn't accepted, the output is the fault's line alone.
use Rattle.std.specs.Prelude.{ℕ, ◌+◌, Bool, ◌&&◌, ◌==◌, if◌then◌else◌, is_some, List, [], ◌++◌, length, Option, None, Some}
use Rattle.std.specs.List.{list_all, range_with_len}
use Rattle.port_io.specs.declared.port.TapeByte.{TapeByte}
use Rattle.window_model.specs.Windows.{window_count}
use Rattle.window_model.specs.Decoder.{Task, Syndrome, Step, Decoder, after_all}
use Rattle.window_model.specs.Decoder
use Rattle.window_model.specs.Speculation.{Event}
use Rattle.report_model.specs.Texts.{log_of, trace_of, frames_of, summary_of}
use Rattle.report_model.specs.Faults.{Fault, fault_text}
use Rattle.report_model.specs.Tapes.{IsWellTimed}

-- every slot has arrived, every window is committed and every operation is released
abbrev pub is_all_done : Task → Decoder → Bool
is_all_done task d =
    d.arrived == task.last_slot + 1
    && list_all (λ w. is_some (d.kept w)) (range_with_len 0 (window_count task.plan))
    && list_all (λ op. is_some (d.released op)) (range_with_len 0 (length task.operations))

-- the frames, where all is done after these steps; else nothing
abbrev pub frames_where_done : Task → Syndrome → List (List ℕ) → List Step → List ℕ
frames_where_done task s names steps =
    if is_all_done task (after_all Decoder.start steps) then frames_of task s names steps else []

-- the trace of the history, where one is asked for
abbrev pub trace_where_asked : Task → List (List ℕ) → Option (List Event) → List ℕ
trace_where_asked task labels None = []
trace_where_asked task labels (Some events) = trace_of task labels events

abbrev pub fault_line : Option Fault → List ℕ
fault_line None = []
fault_line (Some fault) = fault_text fault

-- what the run of these steps puts after its releases, where its log is this text. `traced` is the
-- history that is to be printed, if one is
abbrev pub output_with : (log : List ℕ) → Task → Syndrome → (labels names : List (List ℕ)) →
    List Step → (traced : Option (List Event)) → Option Fault → List ℕ
output_with log task s labels names steps traced fault =
    log ++ trace_where_asked task labels traced ++ frames_where_done task s names steps
    ++ summary_of task s steps ++ fault_line fault

-- the same with the plain log of the steps
abbrev pub output_of : Task → Syndrome → (labels names : List (List ℕ)) → List Step →
    (traced : Option (List Event)) → Option Fault → List ℕ
output_of task s labels names steps traced fault =
    output_with (log_of labels steps) task s labels names steps traced fault

-- The whole tape of a run whose schedule was accepted: it takes the header and rows, puts the line
-- of each release, once and in time, and then its output, of which the log is this text.
abbrev pub IsWholeTape : (log : List ℕ) → Task → Syndrome → (labels names : List (List ℕ)) →
    List Step → (traced : Option (List Event)) → Option Fault → (header : List ℕ) →
    List TapeByte → Type 0
IsWholeTape log task s labels names steps traced fault header tape =
    IsWellTimed task labels steps header
    (output_with log task s labels names steps traced fault) tape
