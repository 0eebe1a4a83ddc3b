-- What a decoder has done is what a run says.
use Rattle.std.proofs.Common.{◌≡◌, ◌<◌, ℕ, suc, ◌+◌, Bool, true, List, [], ◌∷◌, ◌++◌, None, Some, refl, sym, ap, ◌∙◌, subst, length, flat_map, append_assoc, append-nil}
use Rattle.std.proofs.lemmas.List.{length-map}
use Rattle.std.proofs.lemmas.List.FromFn.{length-map-range_with_len}
use Rattle.std.specs.declared.option.Option.{Option}
use Rattle.graph_model.specs.Graph.{boundary}
use Rattle.window_model.specs.Windows.{WindowPlan, window_count}
use Rattle.port_io.specs.Port.{sent}
use Rattle.port_io.specs.Traffic.{taken}
use Rattle.window_model.specs.Decoder.{Task, Syndrome, Step, start, after_all, committed_edges, IsRun}
use Rattle.window_model.specs.Laws.{IsSettled, ReleaseLaw}
use Rattle.window_model.specs.Progress.{Progress, Fits, IsComplete, IsProgress}
use Rattle.window_model.specs.declared.GuessView.{GuessView}
use Rattle.window_model.specs.Speculation.{Agrees, Event, start as begun}
use Rattle.core_state.specs.States.{CoreTable, events_of, machine_of}
use Rattle.slot_decoder.specs.Histories.{AreGuessedFrom, DecoderView, IsHistoryOf}
use Rattle.slot_decoder.specs.Slots.{view_of}
use Rattle.run_report.specs.Reports.{FitsCore, steps_of}
use Rattle.measure_map.specs.Placed.{Placed, map_of, placed_observable}
use Rattle.surface_model.specs.Schedules.{Schedule}
use Rattle.surface_model.specs.Layout.{last_slot}
use Rattle.surface_model.specs.Measurements.{bits_of_slot, Observable, observables}
use Rattle.surface_model.specs.Reading.{Reading, NextRow, Whole, Fault as Wrong, Ended, Good, reading_of, after_row, is_last, next_row}
use Rattle.report_model.specs.Texts.{summary_of}
use Rattle.report_model.specs.Faults.{Fault, fault_text}
use Rattle.report_model.specs.Outcomes.{IsWholeTape, output_with, frames_where_done, trace_where_asked}
use Rattle.report_model.specs.Tapes.{Move, AreAllPut, AreInTime, bytes_of}
use Rattle.report_model.specs.Tasks.{task_of, syndrome_of, labels_of, names_of}
use Rattle.swiper_run.specs.Guessed.{IsSpeculated, traced_of}
use Rattle.swiper_run.specs.Printed.{IsPrintedLog}
use Rattle.swiper_run.specs.Reports.{IsRunOn, IsExplained}
use Rattle.run_rounds.specs.Rounds.{lengths_of, rounds_of}

-- the fault's line stands at the end
pub output_more : (log : List ℕ) (task : Task) (s : Syndrome) (labels names : List (List ℕ))
    (steps : List Step) (traced : Option (List Event)) (fault : Fault) →
    output_with log task s labels names steps traced None ++ fault_text fault
    ≡ output_with log task s labels names steps traced (Some fault)
output_more log task s labels names steps traced fault = at_end log
    (trace_where_asked task labels traced) (frames_where_done task s names steps)
    (summary_of task s steps) (fault_text fault)
  where
    at_end : (log trace frames summary line : List ℕ) →
        (log ++ trace ++ frames ++ summary ++ []) ++ line
        ≡ log ++ trace ++ frames ++ summary ++ line
    at_end log trace frames summary line = simp (append_assoc, append-nil)

-- the steps of a decoder that has these values are a run on the rows
pub run_on : (s : Schedule) (plan : WindowPlan) (rows : List (List Bool)) (m : Progress) →
    IsProgress m → Fits (syndrome_of s rows) m → m.task ≡ task_of s plan → m.arrived ≡ length rows →
    IsRunOn s plan rows m.steps
run_on s plan rows m progress fits task_is arrived = record {
  run = subst (λ task. IsRun task (syndrome_of s rows) m.steps) task_is
      (progress.runs (syndrome_of s rows) fits);
  arrived = progress.arrived ∙ arrived;
  settled = subst (λ task. IsSettled task (after_all start m.steps)) task_is progress.settled;
}

-- ---- what a core says is what its decoder says

pub core_seen : (d : DecoderView) (core state : CoreTable) → view_of core ≡ d → state ≡ core →
    view_of state ≡ d
core_seen d core state seen same = ap (λ (c : CoreTable). view_of c) same ∙ seen

pub core_says : (d : DecoderView) (core state : CoreTable) (labels names : List (List ℕ))
    (trace : Bool) (traced : Option (List Event)) (log after : List ℕ) → view_of core ≡ d →
    state ≡ core → traced ≡ traced_of trace (events_of state) →
    ((s : Syndrome) → Fits s d.progress → Agrees core.task (machine_of core) s) →
    ((s : Syndrome) → FitsCore state s → (before log' : List ℕ) → log ≡ before ++ log' →
    after ≡ before ++ output_with log' state.task s labels names (steps_of state) traced None) →
    (s : Syndrome) → Fits s d.progress → after
    ≡ output_with log d.progress.task s labels names d.progress.steps (traced_of trace d.events)
    None
core_says d core state labels names trace traced log after seen same traced_is agrees said s
    fits =
    said s (subst (λ (c : CoreTable). FitsCore c s) (sym same) (agrees s fits)) [] log refl
    ∙ ap (λ t. output_with log state.task s labels names (steps_of state) t None) traced_is
    ∙ ap (λ (v : DecoderView). output_with log v.progress.task s labels names v.progress.steps
    (traced_of trace v.events) None) (core_seen d core state seen same)

-- and so its log
pub log_says : (d : DecoderView) (core state : CoreTable) (labels : List (List ℕ))
    (certify : Bool) (log : List ℕ) → view_of core ≡ d → state ≡ core →
    IsPrintedLog certify state.task labels (steps_of state) log →
    IsPrintedLog certify d.progress.task labels d.progress.steps log
log_says d core state labels certify log seen same told =
    subst (λ (v : DecoderView). IsPrintedLog certify v.progress.task labels v.progress.steps log)
    (core_seen d core state seen same) told

-- ---- what happened

-- the decoder's history led to its steps
pub speculated : (may_guess : GuessView → Bool → Type 0) (retries : ℕ) (s : Schedule)
    (plan : WindowPlan) (rows : List (List Bool)) (d : DecoderView) → IsHistoryOf d →
    d.retries ≡ retries → AreGuessedFrom may_guess d.progress.task begun d.events →
    Fits (syndrome_of s rows) d.progress → d.progress.task ≡ task_of s plan →
    IsSpeculated may_guess retries (task_of s plan) (syndrome_of s rows) d.events d.progress.steps
speculated may_guess retries s plan rows d history retries_are guessed fits task_is =
    subst (λ n. IsSpeculated may_guess n (task_of s plan) (syndrome_of s rows) d.events
    d.progress.steps) retries_are
    (subst (λ task. IsSpeculated may_guess d.retries task (syndrome_of s rows) d.events
    d.progress.steps) task_is
    (record {
      ordered = history.ordered;
      guessed = guessed;
      brought = history.brought (syndrome_of s rows) fits;
      answered = history.answered;
      shown = history.shown;
    }))

-- what was taken and put, and after it the output: the whole tape of a run
abbrev pub whole_tape : (log : List ℕ) (s : Schedule) (plan : WindowPlan)
    (rows : List (List Bool)) (m : Progress) (traced : Option (List Event)) (fault : Option Fault)
    (header text : List ℕ) (moves : List Move) → m.task ≡ task_of s plan →
    AreInTime (task_of s plan) m.steps moves → AreAllPut m.steps moves →
    text ≡ output_with log m.task (syndrome_of s rows) (labels_of s) (names_of s) m.steps traced
    fault →
    IsWholeTape log (task_of s plan) (syndrome_of s rows) (labels_of s) (names_of s) m.steps traced
    fault header ((taken header ++ flat_map (bytes_of (labels_of s)) moves) ++ sent text)
whole_tape log s plan rows m traced fault header text moves task_is in_time put_ text_is = record {
  moves = moves;
  whole = ap (λ l. taken header ++ flat_map (bytes_of (labels_of s)) moves ++ sent l)
      (text_is ∙ ap (λ task. output_with log task (syndrome_of s rows) (labels_of s) (names_of s)
      m.steps traced fault) task_is);
  in_time = in_time;
  all_put = put_;
}

-- a good reading has a row for each length
good_long : (lengths : List ℕ) (line : ℕ) (bytes : List ℕ) → (reading_of lengths line bytes).ending
    ≡ Good → length (reading_of lengths line bytes).rows ≡ length lengths
good_long [] line [] good = refl
good_long [] line (byte ∷ bytes) good = absurd cc
good_long (n ∷ lengths) line bytes good =
    by (next_row n (is_last lengths) bytes) (λ rest g. good_long lengths (line + 1) rest g) good
  where
    by : (next : NextRow) → ((rest : List ℕ) → (reading_of lengths (line + 1) rest).ending ≡ Good →
        length (reading_of lengths (line + 1) rest).rows ≡ length lengths) →
        (after_row (λ rest. reading_of lengths (line + 1) rest) line next).ending ≡ Good →
        length (after_row (λ rest. reading_of lengths (line + 1) rest) line next).rows
        ≡ suc (length lengths)
    by (Whole row rest) go g = ap suc (go rest g)
    by (Wrong kind) go g = absurd cc
    by Ended go g = absurd cc

pub all_rows : (s : Schedule) (bytes : List ℕ) (rows : List (List Bool)) → rounds_of s bytes
    ≡ record { rows = rows; ending = Good } → length rows ≡ last_slot s + 1
all_rows s bytes rows read =
    sym (ap (λ (r : Reading). length r.rows) read)
    ∙ good_long (lengths_of s) (s.rounds_line + 1) bytes (ap (λ (r : Reading). r.ending) read)
    ∙ length-map-range_with_len (λ t. length (bits_of_slot s t)) 0 (last_slot s + 1)

-- where all rows were read, all is committed, released and explained
pub explained : ReleaseLaw → (s : Schedule) (plan : WindowPlan) (rows : List (List Bool))
    (m : Progress) → IsComplete m → Fits (syndrome_of s rows) m → m.task ≡ task_of s plan →
    IsRunOn s plan rows m.steps → m.arrived ≡ length rows → length rows ≡ last_slot s + 1 →
    IsExplained s plan rows m.steps
explained law s plan rows m complete fits task_is run arrived all =
    let end : m.arrived ≡ m.task.last_slot + 1 = arrived ∙ all
    ∙ ap (λ (task : Task). task.last_slot + 1) (sym task_is) in
    record {
      committed = λ w l. complete.committed end w
          (subst (λ (task : Task). w < window_count task.plan) (sym task_is) l);
      boundary_is = λ v l.
          subst (λ (task : Task). boundary task.graph (committed_edges task
          (after_all start m.steps)) v ≡ (syndrome_of s rows).value v) task_is
          (complete.explained end (syndrome_of s rows) fits v
          (subst (λ (task : Task). v < task.graph.vertices) (sym task_is) l));
      released = λ op l. complete.released end op
          (subst (λ (task : Task). op < length task.operations) (sym task_is) l);
      bits_are = λ op bit is. law (task_of s plan) (syndrome_of s rows) m.steps op bit run.run is;
    }

-- an observable for each label
pub each_label : (s : Schedule) (plan : WindowPlan) (m : Placed) (task : Task) → m ≡ map_of s →
    task ≡ task_of s plan → length m.observables ≡ length task.raw_slots
unfolding map_of
each_label s plan m task given is =
    ap (λ (o : Placed). length o.observables) given
    ∙ length-map (observables s) (placed_observable s)
    ∙ sym (ap (λ (t : Task). length t.raw_slots) is
    ∙ length-map (observables s) (λ (o : Observable). o.slot))
