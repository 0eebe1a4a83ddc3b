-- The conditions of a schedule as operations, with the slots of the raw values that they need, and
-- why they are refused.
use Rattle.std.specs.Prelude.{◌≡◌, ℕ, List, [], map, slice_index, slice_index_or}
use Rattle.report_model.specs.Tasks.{labels_of}
use Rattle.release_gate.specs.Operations.{TimedOperation}
use Rattle.release_gate.specs.declared.gate_error.GateError.{GateError}
use Rattle.release_gate.specs.declared.gate_error.GateError.TheVariants as gating
use Rattle.surface_model.specs.Measurements.{Observable, observables}
use Rattle.surface_model.specs.Schedules.{CondLine, Schedule}
use Rattle.window_model.specs.Decoder.{Task}
use Rattle.window_model.specs.Gates.{IsFirstTooEarly}
use Rattle.run_header.specs.declared.refusal.Refusal.TheVariants as refusal
use Rattle.run_header.specs.declared.refusal.OpeningError.{OpeningError}
use Rattle.run_header.specs.declared.refusal.OpeningError.TheVariants as error

-- the slots of the raw values of a schedule's observables
abbrev pub raws_of : Schedule → List ℕ
raws_of s = map (λ (o : Observable). o.slot) (observables s)

-- a condition, where the raw values have these slots
abbrev pub timed_of : List ℕ → CondLine → TimedOperation
timed_of raws line =
    record { slot = line.slot; labels = map (λ l. (l, slice_index raws l)) line.labels }

abbrev pub timed_conds : Schedule → List TimedOperation
timed_conds s = map (timed_of (raws_of s)) s.conds

-- the error that reports why there are no gates, where the operations have these labels
abbrev pub of_gating : List (List ℕ) → GateError → OpeningError
of_gating labels (gating.TooEarly op ready) =
    error.Refused (refusal.TooEarly (slice_index_or labels op []) ready)
of_gating labels gating.Memory = error.Memory

-- the first condition that is too early in this task of the schedule is reported, or want of memory
abbrev pub IsHeldUp : Schedule → Task → OpeningError → Type 0
IsHeldUp s task (error.Refused (refusal.TooEarly label ready)) =
    (op : ℕ) × IsFirstTooEarly task op ready × (label ≡ slice_index_or (labels_of s) op [])
IsHeldUp s task error.Memory = Unit {0}
IsHeldUp s task _ = ⊥
