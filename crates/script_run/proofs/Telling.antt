-- The line of the event that happened last.
use Rattle.std.proofs.Common.{◌≡◌, ◌+◌, ◌<◌, ℕ, List, [], ◌∷◌, ◌++◌, refl, ap, ◌∙◌, length, take, Some, slice_get, arith}
use Rattle.std.proofs.Math.Seq.{take-append_seam}
use Rattle.std.proofs.lemmas.List.{length-append, length-map}
use Rattle.window_model.specs.Decoder.{Task}
use Rattle.window_model.specs.Speculation.{Event, happen_all, start}
use Rattle.report_model.specs.Texts.{event_line}
use Rattle.core_journal.specs.Entries.{event_of}
use Rattle.core_journal.specs.declared.event.Event.{Event as Entry}
use Rattle.core_state.specs.States.{CoreTable, HasHappened, events_of, machine_of}
use Rattle.run_report.specs.Reports.{machine_before}
use Rattle.replay_model.specs.declared.ScriptLine.{ScriptLine}
use Rattle.replay_model.specs.Replays.{Stage}
use Rattle.script_run.specs.Plays.{HasActed}
use Rattle.script_run.specs.declared.act.Act.{Act}
use Rattle.script_run.specs.declared.act.Act.TheVariants as act

seam : (events others : List Event) →
    slice_get (events ++ others) (length events) ≡ slice_get others 0
seam [] others = refl
seam (e ∷ events) others = seam events others

pub last_told : (old c : CoreTable) (entry_ : Entry) (event : Event) (at : ℕ)
    (labels : List (List ℕ)) (before after : List ℕ) → at + 1 ≡ length c.journal →
    HasHappened old entry_ event c →
    ((e : Event) → slice_get (events_of c) at ≡ Some e →
    after ≡ before ++ event_line c.task labels (machine_before c at) e) →
    after ≡ before ++ event_line c.task labels (machine_of old) event
last_told old c entry_ event at labels before after last h told =
    told event (ap (slice_get (events_of c)) at_is
    ∙ ap (λ es. slice_get es (length (events_of old))) h.events
    ∙ seam (events_of old) (event ∷ []))
    ∙ ap (λ m. before ++ event_line c.task labels m event) same
  where
    at_is : at ≡ length (events_of old)
    at_is =
        let long : length (events_of c) ≡ length c.journal =
        length-map c.journal (event_of c.task c.kept) in
        let longer : length (events_of c) ≡ length (events_of old ++ event ∷ []) =
        ap length h.events in
        let sum = length-append (events_of old) (event ∷ []) in
        omega (arith, last, long, longer, sum)

    same : machine_before c at ≡ machine_of old
    same = ap (λ n. happen_all c.task start (take n (events_of c))) at_is
        ∙ ap (λ es. happen_all c.task start (take (length (events_of old)) es)) h.events
        ∙ ap (happen_all c.task start) (take-append_seam (events_of old) (event ∷ []))
        ∙ ap (λ (t : Task). happen_all t start (events_of old)) h.task

-- after an event the journal has an entry
pub has_last : (old c : CoreTable) (entry_ : Entry) (event : Event) →
    HasHappened old entry_ event c → 0 < length c.journal
has_last old c entry_ event h =
    let longer : length c.journal ≡ length (old.journal ++ entry_ ∷ []) = ap length h.journal in
    let sum = length-append old.journal (entry_ ∷ []) in
    omega (arith, longer, sum)

-- What holds of the core after a line, whatever it did.
module _ (stage : Stage) (line_ : ScriptLine) (old new : CoreTable) where
  pub acted_task : (a : Act) → HasActed stage line_ old new a → new.task ≡ old.task
  acted_task act.Moved h = h.happened.task
  acted_task act.Idle h = ap (λ (c : CoreTable). c.task) h.1
  acted_task act.Done h = ap (λ (c : CoreTable). c.task) h.1
  acted_task act.Refused h = ap (λ (c : CoreTable). c.task) h.1

  pub acted_last : (a : Act) → HasActed stage line_ old new a → a ≡ act.Moved →
      0 < length new.journal
  acted_last act.Moved h e = has_last old new h.entry_ h.event h.happened
  acted_last act.Idle h e = absurd (cc)
  acted_last act.Done h e = absurd (cc)
  acted_last act.Refused h e = absurd (cc)
