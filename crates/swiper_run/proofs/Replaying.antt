-- From what a replay took and put to its answer.
use Rattle.std.proofs.Common.{◌≡◌, inl, inr, ℕ, true, List, ◌++◌, Some, Ok, Err, IfOk, take, refl, sym, ap, ◌∙◌, subst, append_assoc}
use Rattle.std.specs.declared.option.Option.{Option}
use Rattle.std.specs.declared.result.Result.{Result}
use Rattle.std.proofs.lemmas.List.{map-append}
use Rattle.port_io.specs.Port.{sent}
use Rattle.port_io.specs.Traffic.{Goes, taken}
use Rattle.port_io.specs.declared.port.TapeByte.{TapeByte}
use Rattle.port_io.specs.declared.port.TapeByte.TheVariants.{Taken}
use Rattle.window_model.specs.Windows.{WindowPlan}
use Rattle.run_header.specs.Openings.{IsHeader}
use Rattle.run_words.specs.declared.command.ReplayOptions.{ReplayOptions}
use Rattle.run_header.specs.Refusals.{IsAcceptedAs}
use Rattle.run_rounds.specs.declared.release.PutError.{PutError}
use Rattle.run_rounds.specs.declared.release.PutError.TheVariants.{WriteFault, Memory}
use Rattle.replay_run.specs.Answers.{IsAnswered, subject}
use Rattle.replay_run.specs.Replies.{IsReplied}
use Rattle.replay_run.specs.declared.end.End.{End}
use Rattle.replay_run.specs.declared.end.End.TheVariants as end
use Rattle.surface_model.specs.Parse.{schedule_of}
use Rattle.surface_model.specs.Schedules.{Schedule}
use Rattle.report_model.specs.Tasks.{task_of}
use Rattle.core_state.specs.States.{CoreTable}
use Rattle.swiper_run.specs.Guessed.{may_guess_of}
use Rattle.swiper_run.specs.Answers.{IsAnswerTo, IsReplaySaid, guesses_of, is_of_replay, status_of_reply}
use Rattle.swiper_run.specs.Replayed.{IsReplayed, status_of_replay, subject_of}
use Rattle.swiper_run.specs.declared.top.Status.TheVariants as ends
use Rattle.swiper_run.specs.declared.words.Asked.TheVariants.{Replay}
use Rattle.swiper_run.specs.Words.{sizes_of}
use Rattle.swiper_run.proofs.Concluding.{said_answer}

-- what was replayed belongs to the status of its end
replay_said : (asked : ReplayOptions) (left : Option (List ℕ)) (how : End) (ran : List TapeByte) →
    IsReplayed asked left how ran → IsReplaySaid asked left (status_of_replay how) ran
replay_said asked left end.Complete ran replayed = replayed
replay_said asked left (end.Row line kind) ran replayed = (line, kind, replayed)
replay_said asked left (end.Ended line) ran replayed = inr (line, replayed)
replay_said asked left end.ReadFault ran replayed = inr replayed
replay_said asked left (end.Script line) ran replayed = (line, replayed)

-- only a failed read is the fault of reading
replay_failed : (how : End) → status_of_replay how ≡ ends.ReadFault → how ≡ end.ReadFault
replay_failed end.Complete e = absurd cc
replay_failed (end.Row line kind) e = absurd cc
replay_failed (end.Ended line) e = absurd cc
replay_failed end.ReadFault e = refl
replay_failed (end.Script line) e = absurd cc

module _ (asked : ReplayOptions) (header : List ℕ) (plan : WindowPlan) (is : IsHeader header)
    (accepted : IsAcceptedAs (sizes_of asked.windows) header plan) (a c : Option (List ℕ))
    (t v : Option (List TapeByte)) (reads reads' : ℕ) where
  whole : (bytes text : List ℕ) (how : End) → IsReplied (subject_of asked header plan) bytes c how
      text → IsReplayed asked c how (taken header ++ taken bytes ++ sent text)
  whole bytes text how replied = record {
    header = header;
    is_header = is;
    plan = plan;
    accepted = accepted;
    bytes = bytes;
    text = text;
    replied = replied;
    ran_is = refl;
  }

  -- one text was put, as far as it goes, after all that was taken
  pub replay_answer : (result : Result End PutError) →
      IsAnswered (λ bytes how text. IsReplied (subject_of asked header plan) bytes c how text) reads
      reads' a c t v result → (ran : List TapeByte) × Goes ran a c t v
      × IsAnswerTo (Some (Replay asked)) c reads reads' (status_of_reply result)
      (taken header ++ ran)
  replay_answer (Ok how) (bytes, text, goes, replied) = (
    taken bytes ++ sent text,
    goes,
    said_answer (guesses_of (Some (Replay asked))) (Some (Replay asked)) c reads reads'
        (status_of_replay how)
        (taken header ++ (taken bytes ++ sent text))
        (subst (IsReplaySaid asked c (status_of_replay how))
        (append_assoc (taken header) (taken bytes) (sent text))
        (replay_said asked c how (taken header ++ taken bytes ++ sent text)
        (whole bytes text how replied))),
  )
  replay_answer (Err WriteFault) (how, bytes, text, count, goes, replied, cause) = (
    taken bytes ++ sent (take count text),
    goes,
    inl (record {
      status = status_of_replay how;
      front = taken header ++ taken bytes;
      text = text;
      count = count;
      said = replay_said asked c how (taken header ++ taken bytes ++ sent text)
          (whole bytes text how replied);
      cut = sym (append_assoc (taken header) (taken bytes) (sent (take count text)));
      cause = λ e. cause (replay_failed how e);
    }),
  )
  replay_answer (Err Memory) (bytes, goes) = (
    taken bytes,
    goes,
    inr (Replay asked, refl, (header ++ bytes, sym (map-append Taken header bytes))),
  )

-- ---- statuses and their causes

-- the status of a replay is one of those of a replay
replay_accepted : (how : End) → is_of_replay (status_of_replay how) ≡ true
replay_accepted end.Complete = refl
replay_accepted (end.Row line kind) = refl
replay_accepted (end.Ended line) = refl
replay_accepted end.ReadFault = refl
replay_accepted (end.Script line) = refl

pub reply_accepted : (r : Result End PutError) → is_of_replay (status_of_reply r) ≡ true
reply_accepted (Ok how) = replay_accepted how
reply_accepted (Err WriteFault) = refl
reply_accepted (Err Memory) = refl

pub reply_read : (r : Result End PutError) (Cause : Type 0) →
    IfOk r (λ how. how ≡ end.ReadFault → Cause) → status_of_reply r ≡ ends.ReadFault → Cause
reply_read (Ok how) Cause cause e = cause (replay_failed how e)
reply_read (Err WriteFault) Cause cause e = absurd cc
reply_read (Err Memory) Cause cause e = absurd cc

replay_written : (how : End) → status_of_replay how ≡ ends.WriteFault → ⊥
replay_written end.Complete e = cc
replay_written (end.Row line kind) e = cc
replay_written (end.Ended line) e = cc
replay_written end.ReadFault e = cc
replay_written (end.Script line) e = cc

pub reply_written : (r : Result End PutError) → status_of_reply r ≡ ends.WriteFault →
    r ≡ Err WriteFault
reply_written (Ok how) e = absurd (replay_written how e)
reply_written (Err WriteFault) e = refl
reply_written (Err Memory) e = absurd cc

-- what is replayed on a core at its beginning is what the options ask for
pub subject_is : (asked : ReplayOptions) (header : List ℕ) (plan : WindowPlan) (s : Schedule)
    (c : CoreTable) → s ≡ schedule_of header → c.task ≡ task_of (schedule_of header) plan →
    c.retries ≡ asked.guessing.retries →
    subject s c (may_guess_of asked.guessing.predictor) ≡ subject_of asked header plan
subject_is asked header plan s c schedule_is task_is retries_is =
    ap (λ x. record {
      schedule = x;
      task = c.task;
      retries = c.retries;
      may_guess = may_guess_of asked.guessing.predictor;
    }) schedule_is
    ∙ ap (λ x. record {
      schedule = schedule_of header;
      task = x;
      retries = c.retries;
      may_guess = may_guess_of asked.guessing.predictor;
    }) task_is
    ∙ ap (λ x. record {
      schedule = schedule_of header;
      task = task_of (schedule_of header) plan;
      retries = x;
      may_guess = may_guess_of asked.guessing.predictor;
    }) retries_is
