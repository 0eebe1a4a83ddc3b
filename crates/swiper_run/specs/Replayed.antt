-- What a run answers whose words ask for a replay: what was taken after the header, and the text
-- that is put of it.
use Rattle.std.specs.Prelude.{◌≡◌, ℕ, List, ◌++◌, Option}
use Rattle.port_io.specs.Port.{sent}
use Rattle.port_io.specs.Traffic.{taken}
use Rattle.port_io.specs.declared.port.TapeByte.{TapeByte}
use Rattle.surface_model.specs.Parse.{schedule_of}
use Rattle.window_model.specs.Windows.{WindowPlan}
use Rattle.report_model.specs.Tasks.{task_of}
use Rattle.run_words.specs.declared.command.ReplayOptions.{ReplayOptions}
use Rattle.run_header.specs.Openings.{IsHeader}
use Rattle.run_header.specs.Refusals.{IsAcceptedAs}
use Rattle.replay_run.specs.declared.end.End.{End}
use Rattle.replay_run.specs.declared.end.End.TheVariants as end
use Rattle.replay_run.specs.Replies.{IsReplied, Subject}
use Rattle.swiper_run.specs.Guessed.{may_guess_of}
use Rattle.swiper_run.specs.Words.{sizes_of}
use Rattle.swiper_run.specs.declared.top.Status.{Status}
use Rattle.swiper_run.specs.declared.top.Status.TheVariants as ends

-- what is replayed with the schedule of a header, under this plan
abbrev pub subject_of : ReplayOptions → (header : List ℕ) → WindowPlan → Subject
subject_of options header plan = record {
  schedule = schedule_of header;
  task = task_of (schedule_of header) plan;
  retries = options.guessing.retries;
  may_guess = may_guess_of options.guessing.predictor;
}

-- A schedule was accepted, and after its header these bytes were taken. Of them one text was put,
-- after all that was taken
pub record IsReplayed (options : ReplayOptions) (left : Option (List ℕ)) (how : End)
    (ran : List TapeByte) : Type 0 where
  pub header : List ℕ
  pub is_header : IsHeader header
  pub plan : WindowPlan
  pub accepted : IsAcceptedAs (sizes_of options.windows) header plan
  pub bytes : List ℕ
  pub text : List ℕ
  pub replied : IsReplied (subject_of options header plan) bytes left how text
  pub ran_is : ran ≡ taken header ++ taken bytes ++ sent text

-- the status of a replay that ended so
abbrev pub status_of_replay : End → Status
status_of_replay end.Complete = ends.Ok
status_of_replay (end.Row line kind) = ends.Row
status_of_replay (end.Ended line) = ends.Ended
status_of_replay end.ReadFault = ends.ReadFault
status_of_replay (end.Script line) = ends.Script
