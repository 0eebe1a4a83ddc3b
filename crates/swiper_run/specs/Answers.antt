-- What a run answers: its status, and what it took and put, in one order.
use Rattle.std.specs.Prelude.{◌≡◌, ◌⊎◌, ℕ, ◌+◌, Bool, true, false, List, [], ◌∷◌, ◌++◌, length, take, flat_map, filter_map, Option, Some, None, Result, Ok, Err}
use Rattle.port_io.specs.declared.port.Port.{Ghosts as PortOf}
use Rattle.port_io.specs.Port.{Rose, sent}
use Rattle.port_io.specs.Traffic.{Goes, IsAtEnd, taken}
use Rattle.port_io.specs.declared.port.TapeByte.{TapeByte}
use Rattle.surface_model.specs.Header.{EndedIn, header_of}
use Rattle.surface_model.specs.Measurements.{HasTooManyDetectors}
use Rattle.surface_model.specs.Parse.{schedule_of}
use Rattle.surface_model.specs.Reading.{Good}
use Rattle.syndrome_source.specs.Headers.{IsFront}
use Rattle.syndrome_source.specs.Rows.{kind_of}
use Rattle.syndrome_source.specs.declared.error.RowError.{RowError}
use Rattle.syndrome_source.specs.declared.error.RowError.TheVariants as row
use Rattle.window_model.specs.Windows.{WindowPlan}
use Rattle.window_model.specs.Decoder.{Step, Syndrome, start, after_all}
use Rattle.window_model.specs.Progress.{Fits}
use Rattle.window_model.specs.Speculation.{Event}
use Rattle.window_model.specs.declared.GuessView.{GuessView}
use Rattle.slot_decoder.specs.Histories.{DecoderView}
use Rattle.report_model.specs.Outcomes.{IsWholeTape, output_with}
use Rattle.report_model.specs.Tapes.{Move, Put, bytes_of, take_of}
use Rattle.report_model.specs.Tasks.{task_of, syndrome_of, labels_of, names_of}
use Rattle.report_model.specs.Texts.{release_line}
use Rattle.report_model.specs.Faults.{Fault, Usage, OfRow, Ended, Read, fault_text}
use Rattle.run_header.specs.declared.sizes.PlanSizes.{PlanSizes}
use Rattle.run_header.specs.Refusals.{IsAcceptedAs, IsRefused}
use Rattle.run_header.specs.Openings.{IsHeader}
use Rattle.plan_report.specs.Lines.{IsPlanLine}
use Rattle.run_words.specs.declared.command.DecodeOptions.{DecodeOptions}
use Rattle.run_words.specs.declared.command.MakeOptions.{MakeOptions}
use Rattle.run_words.specs.declared.command.ReplayOptions.{ReplayOptions}
use Rattle.replay_model.specs.Scripts.{due_line}
use Rattle.replay_run.specs.Readings.{due_number}
use Rattle.replay_run.specs.Replies.{stage_on}
use Rattle.replay_run.specs.Scripts.{IsFaultless}
use Rattle.replay_run.specs.declared.end.End.{End}
use Rattle.replay_run.specs.declared.end.End.TheVariants as how
use Rattle.swiper_run.specs.Guessed.{IsSpeculated, may_guess_of, traced_of}
use Rattle.swiper_run.specs.Printed.{IsPrintedLog}
use Rattle.swiper_run.specs.Replayed.{IsReplayed, status_of_replay, subject_of}
use Rattle.swiper_run.specs.Made.{IsMadeAnswer, schedule_made}
use Rattle.swiper_run.specs.Words.{request_of, sizes_of}
use Rattle.swiper_run.specs.declared.words.Asked.{Asked}
use Rattle.swiper_run.specs.declared.words.Asked.TheVariants.{Decode, Plan, Replay}
use Rattle.swiper_run.specs.declared.words.Request.{Request}
use Rattle.swiper_run.specs.declared.words.Request.TheVariants.{OfInput, Make}
use Rattle.run_rounds.specs.Fed.{AreAllFed}
use Rattle.run_rounds.specs.Rounds.{AreRounds, rounds_of}
use Rattle.run_rounds.specs.declared.release.PutError.{PutError}
use Rattle.run_rounds.specs.declared.release.PutError.TheVariants as stop
use Rattle.decode_rounds.specs.Courses.{IsPartWay}
use Rattle.swiper_run.specs.Reports.{IsRunOn, IsExplained}
use Rattle.swiper_run.specs.declared.top.Status.{Status}
use Rattle.swiper_run.specs.declared.top.Status.TheVariants as ends

-- the fault that is reported of an end of the rows before their time
abbrev pub fault_of_end : {A : Type 0} → Result A RowError → Option Fault
fault_of_end (Ok done) = None
fault_of_end (Err (row.Fault line kind)) = Some (OfRow (kind_of kind) line)
fault_of_end (Err (row.Ended line)) = Some (Ended line)
fault_of_end (Err row.ReadFault) = Some Read
fault_of_end (Err row.Memory) = None

-- the status where the rows ended so
abbrev pub status_of_end : {A : Type 0} → Result A RowError → Status
status_of_end (Ok done) = ends.Ok
status_of_end (Err (row.Fault line kind)) = ends.Row
status_of_end (Err (row.Ended line)) = ends.Ended
status_of_end (Err row.ReadFault) = ends.ReadFault
status_of_end (Err row.Memory) = ends.Memory

-- A schedule was accepted and rows were read until the reading ended so. What was taken and put is
-- the whole tape of a run on them: it is the run that the printed log spells, and the line of each
-- of its releases stands on the tape in time. Where the options ask for certificates, the log has
-- the whole set of each committed window and what shows it least. The speculative decoder came to
-- the run, with the retries of the options and guesses that may be made; where the options ask for
-- the trace, it is that of its history
pub record IsDecoded {A : Type 0} (may_guess : GuessView → Bool → Type 0) (options : DecodeOptions)
    (left : Option (List ℕ)) (end : Result A RowError) (ran : List TapeByte) : Type 0 where
  pub header : List ℕ
  pub is_header : IsHeader header
  pub plan : WindowPlan
  pub accepted : IsAcceptedAs (sizes_of options.windows) header plan
  pub rows : List (List Bool)
  pub steps : List Step
  pub run : IsRunOn (schedule_of header) plan rows steps
  pub events : List Event
  pub speculated : IsSpeculated may_guess options.guessing.retries
      (task_of (schedule_of header) plan) (syndrome_of (schedule_of header) rows) events steps
  pub log : List ℕ
  pub printed : IsPrintedLog options.certify (task_of (schedule_of header) plan)
      (labels_of (schedule_of header)) steps log
  pub tape : IsWholeTape log (task_of (schedule_of header) plan)
      (syndrome_of (schedule_of header) rows) (labels_of (schedule_of header))
      (names_of (schedule_of header)) steps (traced_of options.trace events) (fault_of_end end)
      header ran
  pub rounds : AreRounds (schedule_of header) (filter_map take_of tape.moves) left rows end

-- besides, the input is read to its end, and the correction explains what was measured
pub record IsWhole (may_guess : GuessView → Bool → Type 0) (options : DecodeOptions)
    (left : Option (List ℕ)) (ran : List TapeByte) : Type 0 where
  pub decoded : IsDecoded {A = Unit {0}} may_guess options left (Ok tt) ran
  pub explained : IsExplained (schedule_of decoded.header) decoded.plan decoded.rows decoded.steps

-- The plan of a schedule that is accepted was put as one line. The header was taken, and no more
pub record IsPlanned (sizes : PlanSizes) (ran : List TapeByte) : Type 0 where
  pub header : List ℕ
  pub is_header : IsHeader header
  pub plan : WindowPlan
  pub accepted : IsAcceptedAs sizes header plan
  pub text : List ℕ
  pub line : IsPlanLine (task_of (schedule_of header) plan) (labels_of (schedule_of header)) text
  pub ran_is : ran ≡ taken header ++ sent text

-- no schedule was opened: the one of the header is refused, the input ended before its header did,
-- or reading failed before
abbrev pub IsUnopened : PlanSizes → Option (List ℕ) → Status → List TapeByte → Type 0
IsUnopened sizes left ends.Schedule ran =
    (bytes : List ℕ) × (fault : Fault) × IsHeader bytes × IsRefused sizes bytes fault
    × (ran ≡ taken bytes ++ sent (fault_text fault))
IsUnopened sizes left ends.Ended ran =
    (bytes : List ℕ) × (line : ℕ) × IsAtEnd left × (header_of bytes ≡ EndedIn line)
    × (ran ≡ taken bytes ++ sent (fault_text (Ended line)))
IsUnopened sizes left ends.ReadFault ran =
    (bytes : List ℕ) × IsFront bytes × (ran ≡ taken bytes ++ sent (fault_text Read))
IsUnopened sizes left other ran = ⊥

-- what belongs to a status of `decode` with these options, by the guesses that may be made
abbrev pub IsSaidOf : (GuessView → Bool → Type 0) → DecodeOptions → Option (List ℕ) → Status →
    List TapeByte → Type 0
IsSaidOf may_guess options left ends.Ok ran = IsWhole may_guess options left ran
IsSaidOf may_guess options left ends.Usage ran = ⊥
IsSaidOf may_guess options left ends.Schedule ran =
    IsUnopened (sizes_of options.windows) left ends.Schedule ran
IsSaidOf may_guess options left ends.Row ran =
    (line : ℕ) × (kind : _)
    × IsDecoded {A = Unit {0}} may_guess options left (Err (row.Fault line kind)) ran
IsSaidOf may_guess options left ends.Ended ran =
    IsUnopened (sizes_of options.windows) left ends.Ended ran
    ⊎ ((line : ℕ) × IsDecoded {A = Unit {0}} may_guess options left (Err (row.Ended line)) ran)
IsSaidOf may_guess options left ends.ReadFault ran =
    IsUnopened (sizes_of options.windows) left ends.ReadFault ran
    ⊎ IsDecoded {A = Unit {0}} may_guess options left (Err row.ReadFault) ran
IsSaidOf may_guess options left ends.WriteFault ran = ⊥
IsSaidOf may_guess options left ends.Memory ran = ⊥
IsSaidOf may_guess options left ends.Script ran = ⊥
IsSaidOf may_guess options left ends.No ran = ⊥

-- of `replay`
abbrev pub IsReplaySaid : ReplayOptions → Option (List ℕ) → Status → List TapeByte → Type 0
IsReplaySaid options left ends.Ok ran = IsReplayed options left how.Complete ran
IsReplaySaid options left ends.Usage ran = ⊥
IsReplaySaid options left ends.Schedule ran =
    IsUnopened (sizes_of options.windows) left ends.Schedule ran
IsReplaySaid options left ends.Row ran =
    (line : ℕ) × (kind : _) × IsReplayed options left (how.Row line kind) ran
IsReplaySaid options left ends.Ended ran =
    IsUnopened (sizes_of options.windows) left ends.Ended ran
    ⊎ ((line : ℕ) × IsReplayed options left (how.Ended line) ran)
IsReplaySaid options left ends.ReadFault ran =
    IsUnopened (sizes_of options.windows) left ends.ReadFault ran
    ⊎ IsReplayed options left how.ReadFault ran
IsReplaySaid options left ends.WriteFault ran = ⊥
IsReplaySaid options left ends.Memory ran = ⊥
IsReplaySaid options left ends.Script ran =
    (line : ℕ) × IsReplayed options left (how.Script line) ran
IsReplaySaid options left ends.No ran = ⊥

-- and of `plan`
abbrev pub IsPlanSaid : PlanSizes → Option (List ℕ) → Status → List TapeByte → Type 0
IsPlanSaid sizes left ends.Ok ran = IsPlanned sizes ran
IsPlanSaid sizes left ends.Usage ran = ⊥
IsPlanSaid sizes left ends.Schedule ran = IsUnopened sizes left ends.Schedule ran
IsPlanSaid sizes left ends.Row ran = ⊥
IsPlanSaid sizes left ends.Ended ran = IsUnopened sizes left ends.Ended ran
IsPlanSaid sizes left ends.ReadFault ran = IsUnopened sizes left ends.ReadFault ran
IsPlanSaid sizes left ends.WriteFault ran = ⊥
IsPlanSaid sizes left ends.Memory ran = ⊥
IsPlanSaid sizes left ends.Script ran = ⊥
IsPlanSaid sizes left ends.No ran = ⊥

-- what is taken and put at each status, and when it comes, where nothing fails to be written; the
-- words may ask for nothing
abbrev pub IsSaid : (GuessView → Bool → Type 0) → Option Asked → Option (List ℕ) → Status →
    List TapeByte → Type 0
IsSaid may_guess None left ends.Usage ran = ran ≡ sent (fault_text Usage)
IsSaid may_guess None left other ran = ⊥
IsSaid may_guess (Some (Decode options)) left status ran =
    IsSaidOf may_guess options left status ran
IsSaid may_guess (Some (Replay options)) left status ran = IsReplaySaid options left status ran
IsSaid may_guess (Some (Plan sizes)) left status ran = IsPlanSaid sizes left status ran

-- A front of what belongs to some status, with all that is taken: a last stretch of what is put was
-- cut. Reading had failed as often as the first number says before, and as the second says now:
-- only where it failed is `fault read` due
pub record IsCut (may_guess : GuessView → Bool → Type 0) (given : Option Asked)
    (left : Option (List ℕ)) (reads reads' : ℕ) (ran : List TapeByte) : Type 0 where
  pub status : Status
  pub front : List TapeByte
  pub text : List ℕ
  pub count : ℕ
  pub said : IsSaid may_guess given left status (front ++ sent text)
  pub cut : ran ≡ front ++ sent (take count text)
  pub cause : status ≡ ends.ReadFault → Rose reads reads'

-- A schedule was accepted, and after the header these moves took rows and put releases of a run on
-- them, none twice and each in time
pub record IsUnderWay (sizes : PlanSizes) (left : Option (List ℕ)) (header : List ℕ)
    (moves : List Move) : Type 0 where
  pub is_header : IsHeader header
  pub plan : WindowPlan
  pub accepted : IsAcceptedAs sizes header plan
  pub way : IsPartWay (schedule_of header) (task_of (schedule_of header) plan) left moves

-- The line of a release was due, and a front of it was put
pub record IsCutRelease (sizes : PlanSizes) (left : Option (List ℕ))
    (ran : List TapeByte) : Type 0 where
  pub header : List ℕ
  pub moves : List Move
  pub operation : ℕ
  pub bit : Bool
  pub count : ℕ
  pub due : IsUnderWay sizes left header (moves ++ Put operation bit ∷ [])
  pub all_arrived : (after_all start due.way.steps).arrived ≡ length due.way.rows
  pub cut : ran ≡ taken header ++ flat_map (bytes_of (labels_of (schedule_of header))) moves
      ++ sent (take count (release_line (labels_of (schedule_of header)) operation bit))

-- Memory was wanting: no output is put. Either nothing is put at all, or there are the releases
-- that were put in time
abbrev pub IsBroken : Asked → Option (List ℕ) → List TapeByte → Type 0
IsBroken (Decode options) left ran =
    ((bytes : List ℕ) × (ran ≡ taken bytes))
    ⊎ ((header : List ℕ) × (moves : List Move)
    × IsUnderWay (sizes_of options.windows) left header moves
    × (ran ≡ taken header ++ flat_map (bytes_of (labels_of (schedule_of header))) moves))
IsBroken (Replay options) left ran = (bytes : List ℕ) × (ran ≡ taken bytes)
IsBroken (Plan sizes) left ran = (bytes : List ℕ) × (ran ≡ taken bytes)

-- what is taken and put at each status, by what the words ask for and the guesses that may be made;
-- a failed write leaves a front of it, and where memory is wanting for the words themselves nothing
-- is taken
abbrev pub IsAnswerBy : (GuessView → Bool → Type 0) → Option Asked → Option (List ℕ) →
    (reads reads' : ℕ) → Status → List TapeByte → Type 0
IsAnswerBy may_guess given left reads reads' ends.WriteFault ran =
    IsCut may_guess given left reads reads' ran
    ⊎ ((options : DecodeOptions) × (given ≡ Some (Decode options))
    × IsCutRelease (sizes_of options.windows) left ran)
IsAnswerBy may_guess given left reads reads' ends.Memory ran =
    (ran ≡ []) ⊎ ((asked : Asked) × (given ≡ Some asked) × IsBroken asked left ran)
IsAnswerBy may_guess given left reads reads' other ran = IsSaid may_guess given left other ran

-- the guesses of the predictor that the words name
abbrev pub guesses_of : Option Asked → GuessView → Bool → Type 0
guesses_of (Some (Decode options)) view answer =
    may_guess_of options.guessing.predictor view answer
guesses_of other view answer = ⊥

-- where these may be made
abbrev pub IsAnswerTo : Option Asked → Option (List ℕ) → (reads reads' : ℕ) → Status →
    List TapeByte → Type 0
IsAnswerTo given left reads reads' status ran =
    IsAnswerBy (guesses_of given) given left reads reads' status ran

-- No schedule was opened, and a front of what is said of it was put
pub record IsCutRefusal (sizes : PlanSizes) (left : Option (List ℕ)) (reads reads' : ℕ)
    (ran : List TapeByte) : Type 0 where
  pub status : Status
  pub front : List TapeByte
  pub text : List ℕ
  pub count : ℕ
  pub unopened : IsUnopened sizes left status (front ++ sent text)
  pub cut : ran ≡ front ++ sent (take count text)
  pub cause : status ≡ ends.ReadFault → Rose reads reads'

-- what is taken and put where no schedule is opened
abbrev pub IsRefusal : PlanSizes → Option (List ℕ) → (reads reads' : ℕ) → Status →
    List TapeByte → Type 0
IsRefusal sizes left reads reads' ends.WriteFault ran = IsCutRefusal sizes left reads reads' ran
IsRefusal sizes left reads reads' ends.Memory ran = (bytes : List ℕ) × (ran ≡ taken bytes)
IsRefusal sizes left reads reads' other ran = IsUnopened sizes left other ran

-- the same for all that words may ask for
abbrev pub IsAnswerOf : Option Request → Option (List ℕ) → (reads reads' : ℕ) → Status →
    List TapeByte → Type 0
IsAnswerOf None left reads reads' status ran = IsAnswerTo None left reads reads' status ran
IsAnswerOf (Some (OfInput asked)) left reads reads' status ran =
    IsAnswerTo (Some asked) left reads reads' status ran
IsAnswerOf (Some (Make options)) left reads reads' status ran = IsMadeAnswer options status ran

-- the same between two states of the port
abbrev pub IsAnswer : {P : Type 0} → PortOf P → P → P → List (List ℕ) → Status → List TapeByte →
    Type 0
IsAnswer port old new words status ran =
    IsAnswerOf (request_of words) (port.left new) (port.read_faults old) (port.read_faults new)
    status ran

-- the statuses of a run whose words are accepted, but for the one of a script at fault
abbrev pub is_of_accepted : Status → Bool
is_of_accepted ends.Usage = false
is_of_accepted ends.Script = false
is_of_accepted ends.No = false
is_of_accepted other = true

-- with it, where a replay is asked for
abbrev pub is_of_replay : Status → Bool
is_of_replay ends.Usage = false
is_of_replay ends.No = false
is_of_replay other = true

abbrev pub is_of_asked : Asked → Status → Bool
is_of_asked (Decode options) status = is_of_accepted status
is_of_asked (Replay options) status = is_of_replay status
is_of_asked (Plan sizes) status = is_of_accepted status

abbrev pub is_of_request : Request → Status → Bool
is_of_request (OfInput asked) status = is_of_asked asked status
is_of_request (Make options) status = is_of_accepted status

-- the words ask for a replay
abbrev pub AskForReplay : List (List ℕ) → Type 0
AskForReplay words =
    (options : ReplayOptions) × (request_of words ≡ Some (OfInput (Replay options)))

-- the input is a header whose schedule is accepted and as many good rows as it has slots
pub record IsGoodRun (options : DecodeOptions) (input : List ℕ) : Type 0 where
  pub header : List ℕ
  pub body : List ℕ
  pub input_is : input ≡ header ++ body
  pub is_header : IsHeader header
  pub plan : WindowPlan
  pub accepted : IsAcceptedAs (sizes_of options.windows) header plan
  pub good : (rounds_of (schedule_of header) body).ending ≡ Good

-- the words ask to decode, and the input is such a one
pub record IsGoodInput (words : List (List ℕ)) (input : List ℕ) : Type 0 where
  pub options : DecodeOptions
  pub given : request_of words ≡ Some (OfInput (Decode options))
  pub run : IsGoodRun options input

-- the words ask for a plan, and the input begins with a header whose schedule is accepted
pub record IsGoodHeader (words : List (List ℕ)) (input : List ℕ) : Type 0 where
  pub sizes : PlanSizes
  pub given : request_of words ≡ Some (OfInput (Plan sizes))
  pub header : List ℕ
  pub body : List ℕ
  pub input_is : input ≡ header ++ body
  pub is_header : IsHeader header
  pub plan : WindowPlan
  pub accepted : IsAcceptedAs sizes header plan

-- The words ask for a replay, and the input is a header whose schedule is accepted, a good row for
-- each slot with its line feed, the line `script`, and a script without fault
pub record IsGoodScript (words : List (List ℕ)) (input : List ℕ) : Type 0 where
  pub options : ReplayOptions
  pub given : request_of words ≡ Some (OfInput (Replay options))
  pub header : List ℕ
  pub body : List ℕ
  pub input_is : input ≡ header ++ body
  pub is_header : IsHeader header
  pub plan : WindowPlan
  pub accepted : IsAcceptedAs (sizes_of options.windows) header plan
  pub front : List ℕ
  pub rows : List (List Bool)
  pub script : List ℕ
  pub body_is : body ≡ front ++ due_line ++ script
  pub fed : AreAllFed (schedule_of header) front rows
  pub faultless : (cut : WindowPlan) → IsAcceptedAs (sizes_of options.windows) header cut →
      IsFaultless (stage_on (subject_of options header cut) rows) (due_number (schedule_of header)
      + 1) script

-- the words ask for a made input whose schedule doesn't have too many detectors
pub record AskForInput (words : List (List ℕ)) : Type 0 where
  pub options : MakeOptions
  pub given : request_of words ≡ Some (Make options)
  pub few : HasTooManyDetectors (schedule_made options) → ⊥

-- how a run ends with this text: it is put whole, or a front of it is
abbrev pub Concludes : Status → Status → List ℕ → Option (List ℕ) → Option (List ℕ) →
    Option (List TapeByte) → Option (List TapeByte) → Type 0
Concludes status result text left left' tape tape' =
    ((result ≡ status) × Goes (sent text) left left' tape tape')
    ⊎ ((result ≡ ends.WriteFault) × ((n : ℕ) × Goes (sent (take n text)) left left' tape tape'))

-- the text is what is said of the rows that were read and decoded, where their reading ended so
pub record IsReportOf {A : Type 0} (labels names : List (List ℕ)) (d : DecoderView)
    (options : DecodeOptions) (end : Result A RowError) (text : List ℕ) : Type 0 where
  pub log : List ℕ
  pub printed : IsPrintedLog options.certify d.progress.task labels d.progress.steps log
  pub text_is : (s : Syndrome) → Fits s d.progress →
      text ≡ output_with log d.progress.task s labels names d.progress.steps
      (traced_of options.trace d.events) (fault_of_end end)

-- what is put of them: the whole output, or a front of it, or without memory nothing
abbrev pub Tells : {A : Type 0} → (labels names : List (List ℕ)) → DecoderView →
    DecodeOptions → Result A RowError → Status → Option (List ℕ) → Option (List ℕ) →
    Option (List TapeByte) → Option (List TapeByte) → Type 0
Tells labels names d options end result left left' tape tape' =
    ((result ≡ ends.Memory) × Goes [] left left' tape tape')
    ⊎ ((text : List ℕ) × IsReportOf labels names d options end text
    × Concludes (status_of_end end) result text left left' tape tape')

-- the status where a run breaks off
abbrev pub status_of_stop : PutError → Status
status_of_stop stop.WriteFault = ends.WriteFault
status_of_stop stop.Memory = ends.Memory

-- the status of a replay that ended so, or broke off
abbrev pub status_of_reply : Result End PutError → Status
status_of_reply (Ok how_) = status_of_replay how_
status_of_reply (Err error) = status_of_stop error

-- the exit code
abbrev pub code_of : Status → ℕ
code_of ends.Ok = 0
code_of ends.Usage = 1
code_of ends.Schedule = 2
code_of ends.Row = 3
code_of ends.Ended = 4
code_of ends.ReadFault = 5
code_of ends.WriteFault = 6
code_of ends.Memory = 7
code_of ends.Script = 8
code_of ends.No = 9
