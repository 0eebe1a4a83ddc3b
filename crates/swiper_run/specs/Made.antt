-- What a run answers whose words ask for a made input: it takes nothing, and puts the input, or how
-- many detectors are too many.
use Rattle.std.specs.Prelude.{◌≡◌, ◌≤◌, ℕ, List, [], length, take}
use Rattle.port_io.specs.Port.{sent}
use Rattle.port_io.specs.declared.port.TapeByte.{TapeByte}
use Rattle.surface_model.specs.Limits.{most_detectors}
use Rattle.surface_model.specs.Measurements.{HasTooManyDetectors, detectors}
use Rattle.surface_model.specs.Parse.{schedule_of}
use Rattle.surface_model.specs.Schedules.{Schedule}
use Rattle.report_model.specs.Faults.{TooLarge, fault_text}
use Rattle.run_words.specs.declared.command.MakeOptions.{MakeOptions}
use Rattle.workload_maker.specs.Headers.{made_header}
use Rattle.workload_maker.specs.Inputs.{made_text}
use Rattle.swiper_run.specs.declared.top.Status.{Status}
use Rattle.swiper_run.specs.declared.top.Status.TheVariants as ends

-- the schedule that is made, and the whole input
abbrev pub schedule_made : MakeOptions → Schedule
schedule_made o = schedule_of (made_header o.distance o.patches o.slots)

abbrev pub input_made : MakeOptions → List ℕ
input_made o = made_text o.distance o.patches o.slots o.seed

-- what belongs to each status, where nothing fails to be written
abbrev pub IsMadeText : MakeOptions → Status → List ℕ → Type 0
IsMadeText o ends.Ok text =
    (length (detectors (schedule_made o)) ≤ most_detectors) × (text ≡ input_made o)
IsMadeText o ends.Schedule text =
    HasTooManyDetectors (schedule_made o)
    × (text ≡ fault_text (TooLarge (length (detectors (schedule_made o)))))
IsMadeText o other text = ⊥

-- a failed write leaves a front of it, and without memory nothing is put
abbrev pub IsMadeAnswer : MakeOptions → Status → List TapeByte → Type 0
IsMadeAnswer o ends.WriteFault ran =
    (status : Status) × (text : List ℕ) × (count : ℕ) × IsMadeText o status text
    × (ran ≡ sent (take count text))
IsMadeAnswer o ends.Memory ran = ran ≡ []
IsMadeAnswer o other ran = (text : List ℕ) × IsMadeText o other text × (ran ≡ sent text)
