-- From what was put of a made input to the answer, and when it is whole.
use Rattle.std.proofs.Common.{◌≡◌, ◌⊎◌, inl, inr, ℕ, List, Option, take, refl, sym, subst}
use Rattle.port_io.specs.Port.{sent}
use Rattle.port_io.specs.Traffic.{Goes}
use Rattle.port_io.specs.declared.port.TapeByte.{TapeByte}
use Rattle.surface_model.specs.Measurements.{HasTooManyDetectors}
use Rattle.run_words.specs.declared.command.MakeOptions.{MakeOptions}
use Rattle.swiper_run.specs.Answers.{Concludes}
use Rattle.swiper_run.specs.Made.{IsMadeAnswer, IsMadeText, schedule_made}
use Rattle.swiper_run.specs.declared.top.Status.{Status}
use Rattle.swiper_run.specs.declared.top.Status.TheVariants as ends

whole_made : (o : MakeOptions) (status : Status) (text : List ℕ) → IsMadeText o status text →
    IsMadeAnswer o status (sent text)
whole_made o ends.WriteFault text said = absurd said
whole_made o ends.Memory text said = absurd said
whole_made o ends.Ok text said = (text, said, refl)
whole_made o ends.Usage text said = (text, said, refl)
whole_made o ends.Schedule text said = (text, said, refl)
whole_made o ends.Row text said = (text, said, refl)
whole_made o ends.Ended text said = (text, said, refl)
whole_made o ends.ReadFault text said = (text, said, refl)
whole_made o ends.Script text said = (text, said, refl)
whole_made o ends.No text said = (text, said, refl)

-- where the text that belongs to the status is put, as far as it goes, the tape has the answer
pub made_answer : (o : MakeOptions) (status result : Status) (text : List ℕ)
    (b c : Option (List ℕ)) (u v : Option (List TapeByte)) → Concludes status result text b c u v →
    IsMadeText o status text → (ran : List TapeByte) × Goes ran b c u v × IsMadeAnswer o result ran
made_answer o status result text b c u v done said = elim done [
  | inl whole ↦ (
    sent text,
    whole.1,
    subst (λ s. IsMadeAnswer o s (sent text)) (sym whole.0) (whole_made o status text said),
  )
  | inr cut ↦
      let n = cut.1.0 in (
        sent (take n text),
        cut.1.1,
        subst (λ s. IsMadeAnswer o s (sent (take n text))) (sym cut.0)
            (status, text, n, said, refl),
      )
]

-- where the schedule hasn't too many detectors and no write fails, the status is 0, or memory was
-- wanting
pub made_well : (o : MakeOptions) (status : Status) (ran : List TapeByte) →
    IsMadeAnswer o status ran → (HasTooManyDetectors (schedule_made o) → ⊥) →
    (status ≡ ends.WriteFault → ⊥) → (status ≡ ends.Ok) ⊎ (status ≡ ends.Memory)
made_well o ends.Ok ran answer few written = inl refl
made_well o ends.Memory ran answer few written = inr refl
made_well o ends.WriteFault ran answer few written = absurd (written refl)
made_well o ends.Schedule ran answer few written = absurd (few answer.1.0)
made_well o ends.Usage ran answer few written = absurd answer.1
made_well o ends.Row ran answer few written = absurd answer.1
made_well o ends.Ended ran answer few written = absurd answer.1
made_well o ends.ReadFault ran answer few written = absurd answer.1
made_well o ends.Script ran answer few written = absurd answer.1
made_well o ends.No ran answer few written = absurd answer.1
