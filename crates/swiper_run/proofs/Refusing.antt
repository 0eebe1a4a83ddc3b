-- From why no schedule was opened to the answer.
use Rattle.std.proofs.Common.{◌≡◌, inl, inr, ℕ, Bool, List, ◌++◌, Some, take, refl, sym, subst}
use Rattle.std.specs.declared.option.Option.{Option}
use Rattle.port_io.specs.Port.{Rose, sent}
use Rattle.port_io.specs.Traffic.{Goes, taken}
use Rattle.port_io.specs.declared.port.TapeByte.{TapeByte}
use Rattle.report_model.specs.Faults.{Ended as EndedEarly, Read, fault_text}
use Rattle.run_header.specs.Openings.{IsNotOpened, fault_of}
use Rattle.run_header.specs.declared.refusal.OpeningError.TheVariants as error
use Rattle.run_header.specs.declared.sizes.PlanSizes.{PlanSizes}
use Rattle.window_model.specs.declared.GuessView.{GuessView}
use Rattle.swiper_run.specs.Answers.{Concludes, IsAnswerBy, IsRefusal, IsSaid, IsUnopened}
use Rattle.swiper_run.specs.Words.{sizes_asked}
use Rattle.swiper_run.specs.declared.words.Asked.{Asked}
use Rattle.swiper_run.specs.declared.words.Asked.TheVariants.{Decode, Plan, Replay}
use Rattle.swiper_run.specs.declared.top.Status.{Status}
use Rattle.swiper_run.specs.declared.top.Status.TheVariants as ends
use Rattle.swiper_run.proofs.Concluding.{nothing_put}

pub refused_unopened : (sizes : PlanSizes) (bytes : List ℕ) (left : Option (List ℕ)) (why : _) →
    IsNotOpened sizes bytes left (error.Refused why) →
    IsUnopened sizes left ends.Schedule (taken bytes ++ sent (fault_text (fault_of why)))
refused_unopened sizes bytes left why none = (bytes, fault_of why, none.0, none.1, refl)

pub ended_unopened : (sizes : PlanSizes) (bytes : List ℕ) (left : Option (List ℕ)) (line : ℕ) →
    IsNotOpened sizes bytes left (error.Ended line) →
    IsUnopened sizes left ends.Ended (taken bytes ++ sent (fault_text (EndedEarly line)))
ended_unopened sizes bytes left line none = (bytes, line, none.0, none.1, refl)

pub failed_unopened : (sizes : PlanSizes) (bytes : List ℕ) (left : Option (List ℕ)) →
    IsNotOpened sizes bytes left error.ReadFault →
    IsUnopened sizes left ends.ReadFault (taken bytes ++ sent (fault_text Read))
failed_unopened sizes bytes left none = (bytes, none, refl)

-- what is said whole
whole_refusal : (sizes : PlanSizes) (left : Option (List ℕ)) (reads reads' : ℕ) (status : Status)
    (ran : List TapeByte) → IsUnopened sizes left status ran →
    IsRefusal sizes left reads reads' status ran
whole_refusal sizes left reads reads' ends.Ok ran said = said
whole_refusal sizes left reads reads' ends.Usage ran said = said
whole_refusal sizes left reads reads' ends.Schedule ran said = said
whole_refusal sizes left reads reads' ends.Row ran said = said
whole_refusal sizes left reads reads' ends.Ended ran said = said
whole_refusal sizes left reads reads' ends.ReadFault ran said = said
whole_refusal sizes left reads reads' ends.WriteFault ran said = absurd said
whole_refusal sizes left reads reads' ends.Memory ran said = absurd said
whole_refusal sizes left reads reads' ends.Script ran said = said
whole_refusal sizes left reads reads' ends.No ran said = said

-- where the text that belongs to the status is put after what stands, as far as it goes
pub put_refusal : (sizes : PlanSizes) (reads reads' : ℕ) (status result : Status)
    (front : List TapeByte) (text : List ℕ) (b c : Option (List ℕ)) (u v : Option (List TapeByte)) →
    c ≡ b → (status ≡ ends.ReadFault → Rose reads reads') → Concludes status result text b c u v →
    IsUnopened sizes b status (front ++ sent text) →
    (last : List TapeByte) × Goes last b c u v × IsRefusal sizes c reads reads' result
    (front ++ last)
put_refusal sizes reads reads' status result front text b c u v same cause done said =
    let said_now : IsUnopened sizes c status (front ++ sent text) =
    subst (λ l. IsUnopened sizes l status (front ++ sent text)) (sym same) said in
    elim done [
      | inl whole ↦ (
        sent text,
        whole.1,
        subst (λ s. IsRefusal sizes c reads reads' s (front ++ sent text)) (sym whole.0)
            (whole_refusal sizes c reads reads' status (front ++ sent text) said_now),
      )
      | inr cut ↦
          let n = cut.1.0 in (
            sent (take n text),
            cut.1.1,
            subst (λ s. IsRefusal sizes c reads reads' s (front ++ sent (take n text))) (sym cut.0)
                (record {
                  status = status;
                  front = front;
                  text = text;
                  count = n;
                  unopened = said_now;
                  cut = refl;
                  cause = cause;
                }),
          )
    ]

-- ---- whatever is asked for, and whatever guesses may be made
module _ (may_guess : GuessView → Bool → Type 0) (left : Option (List ℕ)) where
  unopened_said : (asked : Asked) (status : Status) (ran : List TapeByte) →
      IsUnopened (sizes_asked asked) left status ran → IsSaid may_guess (Some asked) left status ran
  unopened_said asked ends.Ok ran said = absurd said
  unopened_said asked ends.Usage ran said = absurd said
  unopened_said (Decode options) ends.Schedule ran said = said
  unopened_said (Replay options) ends.Schedule ran said = said
  unopened_said (Plan sizes) ends.Schedule ran said = said
  unopened_said asked ends.Row ran said = absurd said
  unopened_said (Decode options) ends.Ended ran said = inl said
  unopened_said (Replay options) ends.Ended ran said = inl said
  unopened_said (Plan sizes) ends.Ended ran said = said
  unopened_said (Decode options) ends.ReadFault ran said = inl said
  unopened_said (Replay options) ends.ReadFault ran said = inl said
  unopened_said (Plan sizes) ends.ReadFault ran said = said
  unopened_said asked ends.WriteFault ran said = absurd said
  unopened_said asked ends.Memory ran said = absurd said
  unopened_said asked ends.Script ran said = absurd said
  unopened_said asked ends.No ran said = absurd said

  pub refusal_answer : (asked : Asked) (reads reads' : ℕ) (status : Status) (ran : List TapeByte) →
      IsRefusal (sizes_asked asked) left reads reads' status ran →
      IsAnswerBy may_guess (Some asked) left reads reads' status ran
  refusal_answer asked reads reads' ends.WriteFault ran cut = inl (record {
    status = cut.status;
    front = cut.front;
    text = cut.text;
    count = cut.count;
    said = unopened_said asked cut.status (cut.front ++ sent cut.text) cut.unopened;
    cut = cut.cut;
    cause = cut.cause;
  })
  refusal_answer asked reads reads' ends.Memory ran none =
      subst (IsAnswerBy may_guess (Some asked) left reads reads' ends.Memory) (sym none.1)
      (nothing_put may_guess asked left reads reads' none.0)
  refusal_answer asked reads reads' ends.Ok ran said = absurd said
  refusal_answer asked reads reads' ends.Usage ran said = absurd said
  refusal_answer asked reads reads' ends.Schedule ran said =
      unopened_said asked ends.Schedule ran said
  refusal_answer asked reads reads' ends.Row ran said = absurd said
  refusal_answer asked reads reads' ends.Ended ran said = unopened_said asked ends.Ended ran said
  refusal_answer asked reads reads' ends.ReadFault ran said =
      unopened_said asked ends.ReadFault ran said
  refusal_answer asked reads reads' ends.Script ran said = absurd said
  refusal_answer asked reads reads' ends.No ran said = absurd said
