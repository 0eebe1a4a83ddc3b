-- From what a run took, and the text that belongs to its status, to its answer.
use Rattle.std.proofs.Common.{◌≡◌, ◌≤◌, arith, ◌⊎◌, inl, inr, ℕ, Bool, true, false, List, [], ◌++◌, None, Some, Ok, Err, take, refl, sym, ap, ◌∙◌, subst, append_assoc}
use Rattle.std.specs.declared.option.Option.{Option}
use Rattle.std.specs.declared.result.Result.{Result}
use Rattle.port_io.specs.Port.{Rose, sent}
use Rattle.port_io.specs.Traffic.{Goes, taken}
use Rattle.port_io.specs.declared.port.TapeByte.{TapeByte}
use Rattle.port_io.proofs.Traffic.{goes_both}
use Rattle.surface_model.specs.Parse.{schedule_of}
use Rattle.window_model.specs.declared.GuessView.{GuessView}
use Rattle.syndrome_source.specs.declared.error.RowError.{RowError}
use Rattle.syndrome_source.specs.declared.error.RowError.TheVariants.{Fault, Ended, ReadFault, Memory}
use Rattle.run_words.specs.declared.command.DecodeOptions.{DecodeOptions}
use Rattle.run_words.specs.declared.command.ReplayOptions.{ReplayOptions}
use Rattle.swiper_run.specs.Reports.{IsExplained}
use Rattle.swiper_run.specs.Answers.{IsSaid, IsAnswerBy, IsAnswerOf, IsDecoded, Concludes, is_of_accepted, is_of_asked, is_of_replay, is_of_request, status_of_end}
use Rattle.swiper_run.specs.declared.words.Asked.{Asked}
use Rattle.swiper_run.specs.declared.words.Asked.TheVariants.{Decode, Plan, Replay}
use Rattle.swiper_run.specs.declared.words.Request.{Request}
use Rattle.swiper_run.specs.declared.words.Request.TheVariants.{OfInput, Make}
use Rattle.swiper_run.specs.declared.top.Status.{Status}
use Rattle.swiper_run.specs.declared.top.Status.TheVariants as ends

-- whatever guesses may be made
module _ (may_guess : GuessView → Bool → Type 0) where
  -- what is said whole is the answer
  pub said_answer : (given : Option Asked) (left : Option (List ℕ))
      (reads reads' : ℕ) (status : Status) (ran : List TapeByte) → IsSaid may_guess given left
      status ran →
      IsAnswerBy may_guess given left reads reads' status ran
  said_answer None left reads reads' ends.WriteFault ran said = absurd said
  said_answer None left reads reads' ends.Memory ran said = absurd said
  said_answer None left reads reads' ends.Ok ran said = said
  said_answer None left reads reads' ends.Usage ran said = said
  said_answer None left reads reads' ends.Schedule ran said = said
  said_answer None left reads reads' ends.Row ran said = said
  said_answer None left reads reads' ends.Ended ran said = said
  said_answer None left reads reads' ends.ReadFault ran said = said
  said_answer None left reads reads' ends.Script ran said = said
  said_answer None left reads reads' ends.No ran said = said
  said_answer (Some (Decode options)) left reads reads' ends.WriteFault ran said = absurd said
  said_answer (Some (Decode options)) left reads reads' ends.Memory ran said = absurd said
  said_answer (Some (Decode options)) left reads reads' ends.Ok ran said = said
  said_answer (Some (Decode options)) left reads reads' ends.Usage ran said = said
  said_answer (Some (Decode options)) left reads reads' ends.Schedule ran said = said
  said_answer (Some (Decode options)) left reads reads' ends.Row ran said = said
  said_answer (Some (Decode options)) left reads reads' ends.Ended ran said = said
  said_answer (Some (Decode options)) left reads reads' ends.ReadFault ran said = said
  said_answer (Some (Decode options)) left reads reads' ends.Script ran said = said
  said_answer (Some (Decode options)) left reads reads' ends.No ran said = said
  said_answer (Some (Replay options)) left reads reads' ends.WriteFault ran said = absurd said
  said_answer (Some (Replay options)) left reads reads' ends.Memory ran said = absurd said
  said_answer (Some (Replay options)) left reads reads' ends.Ok ran said = said
  said_answer (Some (Replay options)) left reads reads' ends.Usage ran said = said
  said_answer (Some (Replay options)) left reads reads' ends.Schedule ran said = said
  said_answer (Some (Replay options)) left reads reads' ends.Row ran said = said
  said_answer (Some (Replay options)) left reads reads' ends.Ended ran said = said
  said_answer (Some (Replay options)) left reads reads' ends.ReadFault ran said = said
  said_answer (Some (Replay options)) left reads reads' ends.Script ran said = said
  said_answer (Some (Replay options)) left reads reads' ends.No ran said = said
  said_answer (Some (Plan sizes)) left reads reads' ends.WriteFault ran said = absurd said
  said_answer (Some (Plan sizes)) left reads reads' ends.Memory ran said = absurd said
  said_answer (Some (Plan sizes)) left reads reads' ends.Ok ran said = said
  said_answer (Some (Plan sizes)) left reads reads' ends.Usage ran said = said
  said_answer (Some (Plan sizes)) left reads reads' ends.Schedule ran said = said
  said_answer (Some (Plan sizes)) left reads reads' ends.Row ran said = said
  said_answer (Some (Plan sizes)) left reads reads' ends.Ended ran said = said
  said_answer (Some (Plan sizes)) left reads reads' ends.ReadFault ran said = said
  said_answer (Some (Plan sizes)) left reads reads' ends.Script ran said = said
  said_answer (Some (Plan sizes)) left reads reads' ends.No ran said = said

  -- where the text that belongs to the status is put after what stands, as far as it goes, the tape
  -- has the answer
  pub put_answer : (given : Option Asked) (reads reads' : ℕ) (status result : Status)
      (front : List TapeByte) (text : List ℕ) (b c : Option (List ℕ)) (u v : Option (List TapeByte))
      →
      c ≡ b → (status ≡ ends.ReadFault → Rose reads reads') → Concludes status result text b c u v →
      IsSaid may_guess given b status (front ++ sent text) →
      (last : List TapeByte) × Goes last b c u v × IsAnswerBy may_guess given c reads reads' result
      (front
      ++ last)
  put_answer given reads reads' status result front text b c u v same cause done said =
      let said_now : IsSaid may_guess given c status (front ++ sent text) =
      subst (λ l. IsSaid may_guess given l status (front ++ sent text)) (sym same) said in
      elim done [
        | inl whole ↦ (
          sent text,
          whole.1,
          subst (λ s. IsAnswerBy may_guess given c reads reads' s (front ++ sent text))
              (sym whole.0)
              (said_answer given c reads reads' status (front ++ sent text) said_now),
        )
        | inr cut ↦
            let n = cut.1.0 in (
              sent (take n text),
              cut.1.1,
              subst (λ s. IsAnswerBy may_guess given c reads reads' s (front ++ sent (take n text)))
                  (sym cut.0)
                  (inl (record {
                    status = status;
                    front = front;
                    text = text;
                    count = n;
                    said = said_now;
                    cut = refl;
                    cause = cause;
                  })),
            )
      ]

  -- the same after what stands in front
  pub behind : (given : Option Asked) (reads reads' : ℕ) (result : Status) (front : List TapeByte)
      (a b c : Option (List ℕ)) (t u v : Option (List TapeByte)) → Goes front a b t u →
      (last : List TapeByte) × Goes last b c u v
      × IsAnswerBy may_guess given c reads reads' result (front ++ last) → (ran : List TapeByte)
      × Goes ran a c t v × IsAnswerBy may_guess given c reads reads' result ran
  behind given reads reads' result front a b c t u v stood put_ =
      (front ++ put_.0, goes_both front put_.0 a b c t u v stood put_.1, put_.2)

  -- likewise in the middle, where more stands in front
  pub behind_more : (given : Option Asked) (reads reads' : ℕ) (result : Status)
      (first front : List TapeByte) (a b c : Option (List ℕ)) (t u v : Option (List TapeByte)) →
      Goes front a b t u →
      (last : List TapeByte) × Goes last b c u v
      × IsAnswerBy may_guess given c reads reads' result ((first ++ front) ++ last) →
      (more : List TapeByte)
      × Goes more a c t v × IsAnswerBy may_guess given c reads reads' result (first ++ more)
  behind_more given reads reads' result first front a b c t u v stood put_ = (
    front ++ put_.0,
    goes_both front put_.0 a b c t u v stood put_.1,
    subst (IsAnswerBy may_guess given c reads reads' result) (append_assoc first front put_.0)
        put_.2,
  )

  -- without memory no output is put
  pub nothing_put : (asked : Asked) (left : Option (List ℕ)) (reads reads' : ℕ) (bytes : List ℕ) →
      IsAnswerBy may_guess (Some asked) left reads reads' ends.Memory (taken bytes)
  nothing_put (Decode options) left reads reads' bytes =
      inr (Decode options, refl, inl (bytes, refl))
  nothing_put (Replay options) left reads reads' bytes = inr (Replay options, refl, (bytes, refl))
  nothing_put (Plan sizes) left reads reads' bytes = inr (Plan sizes, refl, (bytes, refl))

  -- what rose since a later time rose since an earlier one
  pub answer_since : (given : Option Asked) (left : Option (List ℕ)) (earlier reads reads' : ℕ)
      (status : Status) (ran : List TapeByte) → earlier ≤ reads →
      IsAnswerBy may_guess given left reads reads' status ran → IsAnswerBy may_guess given left
      earlier reads' status ran
  answer_since given left earlier reads reads' ends.WriteFault ran l answer =
      elim answer [
        | inl cut ↦
            inl (record {
              status = cut.status;
              front = cut.front;
              text = cut.text;
              count = cut.count;
              said = cut.said;
              cut = cut.cut;
              cause = λ e. let rose = cut.cause e in
                  omega (arith, l, rose);
            })
        | inr cut ↦ inr cut
      ]
  answer_since given left earlier reads reads' ends.Memory ran l answer = answer
  answer_since given left earlier reads reads' ends.Ok ran l answer = answer
  answer_since given left earlier reads reads' ends.Usage ran l answer = answer
  answer_since given left earlier reads reads' ends.Schedule ran l answer = answer
  answer_since given left earlier reads reads' ends.Row ran l answer = answer
  answer_since given left earlier reads reads' ends.Ended ran l answer = answer
  answer_since given left earlier reads reads' ends.ReadFault ran l answer = answer
  answer_since given left earlier reads reads' ends.Script ran l answer = answer
  answer_since given left earlier reads reads' ends.No ran l answer = answer

  -- what is decoded belongs to the status of its end
  pub decoded_said : (options : DecodeOptions) (left : Option (List ℕ))
      (end : Result (Unit {0}) RowError)
      (ran : List TapeByte) (decoded : IsDecoded may_guess options left end ran) →
      (end ≡ Ok tt → IsExplained (schedule_of decoded.header) decoded.plan decoded.rows
      decoded.steps) → IsSaid may_guess (Some (Decode options)) left (status_of_end end) ran
  decoded_said options left (Ok tt) ran decoded explained =
      record { decoded = decoded; explained = explained refl }
  decoded_said options left (Err (Fault line kind)) ran decoded explained = (line, kind, decoded)
  decoded_said options left (Err (Ended line)) ran decoded explained = inr (line, decoded)
  decoded_said options left (Err ReadFault) ran decoded explained = inr decoded
  decoded_said options left (Err Memory) ran decoded explained = absurd decoded.rounds

-- and nothing at all where it was wanting for the words
pub nothing_answered : (given : Option Request) (left : Option (List ℕ)) (reads reads' : ℕ) →
    IsAnswerOf given left reads reads' ends.Memory []
nothing_answered None left reads reads' = inl refl
nothing_answered (Some (OfInput asked)) left reads reads' = inl refl
nothing_answered (Some (Make options)) left reads reads' = refl

-- ---- statuses and their causes

pub status_read : (end : Result (Unit {0}) RowError) → status_of_end end ≡ ends.ReadFault →
    end ≡ Err ReadFault
status_read (Ok done) e = absurd cc
status_read (Err (Fault line kind)) e = absurd cc
status_read (Err (Ended line)) e = absurd cc
status_read (Err ReadFault) e = refl
status_read (Err Memory) e = absurd cc

pub status_write : (end : Result (Unit {0}) RowError) → status_of_end end ≡ ends.WriteFault → ⊥
status_write (Ok done) e = cc
status_write (Err (Fault line kind)) e = cc
status_write (Err (Ended line)) e = cc
status_write (Err ReadFault) e = cc
status_write (Err Memory) e = cc

-- of a status that is put, or a failed write
pub was_read : (status result : Status) → (result ≡ status) ⊎ (result ≡ ends.WriteFault) →
    result ≡ ends.ReadFault → status ≡ ends.ReadFault
was_read status result same is = elim same [
  | inl e ↦ sym e ∙ is
  | inr e ↦ let h : ends.ReadFault
      ≡ ends.WriteFault = sym is ∙ e in absurd cc
]

-- ---- statuses of accepted words

pub accepted_end : (end : Result (Unit {0}) RowError) → is_of_accepted (status_of_end end) ≡ true
accepted_end (Ok done) = refl
accepted_end (Err (Fault line kind)) = refl
accepted_end (Err (Ended line)) = refl
accepted_end (Err ReadFault) = refl
accepted_end (Err Memory) = refl

pub accepted_or_cut : (status result : Status) → (result ≡ status) ⊎ (result ≡ ends.WriteFault) →
    is_of_accepted status ≡ true → is_of_accepted result ≡ true
accepted_or_cut status result same is = elim same [
  | inl e ↦ ap is_of_accepted e
      ∙ is
  | inr e ↦ ap is_of_accepted e
]

-- such a status is one of any command's
accepted_replay : (status : Status) → is_of_accepted status ≡ true → is_of_replay status ≡ true
accepted_replay ends.Ok is = refl
accepted_replay ends.Usage is = absurd cc
accepted_replay ends.Schedule is = refl
accepted_replay ends.Row is = refl
accepted_replay ends.Ended is = refl
accepted_replay ends.ReadFault is = refl
accepted_replay ends.WriteFault is = refl
accepted_replay ends.Memory is = refl
accepted_replay ends.Script is = refl
accepted_replay ends.No is = absurd cc

pub accepted_asked : (asked : Asked) (status : Status) → is_of_accepted status ≡ true →
    is_of_asked asked status ≡ true
accepted_asked (Decode options) status is = is
accepted_asked (Replay options) status is = accepted_replay status is
accepted_asked (Plan sizes) status is = is

-- no other status is one of them
pub never_other : (status other : Status) → is_of_accepted status ≡ true → is_of_accepted other
    ≡ false → status ≡ other → ⊥
never_other status other is none same = let both : true ≡ false = sym is ∙ ap is_of_accepted same
    ∙ none in cc

-- a status that belongs to no command
pub never_of_request : (request : Request) (status other : Status) →
    is_of_request request status ≡ true →
    (is_of_accepted other ≡ false) × (is_of_replay other ≡ false) → status ≡ other → ⊥
never_of_request (OfInput (Decode options)) status other is none same =
    never_other status other is none.0 same
never_of_request (OfInput (Replay options)) status other is none same =
    let both : true ≡ false = sym is ∙ ap is_of_replay same ∙ none.1 in cc
never_of_request (OfInput (Plan sizes)) status other is none same =
    never_other status other is none.0 same
never_of_request (Make options) status other is none same =
    never_other status other is none.0 same

-- a script is at fault in a replay alone
pub script_of_replay : (request : Request) (status : Status) →
    is_of_request request status ≡ true → status ≡ ends.Script →
    (options : ReplayOptions) × (request ≡ OfInput (Replay options))
script_of_replay (OfInput (Decode options)) status is e =
    absurd (never_other status ends.Script is refl e)
script_of_replay (OfInput (Replay options)) status is e = (options, refl)
script_of_replay (OfInput (Plan sizes)) status is e =
    absurd (never_other status ends.Script is refl e)
script_of_replay (Make options) status is e =
    absurd (never_other status ends.Script is refl e)
