-- On a good input with accepted words, nothing but a fault of the port or want of memory keeps a
-- run from its end.
use Rattle.std.proofs.Common.{◌≡◌, ◌⊎◌, inl, inr, ℕ, ◌+◌, Bool, List, [], ◌∷◌, ◌++◌, filter_map, None, Some, refl, sym, ap, ◌∙◌, subst, append_assoc, append-nil}
use Rattle.std.specs.declared.option.Option.{Option}
use Rattle.std.specs.declared.result.Result.{Result}
use Rattle.std.proofs.lemmas.List.{map-append}
use Rattle.port_io.specs.Port.{sent}
use Rattle.port_io.specs.Traffic.{Goes, Takes, taken, takings}
use Rattle.port_io.specs.declared.port.TapeByte.{TapeByte}
use Rattle.port_io.specs.declared.port.TapeByte.TheVariants.{Taken}
use Rattle.port_io.proofs.Traffic.{goes_takes, takings-append, takings-taken, takings-sent}
use Rattle.surface_model.specs.Parse.{schedule_of}
use Rattle.report_model.specs.Tapes.{take_of}
use Rattle.report_model.specs.Faults.{Ended, fault_text}
use Rattle.report_model.specs.Outcomes.{output_with}
use Rattle.report_model.specs.Tasks.{labels_of, names_of, syndrome_of, task_of}
use Rattle.surface_model.specs.Schedules.{Schedule}
use Rattle.surface_model.specs.Reading.{Reading, RowKind, Good, RowFault, EndedAt}
use Rattle.syndrome_source.specs.Rows.{kind_of}
use Rattle.syndrome_source.specs.declared.error.RowError.{RowError}
use Rattle.run_header.specs.declared.sizes.PlanSizes.{PlanSizes}
use Rattle.run_header.specs.Refusals.{IsAcceptedAs, IsRefused, NeverBothLaw}
use Rattle.run_header.specs.Openings.{HeaderStandsLaw, IsHeader, OneHeaderLaw}
use Rattle.window_model.specs.Windows.{WindowPlan}
use Rattle.window_model.specs.declared.GuessView.{GuessView}
use Rattle.run_words.specs.declared.command.DecodeOptions.{DecodeOptions}
use Rattle.replay_run.specs.declared.end.End.{End}
use Rattle.replay_run.specs.declared.end.End.TheVariants.{Complete, ReadFault as Failed, Row as AtRow, Ended as TooSoon, Script as AtScript}
use Rattle.replay_run.specs.Readings.{due_number}
use Rattle.replay_run.specs.Replies.{stage_on}
use Rattle.replay_run.specs.Scripts.{IsFaultless}
use Rattle.replay_run.proofs.Faultless.{never_at_fault}
use Rattle.swiper_run.specs.Replayed.{IsReplayed, subject_of}
use Rattle.swiper_run.specs.Guessed.{traced_of}
use Rattle.swiper_run.specs.Words.{request_of, sizes_of}
use Rattle.run_rounds.proofs.Moving.{takings_whole}
use Rattle.run_rounds.specs.Fed.{AreAllFed}
use Rattle.run_rounds.specs.Rounds.{rounds_of}
use Rattle.swiper_run.specs.Answers.{fault_of_end, IsSaid, IsAnswerBy, IsAnswerOf, IsAnswerTo, IsDecoded, IsGoodHeader, IsGoodInput, IsGoodRun, IsGoodScript, IsUnopened, guesses_of}
use Rattle.swiper_run.specs.declared.words.Asked.TheVariants.{Decode, Plan, Replay}
use Rattle.swiper_run.specs.declared.top.Status.{Status}
use Rattle.swiper_run.specs.declared.top.Status.TheVariants as ends

-- what is left after the bytes that were taken, whatever was put
pub left_behind : (input : List ℕ) (ran : List TapeByte) (before after : Option (List ℕ))
    (t v : Option (List TapeByte)) → Goes ran before after t v → before ≡ Some input →
    (rest : List ℕ) × (after ≡ Some rest) × (input ≡ takings ran ++ rest)
left_behind input ran before after t v goes told =
    by after (goes_takes ran (Some input) after t v (subst (λ b. Goes ran b after t v) told goes))
  where
    by : (o : Option (List ℕ)) → Takes (takings ran) (Some input) o → (rest : List ℕ)
        × (o ≡ Some rest) × (input ≡ takings ran ++ rest)
    by None takes = absurd takes
    by (Some rest) takes = (rest, refl, takes)

-- what is taken where one text is put after it
takings_said : (bytes text : List ℕ) → takings (taken bytes ++ sent text) ≡ bytes
takings_said bytes text = takings-append (taken bytes) (sent text)
    ∙ ap (λ l. l ++ takings (sent text)) (takings-taken bytes)
    ∙ ap (λ l. bytes ++ l) (takings-sent text) ∙ append-nil bytes

cancel : (xs a b : List ℕ) → xs ++ a ≡ xs ++ b → a ≡ b
cancel [] a b e = e
cancel (x ∷ xs) a b e = cancel xs a b (let h : xs ++ a ≡ xs ++ b = cc in h)

faulty : (s : Schedule) (body : List ℕ) (line : ℕ) (kind : RowKind) → (rounds_of s body).ending
    ≡ Good → (rounds_of s body).ending ≡ RowFault line kind → ⊥
faulty s body line kind good bad = let h : Good ≡ RowFault line kind = sym good ∙ bad in cc

unfinished : (s : Schedule) (body : List ℕ) (line : ℕ) → (rounds_of s body).ending ≡ Good →
    (rounds_of s body).ending ≡ EndedAt line → ⊥
unfinished s body line good bad = let h : Good ≡ EndedAt line = sym good ∙ bad in cc

-- An input that begins with the header of an accepted schedule, and bytes taken from its front
module _ (one_header : OneHeaderLaw) (header_stands : HeaderStandsLaw)
    (never_both : NeverBothLaw) (sizes : PlanSizes) (header body : List ℕ) (plan : WindowPlan)
    (is_header : IsHeader header) (accepted : IsAcceptedAs sizes header plan) (rest : List ℕ)
    (ran : List TapeByte) (split : header ++ body ≡ takings ran ++ rest) where
  -- the bytes before one text that is put
  whole_said : (bytes text : List ℕ) → ran ≡ taken bytes ++ sent text → header ++ body
      ≡ bytes ++ rest
  whole_said bytes text is = split ∙ ap (λ l. l ++ rest) (ap takings is ∙ takings_said bytes text)

  -- its schedule is opened
  not_refused : IsUnopened sizes (Some rest) ends.Schedule ran → ⊥
  not_refused said =
      never_both sizes header plan said.1 accepted
      (subst (λ t. IsRefused sizes t said.1) (sym (one_header header said.0 body rest is_header
      said.2 (whole_said said.0 (fault_text said.1) said.4))) said.3)

  not_ended : IsUnopened sizes (Some rest) ends.Ended ran → ⊥
  not_ended early =
      header_stands header early.0 body early.1 is_header early.3
      (whole_said early.0 (fault_text (Ended early.1)) early.4 ∙ ap (λ l. early.0 ++ l) early.2
      ∙ append-nil early.0)

-- a good input and bytes taken from its front
module _ (one_header : OneHeaderLaw) (header_stands : HeaderStandsLaw)
    (never_both : NeverBothLaw) (may_guess : GuessView → Bool → Type 0) (options : DecodeOptions)
    (input rest : List ℕ) (ran : List TapeByte) (good : IsGoodRun options input)
    (split : input ≡ takings ran ++ rest) where
  whole : good.header ++ good.body ≡ takings ran ++ rest
  whole = sym good.input_is ∙ split

  -- what is decoded took its header and the bytes after it
  both : (end : Result (Unit {0}) RowError) (d : IsDecoded may_guess options (Some rest) end ran) →
      takings ran ≡ d.header ++ filter_map take_of d.tape.moves
  both end d =
      let s = schedule_of d.header in
      takings_whole (labels_of s) d.header (output_with d.log (task_of s d.plan)
      (syndrome_of s d.rows) (labels_of s) (names_of s) d.steps
      (traced_of options.trace d.events) (fault_of_end end)) d.tape.moves ran d.tape.whole

  -- of what is decoded, the header is the input's
  same_header : (end : Result (Unit {0}) RowError) (d : IsDecoded may_guess options (Some rest) end
      ran) →
      d.header ≡ good.header
  same_header end d =
      let body = filter_map take_of d.tape.moves in
      one_header d.header good.header (body ++ rest) good.body d.is_header good.is_header (sym
      (append_assoc d.header body rest) ∙ ap (λ b. b ++ rest) (sym (both end d)) ∙ sym whole)

  -- and the body is a front of what follows it
  same_body : (end : Result (Unit {0}) RowError) (d : IsDecoded may_guess options (Some rest) end
      ran) →
      good.body ≡ filter_map take_of d.tape.moves ++ rest
  same_body end d =
      let body = filter_map take_of d.tape.moves in
      cancel good.header good.body (body ++ rest)
      (whole ∙ ap (λ b. b ++ rest) (both end d) ∙ append_assoc d.header body rest
      ∙ ap (λ h. h ++ (body ++ rest)) (same_header end d))

  -- the rows of what is decoded read well
  reads_well : (end : Result (Unit {0}) RowError) (d : IsDecoded may_guess options (Some rest) end
      ran) →
      (rounds_of (schedule_of d.header) (filter_map take_of d.tape.moves ++ rest)).ending ≡ Good
  reads_well end d =
      let body = filter_map take_of d.tape.moves in
      ap (λ h. (rounds_of (schedule_of h) (body ++ rest)).ending) (same_header end d)
      ∙ ap (λ b. (rounds_of (schedule_of good.header) b).ending) (sym (same_body end d))
      ∙ good.good

  said_good : (status : Status) → IsSaid may_guess (Some (Decode options)) (Some rest) status ran →
      (status ≡ ends.Ok) ⊎ (status ≡ ends.ReadFault)
  said_good ends.Ok said = inl refl
  said_good ends.Usage said = absurd said
  said_good ends.Schedule said =
      absurd (not_refused one_header header_stands never_both (sizes_of options.windows) good.header
      good.body
      good.plan good.is_header good.accepted rest ran whole said)
  said_good ends.Row said =
      let d = said.2 in
      absurd (faulty (schedule_of d.header) (filter_map take_of d.tape.moves ++ rest) said.0
      (kind_of said.1) (reads_well _ d) (ap (λ (r : Reading). r.ending) (d.rounds.wrong rest)))
  said_good ends.Ended (inl early) =
      absurd (not_ended one_header header_stands never_both (sizes_of options.windows) good.header
      good.body
      good.plan good.is_header good.accepted rest ran whole early)
  said_good ends.Ended (inr late) =
      let d = late.1 in
      let body = filter_map take_of d.tape.moves in
      absurd (unfinished (schedule_of d.header) (body ++ rest) late.0 (reads_well _ d)
      (ap (λ l. (rounds_of (schedule_of d.header) (body ++ l)).ending) d.rounds.0
      ∙ ap (λ l. (rounds_of (schedule_of d.header) l).ending) (append-nil body)
      ∙ ap (λ (r : Reading). r.ending) d.rounds.1))
  said_good ends.ReadFault said = inr refl
  said_good ends.WriteFault said = absurd said
  said_good ends.Memory said = absurd said
  said_good ends.Script said = absurd said
  said_good ends.No said = absurd said

  answer_good : (reads reads' : ℕ) (status : Status) → IsAnswerBy may_guess (Some (Decode options))
      (Some rest)
      reads reads' status ran → (status ≡ ends.ReadFault → ⊥) → (status ≡ ends.WriteFault → ⊥) →
      (status ≡ ends.Ok) ⊎ (status ≡ ends.Memory)
  answer_good reads reads' ends.WriteFault answer no_read no_write = absurd (no_write refl)
  answer_good reads reads' ends.Memory answer no_read no_write = inr refl
  answer_good reads reads' ends.ReadFault answer no_read no_write = absurd (no_read refl)
  answer_good reads reads' ends.Ok answer no_read no_write = inl refl
  answer_good reads reads' ends.Usage answer no_read no_write = absurd answer
  answer_good reads reads' ends.Schedule answer no_read no_write =
      only_ok (said_good ends.Schedule answer)
    where
      only_ok : (ends.Schedule ≡ ends.Ok) ⊎ (ends.Schedule ≡ ends.ReadFault) →
          (ends.Schedule ≡ ends.Ok) ⊎ (ends.Schedule ≡ ends.Memory)
      only_ok (inl e) = absurd cc
      only_ok (inr e) = absurd cc
  answer_good reads reads' ends.Row answer no_read no_write = only_ok (said_good ends.Row answer)
    where
      only_ok : (ends.Row ≡ ends.Ok) ⊎ (ends.Row ≡ ends.ReadFault) → (ends.Row ≡ ends.Ok)
          ⊎ (ends.Row ≡ ends.Memory)
      only_ok (inl e) = absurd cc
      only_ok (inr e) = absurd cc
  answer_good reads reads' ends.Ended answer no_read no_write =
      only_ok (said_good ends.Ended answer)
    where
      only_ok : (ends.Ended ≡ ends.Ok) ⊎ (ends.Ended ≡ ends.ReadFault) → (ends.Ended ≡ ends.Ok)
          ⊎ (ends.Ended ≡ ends.Memory)
      only_ok (inl e) = absurd cc
      only_ok (inr e) = absurd cc
  answer_good reads reads' ends.Script answer no_read no_write = absurd answer
  answer_good reads reads' ends.No answer no_read no_write = absurd answer

-- on a good input the status is 0, or memory was wanting
pub run_well : OneHeaderLaw → HeaderStandsLaw → NeverBothLaw →
    (may_guess : GuessView → Bool → Type 0) (options : DecodeOptions) (input : List ℕ)
    (reads reads' : ℕ) (before after : Option (List ℕ)) (t v : Option (List TapeByte))
    (status : Status) → before ≡ Some input → IsGoodRun options input →
    (ran : List TapeByte) × Goes ran before after t v
    × IsAnswerBy may_guess (Some (Decode options)) after reads reads' status ran →
    (status ≡ ends.ReadFault → ⊥) → (status ≡ ends.WriteFault → ⊥) → (status ≡ ends.Ok)
    ⊎ (status ≡ ends.Memory)
run_well one stands both may_guess options input reads reads' before after t v status told good
    answer no_read no_write =
    let behind = left_behind input answer.0 before after t v answer.1 told in
    answer_good one stands both may_guess options input behind.0 answer.0 good behind.2 reads reads'
    status (subst (λ l. IsAnswerBy may_guess (Some (Decode options)) l reads reads' status answer.0)
    behind.1 answer.2) no_read no_write

-- where the words ask to decode it
pub completed : OneHeaderLaw → HeaderStandsLaw → NeverBothLaw →
    (words : List (List ℕ)) (input : List ℕ) (reads reads' : ℕ) (before after : Option (List ℕ))
    (t v : Option (List TapeByte)) (status : Status) →
    before ≡ Some input → IsGoodInput words input →
    (ran : List TapeByte) × Goes ran before after t v
    × IsAnswerOf (request_of words) after reads reads' status ran →
    (status ≡ ends.ReadFault → ⊥) → (status ≡ ends.WriteFault → ⊥) → (status ≡ ends.Ok)
    ⊎ (status ≡ ends.Memory)
completed one stands both words input reads reads' before after t v status told good answer no_read
    no_write =
    let asked = Some (Decode good.options) in
    run_well one stands both (guesses_of asked) good.options input reads reads' before after t v
    status told good.run (
      answer.0,
      answer.1,
      subst (λ o. IsAnswerOf o after reads reads' status
          answer.0) good.given answer.2,
    ) no_read no_write

-- ---- plans

-- a good header and bytes taken from its front
module _ (one_header : OneHeaderLaw) (header_stands : HeaderStandsLaw)
    (never_both : NeverBothLaw) (words : List (List ℕ)) (input rest : List ℕ) (ran : List TapeByte)
    (good : IsGoodHeader words input) (split : input ≡ takings ran ++ rest) where
  planned_good : (reads reads' : ℕ) (status : Status) → IsAnswerTo (Some (Plan good.sizes))
      (Some rest) reads reads' status ran → (status ≡ ends.ReadFault → ⊥) →
      (status ≡ ends.WriteFault → ⊥) → (status ≡ ends.Ok) ⊎ (status ≡ ends.Memory)
  planned_good reads reads' ends.WriteFault answer no_read no_write = absurd (no_write refl)
  planned_good reads reads' ends.Memory answer no_read no_write = inr refl
  planned_good reads reads' ends.ReadFault answer no_read no_write = absurd (no_read refl)
  planned_good reads reads' ends.Ok answer no_read no_write = inl refl
  planned_good reads reads' ends.Usage answer no_read no_write = absurd answer
  planned_good reads reads' ends.Schedule answer no_read no_write =
      absurd (not_refused one_header header_stands never_both good.sizes good.header good.body
      good.plan good.is_header good.accepted rest ran (sym good.input_is ∙ split) answer)
  planned_good reads reads' ends.Row answer no_read no_write = absurd answer
  planned_good reads reads' ends.Ended answer no_read no_write =
      absurd (not_ended one_header header_stands never_both good.sizes good.header good.body
      good.plan good.is_header good.accepted rest ran (sym good.input_is ∙ split) answer)
  planned_good reads reads' ends.Script answer no_read no_write = absurd answer
  planned_good reads reads' ends.No answer no_read no_write = absurd answer

-- on a good header the status of `plan` is 0, or memory was wanting
pub planned : OneHeaderLaw → HeaderStandsLaw → NeverBothLaw →
    (words : List (List ℕ)) (input : List ℕ) (reads reads' : ℕ) (before after : Option (List ℕ))
    (t v : Option (List TapeByte)) (status : Status) →
    before ≡ Some input → IsGoodHeader words input →
    (ran : List TapeByte) × Goes ran before after t v
    × IsAnswerOf (request_of words) after reads reads' status ran →
    (status ≡ ends.ReadFault → ⊥) → (status ≡ ends.WriteFault → ⊥) → (status ≡ ends.Ok)
    ⊎ (status ≡ ends.Memory)
planned one stands both words input reads reads' before after t v status told good answer no_read
    no_write =
    let behind = left_behind input answer.0 before after t v answer.1 told in
    planned_good one stands both words input behind.0 answer.0 good behind.2 reads reads' status
    (subst (λ o. IsAnswerOf o (Some behind.0) reads reads' status answer.0) good.given
    (subst (λ l. IsAnswerOf (request_of words) l reads reads' status answer.0) behind.1 answer.2))
    no_read no_write

-- ---- replays

-- a good script and bytes taken from its front
module _ (one_header : OneHeaderLaw) (header_stands : HeaderStandsLaw)
    (never_both : NeverBothLaw) (words : List (List ℕ)) (input rest : List ℕ) (ran : List TapeByte)
    (good : IsGoodScript words input) (split : input ≡ takings ran ++ rest) where
  -- a replay comes to its end, or a take fails
  how_ended : (how : End) → IsReplayed good.options (Some rest) how ran →
      (how ≡ Complete) ⊎ (how ≡ Failed)
  how_ended how r =
      let took : takings ran ≡ r.header ++ r.bytes = ap takings (r.ran_is
      ∙ ap (λ l. l ++ sent r.text) (sym (map-append Taken r.header r.bytes)))
      ∙ takings_said (r.header ++ r.bytes) r.text in
      let all : r.header ++ (r.bytes ++ rest) ≡ good.header ++ good.body =
      sym (append_assoc r.header r.bytes rest) ∙ ap (λ l. l ++ rest) (sym took) ∙ sym split
      ∙ good.input_is in
      let same : r.header ≡ good.header = one_header r.header good.header (r.bytes ++ rest)
      good.body r.is_header good.is_header all in
      let body : good.body ≡ r.bytes ++ rest = cancel good.header good.body (r.bytes ++ rest)
      (sym all ∙ ap (λ h. h ++ (r.bytes ++ rest)) same) in
      never_at_fault (subject_of good.options r.header r.plan) good.rows good.front good.script
      r.bytes rest r.text how
      (subst (λ h. AreAllFed (schedule_of h) good.front good.rows) (sym same) good.fed)
      (subst (λ h. IsFaultless (stage_on (subject_of good.options h r.plan) good.rows)
      (due_number (schedule_of h) + 1) good.script) (sym same)
      (good.faultless r.plan (subst (λ h. IsAcceptedAs (sizes_of good.options.windows) h r.plan)
      same r.accepted)))
      (sym good.body_is ∙ body) r.replied

  replayed_good : (reads reads' : ℕ) (status : Status) → IsAnswerTo (Some (Replay good.options))
      (Some rest) reads reads' status ran → (status ≡ ends.ReadFault → ⊥) →
      (status ≡ ends.WriteFault → ⊥) → (status ≡ ends.Ok) ⊎ (status ≡ ends.Memory)
  replayed_good reads reads' ends.WriteFault answer no_read no_write = absurd (no_write refl)
  replayed_good reads reads' ends.Memory answer no_read no_write = inr refl
  replayed_good reads reads' ends.ReadFault answer no_read no_write = absurd (no_read refl)
  replayed_good reads reads' ends.Ok answer no_read no_write = inl refl
  replayed_good reads reads' ends.Usage answer no_read no_write = absurd answer
  replayed_good reads reads' ends.Schedule answer no_read no_write =
      absurd (not_refused one_header header_stands never_both (sizes_of good.options.windows)
      good.header good.body
      good.plan good.is_header good.accepted rest ran (sym good.input_is ∙ split) answer)
  replayed_good reads reads' ends.Row (line, kind, r) no_read no_write =
      absurd (elim (how_ended (AtRow line kind) r) [
        | inl e ↦ let no : AtRow line kind ≡ Complete = e in cc
        | inr e ↦ let no : AtRow line kind ≡ Failed = e in cc
      ])
  replayed_good reads reads' ends.Ended (inl early) no_read no_write =
      absurd (not_ended one_header header_stands never_both (sizes_of good.options.windows)
      good.header good.body
      good.plan good.is_header good.accepted rest ran (sym good.input_is ∙ split) early)
  replayed_good reads reads' ends.Ended (inr (line, r)) no_read no_write =
      absurd (elim (how_ended (TooSoon line) r) [
        | inl e ↦ let no : TooSoon line ≡ Complete = e in cc
        | inr e ↦ let no : TooSoon line ≡ Failed = e in cc
      ])
  replayed_good reads reads' ends.Script (line, r) no_read no_write =
      absurd (elim (how_ended (AtScript line) r) [
        | inl e ↦ let no : AtScript line ≡ Complete = e in cc
        | inr e ↦ let no : AtScript line ≡ Failed = e in cc
      ])
  replayed_good reads reads' ends.No answer no_read no_write = absurd answer

-- with a good script the status of `replay` is 0, or memory was wanting
pub replayed_well : OneHeaderLaw → HeaderStandsLaw → NeverBothLaw →
    (words : List (List ℕ)) (input : List ℕ) (reads reads' : ℕ) (before after : Option (List ℕ))
    (t v : Option (List TapeByte)) (status : Status) →
    before ≡ Some input → IsGoodScript words input →
    (ran : List TapeByte) × Goes ran before after t v
    × IsAnswerOf (request_of words) after reads reads' status ran →
    (status ≡ ends.ReadFault → ⊥) → (status ≡ ends.WriteFault → ⊥) → (status ≡ ends.Ok)
    ⊎ (status ≡ ends.Memory)
replayed_well one stands both words input reads reads' before after t v status told good answer
    no_read no_write =
    let behind = left_behind input answer.0 before after t v answer.1 told in
    replayed_good one stands both words input behind.0 answer.0 good behind.2 reads reads' status
    (subst (λ o. IsAnswerOf o (Some behind.0) reads reads' status answer.0) good.given
    (subst (λ l. IsAnswerOf (request_of words) l reads reads' status answer.0) behind.1 answer.2))
    no_read no_write
