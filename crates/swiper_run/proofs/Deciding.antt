-- From the course of a run to its answer.
use Rattle.std.proofs.Common.{◌≡◌, inl, inr, ℕ, Bool, List, [], ◌++◌, Some, take, flat_map, filter_map, refl, sym, subst, append_assoc, append-nil, arith}
use Rattle.std.specs.declared.option.Option.{Option}
use Rattle.std.specs.declared.result.Result.{Result}
use Rattle.port_io.specs.Port.{Rose, sent}
use Rattle.port_io.specs.Traffic.{Goes, taken}
use Rattle.port_io.specs.declared.port.TapeByte.{TapeByte}
use Rattle.port_io.proofs.Traffic.{goes_both}
use Rattle.surface_model.specs.Parse.{schedule_of}
use Rattle.surface_model.specs.Schedules.{Schedule}
use Rattle.syndrome_source.specs.declared.error.RowError.{RowError}
use Rattle.window_model.specs.Windows.{WindowPlan}
use Rattle.window_model.specs.Laws.{ReleaseLaw}
use Rattle.window_model.specs.declared.GuessView.{GuessView}
use Rattle.window_model.specs.Progress.{Progress, IsComplete, IsProgress}
use Rattle.report_model.specs.Texts.{release_line}
use Rattle.report_model.specs.Tapes.{bytes_of, take_of}
use Rattle.report_model.specs.Tasks.{labels_of, names_of, syndrome_of, task_of}
use Rattle.run_header.specs.Openings.{IsHeader}
use Rattle.run_header.specs.Refusals.{IsAcceptedAs}
use Rattle.run_words.specs.declared.command.DecodeOptions.{DecodeOptions}
use Rattle.slot_decoder.specs.Histories.{DecoderView, IsHistoryOf, AreGuessedFrom}
use Rattle.window_model.specs.Speculation.{start as begun}
use Rattle.swiper_run.specs.Guessed.{traced_of}
use Rattle.swiper_run.specs.Printed.{IsPrintedLog}
use Rattle.swiper_run.specs.Words.{sizes_of}
use Rattle.run_rounds.specs.Rounds.{AreRounds}
use Rattle.run_rounds.specs.declared.release.PutError.{PutError}
use Rattle.run_rounds.specs.declared.release.PutError.TheVariants.{WriteFault, Memory}
use Rattle.swiper_run.specs.Answers.{IsAnswerBy, IsDecoded, IsReportOf, IsSaid, Tells, fault_of_end, status_of_end, status_of_stop}
use Rattle.decode_rounds.specs.Courses.{IsBrokenOff, IsPartWay, IsReadThrough}
use Rattle.swiper_run.specs.declared.words.Asked.TheVariants.{Decode}
use Rattle.swiper_run.specs.declared.top.Status.{Status}
use Rattle.swiper_run.specs.declared.top.Status.TheVariants as ends
use Rattle.swiper_run.proofs.Concluding.{behind_more, decoded_said, put_answer}
use Rattle.swiper_run.proofs.Reporting.{all_rows, explained, run_on, speculated, whole_tape}

-- the run broke off
pub broken_answer : (may_guess : GuessView → Bool → Type 0) (options : DecodeOptions)
    (header : List ℕ) (plan : WindowPlan) (reads reads' : ℕ)
    (error : PutError) (a c : Option (List ℕ)) (t v : Option (List TapeByte)) → IsHeader header →
    IsAcceptedAs (sizes_of options.windows) header plan →
    IsBrokenOff (schedule_of header) (task_of (schedule_of header) plan) error a c t v →
    (ran : List TapeByte) × Goes ran a c t v
    × IsAnswerBy may_guess (Some (Decode options)) c reads reads' (status_of_stop error)
    (taken header ++ ran)
broken_answer may_guess options header plan reads reads' WriteFault a c t v is accepted cut =
    let labels = labels_of (schedule_of header) in (
      _,
      cut.goes,
      inr (
        options,
        refl,
        record {
          header = header;
          moves = cut.moves;
          operation = cut.operation;
          bit = cut.bit;
          count = cut.count;
          due = record { is_header = is; plan = plan; accepted = accepted; way = cut.due };
          all_arrived = cut.all_arrived;
          cut = sym (append_assoc (taken header) (flat_map (bytes_of labels) cut.moves)
              (sent (take cut.count (release_line labels cut.operation cut.bit))));
        },
      ),
    )
broken_answer may_guess options header plan reads reads' Memory a c t v is accepted
    (moves, way, goes) = (
      flat_map (bytes_of (labels_of (schedule_of header))) moves,
      goes,
      inr (
        Decode options,
        refl,
        inr (
          header,
          moves,
          record { is_header = is; plan = plan; accepted = accepted; way = way },
          refl,
        ),
      ),
    )

module _ (law : ReleaseLaw) (may_guess : GuessView → Bool → Type 0) (options : DecodeOptions)
    (header : List ℕ) (plan : WindowPlan)
    (is : IsHeader header) (accepted : IsAcceptedAs (sizes_of options.windows) header plan)
    (d : DecoderView) (task_is : d.progress.task ≡ task_of (schedule_of header) plan)
    (progress : IsProgress d.progress) (complete : IsComplete d.progress)
    (history : IsHistoryOf d) (retries : d.retries ≡ options.guessing.retries)
    (guessed : AreGuessedFrom may_guess d.progress.task begun
    d.events) (end : Result (Unit {0}) RowError) (a b : Option (List ℕ))
    (t u : Option (List TapeByte)) (through : IsReadThrough (schedule_of header)
    (task_of (schedule_of header) plan) a b t u d.progress end) where
  abbrev m : Progress
  m = d.progress

  abbrev s : Schedule
  s = schedule_of header

  abbrev rows_put : List TapeByte
  rows_put = flat_map (bytes_of (labels_of (schedule_of header))) through.moves

  -- the text could not be made
  pub no_text : (reads reads' : ℕ) → IsAnswerBy may_guess (Some (Decode options)) b reads reads'
      ends.Memory
      (taken header ++ flat_map (bytes_of (labels_of (schedule_of header))) through.moves)
  no_text reads reads' =
      let run = run_on s plan through.rows m progress through.fits task_is through.arrived in
      let way : IsPartWay s (task_of s plan) b through.moves = record {
        rows = through.rows;
        read = inr (end, through.rounds);
        steps = m.steps;
        run = run.run;
        arrived = let e = run.arrived in omega (arith, e);
        in_time = through.in_time;
      } in inr (
        Decode options,
        refl,
        inr (
          header,
          through.moves,
          record {
            is_header = is;
            plan = plan;
            accepted = accepted;
            way = way;
          },
          refl,
        ),
      )

  -- the text is that of the run
  said : (text : List ℕ) → IsReportOf (labels_of s) (names_of s) d options end text →
      IsSaid may_guess (Some (Decode options)) b (status_of_end end) ((taken header
      ++ flat_map (bytes_of (labels_of (schedule_of header))) through.moves) ++ sent text)
  said text report =
      let run = run_on s plan through.rows m progress through.fits task_is through.arrived in
      let decoded : IsDecoded may_guess options b end ((taken header ++ rows_put) ++ sent text) =
      record {
        header = header;
        is_header = is;
        plan = plan;
        accepted = accepted;
        rows = through.rows;
        steps = m.steps;
        run = run;
        events = d.events;
        speculated = speculated may_guess options.guessing.retries
            s plan through.rows d history retries guessed through.fits task_is;
        log = report.log;
        printed = subst (λ task. IsPrintedLog options.certify task (labels_of s) m.steps report.log)
            task_is report.printed;
        tape = whole_tape report.log s plan through.rows m (traced_of options.trace d.events)
            (fault_of_end end) header text through.moves task_is through.in_time through.all_put
            (report.text_is (syndrome_of s through.rows) through.fits);
        rounds = through.rounds;
      } in
      decoded_said may_guess options b end ((taken header ++ rows_put) ++ sent text) decoded
      (λ ok. explained law s plan through.rows m complete through.fits task_is
      run through.arrived (all_rows s (filter_map take_of through.moves) through.rows (subst
      (AreRounds s (filter_map take_of through.moves) b through.rows) ok through.rounds).1))

  pub told_answer : (reads reads' : ℕ) (result : Status) (c : Option (List ℕ)) (v : Option
      (List TapeByte)) → c ≡ b → (status_of_end end ≡ ends.ReadFault → Rose reads reads') →
      Tells (labels_of (schedule_of header)) (names_of (schedule_of header)) d options end result b
      c u v →
      (ran : List TapeByte) × Goes ran a c t v
      × IsAnswerBy may_guess (Some (Decode options)) c reads reads' result (taken header ++ ran)
  told_answer reads reads' result c v same cause (inl none) = (
    rows_put ++ [],
    goes_both rows_put [] a b c t u v through.goes none.1,
    subst (λ l. IsAnswerBy may_guess (Some (Decode options)) c reads reads' result
        (taken header ++ l))
        (sym (append-nil rows_put))
        (subst (λ left. IsAnswerBy may_guess (Some (Decode options)) left reads reads' result
        (taken header ++ rows_put))
        (sym same)
        (subst (λ k. IsAnswerBy may_guess (Some (Decode options)) b reads reads' k
        (taken header ++ rows_put))
        (sym none.0) (no_text reads reads'))),
  )
  told_answer reads reads' result c v same cause (inr told) =
      let put_ = put_answer may_guess (Some (Decode options)) reads reads' (status_of_end end)
      result (taken header
      ++ rows_put) told.0 b c u v same cause told.2
      (said told.0 told.1) in
      behind_more may_guess (Some (Decode options)) reads reads' result (taken header) rows_put a b
      c t u v through.goes
      put_
