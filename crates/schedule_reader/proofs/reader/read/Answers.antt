use Rattle.std.proofs.Common.{rules, ◌≡◌, ◌+◌, sym, ◌∙◌, ap, arith, Err}
use Rattle.schedule_reader.specs.Pieces.{lines_of}
use Rattle.schedule_reader.specs.Walks.{walk}
use Rattle.schedule_reader.proofs.Finished.{none_left, step_taken, steps_shorter, reported_of_text}
use Rattle.schedule_reader.proofs.reader.read.Goals as goal

pub returns-in_err-take_line-clause-fault : goal.returns-in_err-take_line-clause-fault
returns-in_err-take_line-clause-fault c =
    let is : c.from_residual.result ≡ Err c.in_err-take_line.field-0.0 = search rules in
    rw is
    (reported_of_text c.in_err-take_line.field-0.0 c.is_whole-whole.result c.args.text.now
    c.loop-rest.tables (c.loop-rest.number + 1) c.loop-rest.rest.now c.cut-parts.result.0.now
    c.cut-parts.result.1.now c.is_whole-whole.ensures (sym c.is_empty.ensures
    ∙ c.loop-rest-test.true)
    c.cut-parts.ensures.front c.cut-parts.ensures.back c.loop-rest.invariant.0
    c.in_err-take_line.ensures.fault)

pub loop-rest-smaller : goal.loop-rest-smaller
loop-rest-smaller c = steps_shorter c.loop-rest.rest.now c.cut-parts.result.1.now
    (sym c.is_empty.ensures ∙ c.loop-rest-test.true) c.cut-parts.ensures.back

pub loop-rest-preserved : goal.loop-rest-preserved
loop-rest-preserved c =
    let some = sym c.is_empty.ensures ∙ c.loop-rest-test.true in
    let less = steps_shorter c.loop-rest.rest.now c.cut-parts.result.1.now some
    c.cut-parts.ensures.back in (
      ap (λ t. walk c.is_whole-whole.result t (c.loop-rest.number + 1 + 1)
          (lines_of c.cut-parts.result.1.now)) c.in_ok-take_line.ensures.taken
          ∙ sym (step_taken c.is_whole-whole.result c.loop-rest.tables (c.loop-rest.number + 1)
          c.loop-rest.rest.now c.cut-parts.result.0.now c.cut-parts.result.1.now some
          c.cut-parts.ensures.front c.cut-parts.ensures.back
          c.in_ok-take_line.ensures.faultless)
          ∙ c.loop-rest.invariant.0,
      omega (arith, less, c.loop-rest.invariant.1),
    )

pub returns-clause-schedule : goal.returns-clause-schedule
returns-clause-schedule c =
    c.into_schedule.ensures
    ∙ (none_left c.is_whole-whole.result c.args.text.now
    c.loop-rest.rest.now c.loop-rest.tables (c.loop-rest.number + 1) (sym c.is_empty.ensures
    ∙ c.loop-rest-test.false) c.is_whole-whole.ensures c.loop-rest.invariant.0).1

pub returns-clause-faultless : goal.returns-clause-faultless
returns-clause-faultless c =
    (none_left c.is_whole-whole.result c.args.text.now
    c.loop-rest.rest.now c.loop-rest.tables (c.loop-rest.number + 1) (sym c.is_empty.ensures
    ∙ c.loop-rest-test.false) c.is_whole-whole.ensures c.loop-rest.invariant.0).0

pub into_schedule-requires : goal.into_schedule-requires
into_schedule-requires c =
    let done = none_left c.is_whole-whole.result c.args.text.now
    c.loop-rest.rest.now c.loop-rest.tables (c.loop-rest.number + 1) (sym c.is_empty.ensures
    ∙ c.loop-rest-test.false) c.is_whole-whole.ensures c.loop-rest.invariant.0 in
    record { text = c.args.text.now; least = c.requires.least; faultless = done.0; given = done.1 }
