use Rattle.std.proofs.Common.{◌∙◌, ap, sym}
use Rattle.report_model.specs.Tasks.{task_of}
use Rattle.run_rounds.specs.Slots.{At}
use Rattle.replay_cases.proofs.case.answer.Goals as goal

pub replay-requires-clause-task : goal.replay-requires-clause-task
replay-requires-clause-task c =
    let opened = c.in-Ok.ensures.opened.3 in (
      opened.plan,
      c.in-Ok-start.ensures.task_is ∙ opened.task_is
          ∙ ap (λ s. task_of s opened.plan)
          (sym (ap (λ (at : At). at.schedule) c.in-Ok-new.ensures ∙ opened.program_is)),
    )
