use Rattle.std.proofs.Common.{All, ap, ◌∙◌, subst, flat_map}
use Rattle.std.proofs.lemmas.List.{take_all}
use Rattle.core_journal.specs.declared.event.Event.TheVariants as entry
use Rattle.run_report.proofs.Cores.{stands_in}
use Rattle.trace_laws.specs.Told.{entry_steps}
use Rattle.certified_log.specs.Shown.{certificate_at, whole_in}
use Rattle.certified_log.specs.Texts.{IsStepShown}
use Rattle.certified_log.proofs.Answered.{all_flat_more}
use Rattle.certified_log.proofs.Lines.{releases_at, steps_in}
use Rattle.certified_log.proofs.shown.are_shown.Goals as goal

pub is_entry_shown-requires-clause-stands : goal.is_entry_shown-requires-clause-stands
is_entry_shown-requires-clause-stands c =
    stands_in c.args.core.now c.is_state.ensures c.journal-entry-items.result.now
    c.journal-entry-items.ensures.value c.loop-entry.entry-index _ c.loop-entry-test.true

pub is_entry_shown-requires-clause-labels : goal.is_entry_shown-requires-clause-labels
is_entry_shown-requires-clause-labels c =
    releases_at c.args.core.now c.is_state.ensures c.journal-entry-items.result.now
    c.journal-entry-items.ensures.value _ c.requires.labels c.loop-entry.entry-index _
    c.loop-entry-test.true

pub loop-entry-preserved : goal.loop-entry-preserved
loop-entry-preserved c =
    let core = c.args.core.now in
    all_flat_more (IsStepShown core.task c.args.labels.now (whole_in core)
    (certificate_at c.args.certs.now)) (entry_steps core.task core.kept)
    c.journal-entry-items.result.now c.loop-entry.entry-index (entry.Arrived 0)
    c.loop-entry-test.true c.loop-entry.invariant c.is_entry_shown.ensures

pub returns : goal.returns
returns c =
    let core = c.args.core.now in
    subst (All (IsStepShown core.task c.args.labels.now (whole_in core)
    (certificate_at c.args.certs.now)))
    (ap (flat_map (entry_steps core.task core.kept))
    (take_all c.loop-entry.entry-index c.journal-entry-items.result.now c.loop-entry-test.false
    ∙ c.journal-entry-items.ensures.value) ∙ steps_in core c.is_state.ensures)
    c.loop-entry.invariant
