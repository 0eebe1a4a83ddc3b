use Rattle.std.proofs.Common.{All, flat_map, take}
use Rattle.trace_laws.specs.Told.{entry_steps}
use Rattle.certified_log.specs.Shown.{certificate_at, whole_in}
use Rattle.certified_log.specs.Texts.{IsStepShown}
use Rattle.certified_log.proofs.shown.are_shown.Given as goal

abbrev pub invariant-loop-entry : goal.invariant-loop-entry
invariant-loop-entry l = All (IsStepShown l.core.task l.labels (whole_in l.core)
    (certificate_at l.certs)) (flat_map (entry_steps l.core.task l.core.kept)
    (take l.entry-index l.entry-items))
