use Rattle.certified_log.specs.Shown.{AreSoFar}
use Rattle.certified_log.proofs.certs.certificates.Given as goal

abbrev pub invariant-loop-window : goal.invariant-loop-window
invariant-loop-window l = AreSoFar l.core l.window l.certs.items
