use Rattle.std.proofs.Common.{◌<◌, All, sym, subst}
use Rattle.pauli_frame.specs.Frames.{mask_at}
use Rattle.pauli_frame.proofs.Turning.{masks_below}
use Rattle.pauli_frame.proofs.tests.commit_all.Goals as goal

pub commit-requires-clause-masks : goal.commit-requires-clause-masks
commit-requires-clause-masks c =
    subst (λ n. All (λ e. All (λ l. l < n) (mask_at c.args.graph.now e)) c.args.set.now)
    (sym c.requires.labels)
    (masks_below c.args.graph.now 2 c.requires.masks c.args.set.now c.requires.edges)
