use Rattle.std.proofs.Common.{length}
use Rattle.link_lists.specs.Lists.{list_at}
use Rattle.blossom_nest.proofs.Releasing.{IsReleased}
use Rattle.blossom_nest.proofs.parents.release.Given as goal

abbrev pub invariant-loop-child : goal.invariant-loop-child
invariant-loop-child l =
    IsReleased l.initial.children l.initial.parent.items l.place l.none l.children l.parent.items

abbrev pub decreases-loop-child : goal.decreases-loop-child
decreases-loop-child l = length (list_at l.children l.place)
