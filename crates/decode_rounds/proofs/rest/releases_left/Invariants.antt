use Rattle.std.proofs.Common.{◌≡◌, take}
use Rattle.decode_rounds.specs.Seats.{untold}
use Rattle.decode_rounds.proofs.rest.releases_left.Given as goal

-- those of the releases so far that were not told
abbrev pub invariant-loop-op : goal.invariant-loop-op
invariant-loop-op g l = l.left.items ≡ untold l.readings (take l.op-index l.releases)
