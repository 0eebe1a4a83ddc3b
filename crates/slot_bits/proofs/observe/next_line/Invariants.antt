use Rattle.std.proofs.Common.{◌≡◌, ◌≤◌, false, take}
use Rattle.std.specs.List.{list_any}
use Rattle.surface_model.specs.Schedules.{MergeLine, ReadLine}
use Rattle.surface_model.specs.Layout.{is_among}
use Rattle.slot_bits.proofs.observe.next_line.Given as goal

-- no line of the merges so far lies between
abbrev pub invariant-loop-merge : goal.invariant-loop-merge
invariant-loop-merge l =
    (l.from ≤ l.next) × (l.next ≤ l.initial.next)
    × (list_any (λ (merge : MergeLine). is_among l.from l.next merge.line)
    (take l.merge-index l.merge-items) ≡ false)

-- nor of the readings so far
abbrev pub invariant-loop-read : goal.invariant-loop-read
invariant-loop-read l =
    (l.from ≤ l.next) × (l.next ≤ l.initial.next)
    × (list_any (λ (read : ReadLine). is_among l.from l.next read.line)
    (take l.read-index l.read-items) ≡ false)
