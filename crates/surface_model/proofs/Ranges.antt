-- What the ranges of a schedule's numbers say of its slots.
use Rattle.std.proofs.Common.{◌≤◌, arith}
use Rattle.graph_model.proofs.Elements.{no_higher}
use Rattle.surface_model.specs.Accepted.{IsInRange}
use Rattle.surface_model.specs.Layout.{last_slot}
use Rattle.surface_model.specs.Limits.{last_named_slot}
use Rattle.surface_model.specs.Schedules.{ReadLine, Schedule}

pub few_slots : (s : Schedule) → IsInRange s → last_slot s ≤ last_named_slot
few_slots s range = no_higher (λ (line : ReadLine). line.slot) last_named_slot 0 s.reads
    (omega arith) (λ i d l. (range.reads i d l).1)
