-- Laws of ready rounds: there is one for each operation, it is computed from the windows' ready
-- slots, and once it has arrived the operation is released.
use Rattle.std.specs.Prelude.{◌≡◌, ◌≢◌, ◌<◌, ◌≤◌, ℕ, List, [], length, All, IsSome}
use Rattle.window_model.specs.Decoder.{Task, Decoder, operation_at, MayArrive}
use Rattle.window_model.specs.Gates.{IsReadyRound, IsTimely, AreReadySlots, round_over}
use Rattle.window_model.specs.Laws.{PlanLaws, IsSettled}

-- An operation with an observable has a ready round: some slot that it waits for is the greatest of
-- them.
abbrev pub RoundLaw : Type 0
RoundLaw =
    (task : Task) (op : ℕ) → PlanLaws task.graph task.tags task.plan → (operation_at task op).labels
    ≢ [] → (round : ℕ) × IsReadyRound task op round

-- An operation has one ready round.
abbrev pub OneRoundLaw : Type 0
OneRoundLaw = (task : Task) (op one two : ℕ) → IsReadyRound task op one → IsReadyRound task op two →
    one ≡ two

-- The ready round is the greatest of the raw slots of the operation's observables and of the ready
-- slots of the windows that it needs.
abbrev pub ComputedRoundLaw : Type 0
ComputedRoundLaw =
    (task : Task) (slots : List ℕ) (op : ℕ) → PlanLaws task.graph task.tags task.plan →
    AreReadySlots task.plan slots → (operation_at task op).labels ≢ [] →
    IsReadyRound task op (round_over task slots op)

-- Where all is decoded that may be, each operation whose ready round has arrived is released.
abbrev pub PromptLaw : Type 0
PromptLaw =
    (task : Task) (d : Decoder) (op round : ℕ) → IsSettled task d → op < length task.operations →
    All (λ l. l < length task.raw_slots) (operation_at task op).labels →
    IsReadyRound task op round → round < d.arrived → IsSome (d.released op)

-- So where no operation comes too early, the next slot may arrive once all is decoded that may be.
abbrev pub OpenGateLaw : Type 0
OpenGateLaw =
    (task : Task) (d : Decoder) → PlanLaws task.graph task.tags task.plan → IsSettled task d →
    IsTimely task → d.arrived ≤ task.last_slot → MayArrive task d d.arrived
