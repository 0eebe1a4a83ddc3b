-- What the answers of open tickets do to a core, and how far a core has gone on when it is at rest.
use Rattle.std.specs.Prelude.{◌≡◌, ◌++◌, ℕ, Bool, true, List, All, Option, None, Some}
use Rattle.std.specs.Bool.{⊤}
use Rattle.window_model.specs.Speculation.{Event, Returned, Stale}
use Rattle.core_journal.specs.declared.event.Event.{Event as Entry}
use Rattle.core_journal.specs.declared.event.Event.TheVariants as entry
use Rattle.core_state.specs.States.{CoreTable, events_of, machine_of}
use Rattle.slot_decoder.specs.Histories.{DecoderView}
use Rattle.slot_decoder.specs.Slots.{BringsNoSlot}

-- the event is the answer of a ticket
abbrev pub IsAnswer : Event → Type 0
IsAnswer (Returned k set) = ⊤
IsAnswer (Stale k) = ⊤
IsAnswer _ = ⊥

-- the ticket has had an answer
abbrev pub IsClosed : CoreTable → ℕ → Type 0
IsClosed c k = ((machine_of c).claim k).closed ≡ true

-- Some tickets were answered, and else nothing happened.
pub record HasAnswered (old new : CoreTable) : Type 0 where
  pub task : new.task ≡ old.task
  pub retries : new.retries ≡ old.retries
  pub more : List Event
  pub events : events_of new ≡ events_of old ++ more
  pub answers : All IsAnswer more
  pub tickets : (machine_of new).tickets ≡ (machine_of old).tickets
  pub closed : (k : ℕ) → IsClosed old k → IsClosed new k

-- the operation that an entry says was released, with its bit
abbrev pub released_in : Entry → Option (ℕ × Bool)
released_in (entry.Released op bit) = Some (op, bit)
released_in _ = None

-- What happened in a core is the first of what happened in the decoder, and then no slot came.
pub record HasComeToRest (core : CoreTable) (d : DecoderView) : Type 0 where
  pub task : d.progress.task ≡ core.task
  pub retries : d.retries ≡ core.retries
  pub more : List Event
  pub events : d.events ≡ events_of core ++ more
  pub none_brings : All BringsNoSlot more
