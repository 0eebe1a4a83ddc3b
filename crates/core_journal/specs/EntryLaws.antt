-- Laws of histories that are kept as journals: one more entry is one more event, and the events
-- before it stay.
use Rattle.std.specs.Prelude.{◌≡◌, ◌<◌, ◌+◌, ℕ, Bool, List, ◌∷◌, [], ◌++◌, length, All, None, Some, slice_set}
use Rattle.std.specs.Bool.{⊤}
use Rattle.window_model.specs.Decoder.{Task}
use Rattle.window_model.specs.Speculation.{Link, Event, Arrived, Claimed, Returned, at_slot, detector_slots, IsBrought}
use Rattle.graph_model.specs.Graph.{is_in}
use Rattle.std.specs.Prelude.{false}
use Rattle.core_journal.specs.declared.event.Event.{Event as Entry}
use Rattle.core_journal.specs.declared.event.Event.TheVariants as entry
use Rattle.core_journal.specs.Entries.{Kept, bit, values_at, raws_at, result_in, event_of, history_of, AreThere, syndrome_of}

-- the journal with one more entry has one more event, and all that it speaks of is there
pub record IsOneMore (task : Task) (arrived : ℕ) (before after : Kept) (entries : List Entry)
    (entry_ : Entry) (event : Event) : Type 0 where
  pub history : history_of task after (entries ++ entry_ ∷ []) ≡ history_of task before entries
      ++ event ∷ []
  pub there : AreThere arrived after (entries ++ entry_ ∷ [])

-- the bits of those that are not in slot t are as before
abbrev pub IsWrittenAt : List ℕ → ℕ → List Bool → List Bool → Type 0
IsWrittenAt slots t old new = (n : ℕ) → is_in (at_slot slots t) n ≡ false → bit new n ≡ bit old n

-- A slot arrives: its values are written, and no others.
abbrev pub ArrivedLaw : Type 0
ArrivedLaw =
    (task : Task) (arrived : ℕ) (kept : Kept) (entries : List Entry) (values raws : List Bool) →
    AreThere arrived kept entries →
    IsWrittenAt (detector_slots task) arrived kept.values values →
    IsWrittenAt task.raw_slots arrived kept.raws raws →
    IsOneMore task (arrived + 1) kept (record kept { values = values; raws = raws })
    entries (entry.Arrived arrived) (Arrived arrived (values_at task values arrived)
    (raws_at task raws arrived))

-- A claim adds the links of the next ticket.
abbrev pub ClaimedLaw : Type 0
ClaimedLaw =
    (task : Task) (arrived : ℕ) (kept : Kept) (entries : List Entry) (w : ℕ) (links : List Link) →
    AreThere arrived kept entries →
    IsOneMore task arrived kept (record kept { links = kept.links ++ links ∷ [] }) entries
    (entry.Claimed (length kept.links) w) (Claimed (length kept.links) w links)

-- A result is kept where there was none.
abbrev pub HeldLaw : Type 0
HeldLaw =
    (task : Task) (arrived : ℕ) (kept : Kept) (entries : List Entry) (k : ℕ) (set : List ℕ) →
    AreThere arrived kept entries → k < length kept.results → result_in kept.results k ≡ None →
    IsOneMore task arrived kept (record kept { results = slice_set kept.results k (Some set) })
    entries (entry.Held k) (Returned k set)

-- whether an entry speaks of nothing that is kept
abbrev pub IsPlain : Entry → Type 0
IsPlain (entry.Arrived t) = ⊥
IsPlain (entry.Claimed k w) = ⊥
IsPlain (entry.Held k) = ⊥
IsPlain _ = ⊤

-- Any other event changes nothing that is kept.
abbrev pub PlainLaw : Type 0
PlainLaw =
    (task : Task) (arrived : ℕ) (kept : Kept) (entries : List Entry) (entry_ : Entry) →
    AreThere arrived kept entries → IsPlain entry_ →
    IsOneMore task arrived kept kept entries entry_ (event_of task kept entry_)

-- Each arrival brings the values that are kept.
abbrev pub BroughtLaw : Type 0
BroughtLaw = (task : Task) (kept : Kept) (entries : List Entry) →
    All (IsBrought task (syndrome_of kept)) (history_of task kept entries)
