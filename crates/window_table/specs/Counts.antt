-- What workers count.
use Rattle.std.specs.Prelude.{◌≡◌, ℕ, ◌+◌, ◌-◌, ◌^◌, ◌≤◌, Bool, true, false, List, count_by, min}
use Rattle.std.specs.List.{sum_by}
use Rattle.core_journal.specs.declared.event.Event.{Event as Entry}
use Rattle.core_journal.specs.declared.event.Event.TheVariants as entry
use Rattle.window_core.specs.declared.turn.Turn.{Turn}
use Rattle.window_core.specs.declared.turn.Turn.TheVariants.{Claimed, Done, Idle}
use Rattle.window_table.specs.declared.share.Share.{Share}

-- both counts rose, that of the tickets taken by n more than that of those reported
pub record RisesBy (n : ℕ) (old new : Share) : Type 0 where
  pub balance : new.taken + old.reported ≡ new.reported + old.taken + n
  pub rises : old.taken ≤ new.taken

-- whether a turn took a ticket
abbrev pub claim_in : Turn → ℕ
claim_in (Claimed job) = 1
claim_in _ = 0

-- whether a turn did something
abbrev pub is_change : Turn → Bool
is_change Idle = false
is_change Done = false
is_change _ = true

-- one more, as far as the count goes
abbrev pub one_more : ℕ → ℕ
one_more n = min (n + 1) (2 ^ 64 - 1)

-- nothing was taken yet
abbrev pub no_share : Share
no_share = record { taken = 0; reported = 0 }

-- how many tickets were taken together
abbrev pub taken_by : List Share → ℕ
taken_by shares = sum_by (λ (share : Share). share.taken) shares

abbrev pub is_claim : Entry → Bool
is_claim (entry.Claimed k w) = true
is_claim _ = false

-- how many tickets a journal says were taken
abbrev pub claims_in : List Entry → ℕ
claims_in journal = count_by is_claim journal
