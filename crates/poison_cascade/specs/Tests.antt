-- The same as tests of truth values, which the scans make.
use Rattle.std.specs.Prelude.{ℕ, Bool, true, false, ◌==◌, ◌&&◌, not, Option, Some, None}
use Rattle.std.specs.List.{list_any}
use Rattle.window_model.specs.declared.Origin.{Origin}
use Rattle.window_model.specs.declared.Origin.TheVariants.{Guess, Ticket}
use Rattle.window_model.specs.Speculation.{is_guess}
use Rattle.poison_cascade.specs.declared.support.Support.{Support}
use Rattle.poison_cascade.specs.Books.{TicketBook, standing, supports_at}

-- it is about window x
abbrev pub is_from : ℕ → Support → Bool
is_from x s = s.source == x

abbrev pub is_some_ticket : Option ℕ → Bool
is_some_ticket None = false
is_some_ticket (Some k) = true

abbrev pub is_this : Option ℕ → ℕ → Bool
is_this None k = false
is_this (Some j) k = j == k

abbrev pub is_gone_from : Origin → Option ℕ → Bool
is_gone_from Guess found = false
is_gone_from (Ticket k) found = not (is_this found k)

-- it names a ticket that no longer stands
abbrev pub is_gone : TicketBook → Support → Bool
is_gone book s = is_gone_from s.origin (standing book s.source)

-- it is a guess about a window that has a result
abbrev pub is_comparable : TicketBook → Support → Bool
is_comparable book s = is_guess s.origin && is_some_ticket (standing book s.source)

abbrev pub rests_on_gone : TicketBook → ℕ → Bool
rests_on_gone book w = list_any (is_gone book) (supports_at book w)
