-- Tickets that have no result yet.
use Rattle.std.specs.Prelude.{ℕ, if◌then◌else◌, Option, Some, None}
use Rattle.poison_cascade.specs.Books.{Live}

-- the live ticket, where it has no result yet
abbrev pub running_of : Option Live → Option ℕ
running_of None = None
running_of (Some live) = if live.stands then None else Some live.ticket
