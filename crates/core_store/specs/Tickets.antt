-- What is kept of tickets: for each its claim, its answer, and whether it is closed.
use Rattle.std.specs.Prelude.{◌≡◌, ◌≤◌, ℕ, Bool, true, false, List, [], ◌∷◌, ◌++◌, length, map, replicate, Option, None, Some, option_map, slice_get, slice_index_or, slice_set}
use Rattle.graph_model.specs.Problems.{Decoding}
use Rattle.window_model.specs.declared.Origin.{Origin}
use Rattle.window_model.specs.Speculation.{Link}
use Rattle.window_model.specs.Windows.{WindowPlan, window_at}
use Rattle.cascade_laws.specs.Store.{TicketStore}

-- a claim of a window: for each of its dependencies where the bits come from, and the bits
pub record ClaimBits : Type 0 where
  pub window : ℕ
  pub origins : List Origin
  pub bits : List (List Bool)

-- answers and closed tickets have places for tickets that aren't taken yet
pub record TicketTable : Type 0 where
  pub claims : List ClaimBits
  pub answers : List (Option Decoding)
  pub closed : List Bool

-- there is room for so many claims as there are places, and it is set aside
pub record HasRoom (claims answers closed capacity : ℕ) : Type 0 where
  pub each_closed : closed ≡ answers
  pub few : claims ≤ answers
  pub set_aside : answers ≤ capacity

-- a link for each dependency that has an origin and bits
abbrev pub links_with : List ℕ → List Origin → List (List Bool) → List Link
links_with [] origins bits = []
links_with (x ∷ deps) [] bits = []
links_with (x ∷ deps) (origin ∷ origins) [] = []
links_with (x ∷ deps) (origin ∷ origins) (own ∷ bits) =
    record { source = x; origin = origin; bits = own } ∷ links_with deps origins bits

-- the links of a claim, in the order of its window's dependencies
abbrev pub links_in : WindowPlan → ClaimBits → List Link
links_in plan claim = links_with (window_at plan claim.window).deps claim.origins claim.bits

abbrev pub set_of : Option Decoding → Option (List ℕ)
set_of answer = option_map (λ (d : Decoding). d.set) answer

-- what is kept, in the words of the decoder
abbrev pub store_of : WindowPlan → TicketTable → TicketStore
store_of plan table = record {
  windows = map (λ (claim : ClaimBits). claim.window) table.claims;
  links = map (links_in plan) table.claims;
  results = map set_of table.answers;
  closed = table.closed;
}

-- ---- what its calls do

abbrev pub no_claims : ℕ → TicketTable
no_claims room =
    record { claims = []; answers = replicate room None; closed = replicate room false }

abbrev pub with_claim : TicketTable → ClaimBits → TicketTable
with_claim table claim = record table { claims = table.claims ++ claim ∷ [] }

abbrev pub with_answer : TicketTable → ℕ → Decoding → TicketTable
with_answer table k answer = record table {
  answers = slice_set table.answers k (Some answer);
  closed = slice_set table.closed k true;
}

abbrev pub with_closed : TicketTable → ℕ → TicketTable
with_closed table k = record table { closed = slice_set table.closed k true }

abbrev pub answer_at : TicketTable → ℕ → Option Decoding
answer_at table k = slice_index_or table.answers k None
