-- The whole sets of a core's windows, and certificates of them.
use Rattle.std.specs.Prelude.{◌≡◌, ◌<◌, ◌≤◌, ℕ, ℤ, true, All, List, [], length, Option, None, slice_index_or, unwrap_or, option_map}
use Rattle.std.specs.Bool.{⊤}
use Rattle.matching_model.specs.Certificates.{Certificate}
use Rattle.window_model.specs.Speculation.{done, result_of}
use Rattle.window_model.specs.Windows.{window_count}
use Rattle.cascade_laws.specs.Turns.{is_done}
use Rattle.core_journal.specs.declared.event.Event.{Event as Entry}
use Rattle.core_journal.specs.declared.event.Event.TheVariants as entry
use Rattle.core_state.specs.States.{CoreTable, machine_of}
use Rattle.report_model.specs.Logs.{IsLogNumber}
use Rattle.certified_lines.specs.Certified.{IsNumber}
use Rattle.certified_log.specs.Texts.{IsShownLeast}

-- the result of a committed window, of which it kept its own edges
abbrev pub whole_in : CoreTable → ℕ → List ℕ
whole_in c window =
    unwrap_or (option_map (result_of (machine_of c)) (done ((machine_of c).phase window))) []

abbrev pub certificate_at : List (Option Certificate) → ℕ → Option Certificate
certificate_at certs window = slice_index_or certs window None

-- the window's certificate, once it is committed
abbrev pub IsOfWindow : CoreTable → ℕ → Option Certificate → Type 0
IsOfWindow c window cert = is_done ((machine_of c).phase window) ≡ true →
    IsShownLeast c.task window (whole_in c window) cert

pub record AreCertificates (c : CoreTable) (certs : List (Option Certificate)) : Type 0 where
  pub each : (window : ℕ) → window < window_count c.task.plan →
      IsOfWindow c window (certificate_at certs window)

-- each number has at most 18 digits, members are numbers of a log, and there are no more sets than
-- members of the problem
pub record IsShort (c : Certificate) : Type 0 where
  pub vertex : All IsNumber c.vertex
  pub numbers : All (λ (s : List ℕ × ℤ). IsNumber s.1) c.sets
  pub members_in : All (λ (s : List ℕ × ℤ). All IsLogNumber s.0) c.sets
  pub few : length c.sets ≤ length c.vertex

-- an operation that is released is one of so many
abbrev pub IsReleaseIn : ℕ → Entry → Type 0
IsReleaseIn count (entry.Released op bit) = op < count
IsReleaseIn count _ = ⊤

-- the certificates of the first windows
pub record AreSoFar (c : CoreTable) (count : ℕ) (certs : List (Option Certificate)) : Type 0 where
  pub each_window : length certs ≡ count
  pub each : (window : ℕ) → window < count → IsOfWindow c window (certificate_at certs window)
