-- The qubits of some regions.
use Rattle.std.specs.Prelude.{◌≡◌, ◌<◌, ℕ, true, List, Contains, filter, slice_get, Some}
use Rattle.std.specs.List.{list_any}
use Rattle.surface_model.specs.Layout.{Place, Region, has_qubit, is_active_at, board}
use Rattle.surface_model.specs.Schedules.{Schedule}
use Rattle.error_map.specs.Ends.{is_before}
use Rattle.error_map.specs.declared.keys.Key.{Key}

-- the place of a key
abbrev pub key_place : Key → Place
key_place key = record { row = key.row; column = key.col }

-- the qubits of the regions, and no others, by row and then by column
pub record AreQubits (regions : List Region) (qubits : List Place) : Type 0 where
  pub rising : (i j : ℕ) (p q : Place) → i < j → slice_get qubits i ≡ Some p →
      slice_get qubits j ≡ Some q → is_before p q ≡ true
  pub complete : (q : Place) → list_any (λ r. has_qubit r q) regions ≡ true → Contains qubits q
  pub sound : (q : Place) → Contains qubits q → list_any (λ r. has_qubit r q) regions ≡ true

-- the active qubits of slot t
abbrev pub active_at : Schedule → ℕ → List Place
active_at s t = filter (is_active_at s t) (board s)
