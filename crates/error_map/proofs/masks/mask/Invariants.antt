use Rattle.std.proofs.Common.{◌≡◌, ◌≤◌, ◌-◌, ℕ, Contains, Some, false, length, slice_get}
use Rattle.std.specs.Ordering.{is_lt}
use Rattle.surface_model.specs.Schedules.{Schedule}
use Rattle.surface_model.specs.Errors.{mechanisms}
use Rattle.surface_model.specs.Accepted.{IsAccepted}
use Rattle.measure_map.specs.Placed.{map_of}
use Rattle.error_map.specs.Keys.{compare, key_of}
use Rattle.error_map.specs.declared.keys.Key.{Key}
use Rattle.error_map.specs.Seen.{error_in}
use Rattle.error_map.specs.Sees.{IsEffect, flips_observable}
use Rattle.error_map.specs.Watched.{AreTaken}
use Rattle.error_map.proofs.masks.mask.Given as goal

abbrev pub invariant-loop-number : goal.invariant-loop-number
invariant-loop-number l = record {
  above : (j : ℕ) (k : Key) → l.at ≤ j → slice_get l.keys j ≡ Some k →
      is_lt (compare k (key_of 0 (record { row = l.row; column = l.col }))) ≡ false;
  taken : (s : Schedule) → IsAccepted s → l.map ≡ map_of s →
      Contains (mechanisms s) (error_in l.effect) → IsEffect s l.effect →
      AreTaken (flips_observable s (error_in l.effect)) l.keys (record {
        row = l.row;
        column = l.col;
      }) l.at l.mask.items;
}

abbrev pub decreases-loop-number : goal.decreases-loop-number
decreases-loop-number l = length l.keys - l.at
