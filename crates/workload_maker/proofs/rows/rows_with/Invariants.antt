use Rattle.std.proofs.Common.{◌≡◌, ℕ, length, map, take}
use Rattle.graph_model.specs.Parity.{parity}
use Rattle.error_map.specs.Changes.{changed_bits}
use Rattle.error_map.specs.Seen.{mechanisms_of}
use Rattle.workload_maker.specs.Turns.{bit_in, is_place}
use Rattle.workload_maker.proofs.rows.rows_with.Given as goal

abbrev pub invariant-loop-error : goal.invariant-loop-error
invariant-loop-error l = record {
  widths : map length l.rows.items ≡ map length l.map.lines;
  bits : (t k : ℕ) → bit_in l.rows.items t k
      ≡ parity (λ e. parity (is_place t k) (changed_bits l.program e))
      (mechanisms_of (take l.error-index l.errors));
}
