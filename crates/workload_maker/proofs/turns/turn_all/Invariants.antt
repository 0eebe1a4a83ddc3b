use Rattle.std.proofs.Common.{◌≡◌, ℕ, length, map, take}
use Rattle.graph_model.specs.Parity.{◌⊕◌, parity}
use Rattle.workload_maker.specs.Turns.{bit_in, is_place}
use Rattle.workload_maker.proofs.turns.turn_all.Given as goal

abbrev pub invariant-loop-place : goal.invariant-loop-place
invariant-loop-place l = record {
  widths : map length l.rows.items ≡ map length l.initial.rows.items;
  bits : (t k : ℕ) → bit_in l.rows.items t k
      ≡ bit_in l.initial.rows.items t k ⊕ parity (is_place t k) (take l.place-index l.places);
}
