use Rattle.std.proofs.Common.{◌≡◌, ◌+◌, ◌∷◌, ◌++◌, length, reverse, take, vec_len}
use Rattle.std.specs.Vec.{vec_capacity}
use Rattle.blossom_forest.proofs.ring.list_ring.Given as goal

abbrev pub invariant-loop-at : goal.invariant-loop-at
invariant-loop-at l = record {
  list : l.ring.items ≡ l.ways.common ∷ take l.at (reverse l.ways.one.now);
  len : vec_len l.ring ≡ 1 + l.at;
  room : vec_capacity l.ring ≡ vec_capacity l.fn.ring;
}

abbrev pub invariant-loop-set : goal.invariant-loop-set
invariant-loop-set l = record {
  list : l.ring.items
      ≡ l.ways.common ∷ (reverse l.ways.one.now ++ take l.set-index l.ways.two.now);
  len : vec_len l.ring ≡ (1 + length l.ways.one.now) + l.set-index;
  room : vec_capacity l.ring ≡ vec_capacity l.fn.ring;
}
