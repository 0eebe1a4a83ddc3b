use Rattle.std.proofs.Common.{◌≡◌, ◌<◌, ℕ, cond, length, take}
use Rattle.graph_model.specs.Graph.{is_in}
use Rattle.link_lists.specs.Lists.{with_list}
use Rattle.blossom_nest.specs.Kept.{at}
use Rattle.blossom_nest.proofs.parents.adopt.Given as goal

abbrev pub invariant-loop-child : goal.invariant-loop-child
invariant-loop-child l = record {
  children : l.children ≡ with_list l.initial.children l.place (take l.child-index l.ring);
  len : length l.parent.items ≡ length l.initial.parent.items;
  parent : (c : ℕ) → c < length l.initial.parent.items → at l.parent.items c
      ≡ cond (is_in (take l.child-index l.ring) c) l.set (at l.initial.parent.items c);
}
