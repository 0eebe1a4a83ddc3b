use Rattle.std.proofs.Common.{◌≡◌, ◌+◌, ◌<◌, ◌==◌, ℕ, List, cond, length, sym, subst, arith}
use Rattle.std.specs.Vec.{vec_capacity}
use Rattle.std.specs.List.{AllByRecursion}
use Rattle.blossom_nest.specs.Nests.{IsOutermost, IsShrunk, Nested}
use Rattle.blossom_nest.specs.Kept.{at, shown}
use Rattle.blossom_nest.proofs.Shrinking.{IsTaken, empty_of, free_ring, is_shrunk, low_nodes, never_full, popped_low, shrunk_kept}
use Rattle.blossom_nest.proofs.nest.Nest.shrink.Goals as goal
use Rattle.blossom_nest.proofs.nest.Nest.shrink.Goals.{After-lift}

pub unreachable-requires : goal.unreachable-requires
unreachable-requires c =
    let outer = subst (λ (s : Nested). AllByRecursion (IsOutermost s) c.args.ring.now)
    (sym c.self.view_is) c.requires.outermost in
    let none = rw c.in_default.is at c.pop.ensures.cases in
    never_full _ _ _ _ _ _ c.self.invariant c.args.ring.now c.requires.ring c.requires.apart outer
    (empty_of _ (omega (arith, none.0, c.self.inside.unused.ok.0)))

pub overflow_add-set : goal.overflow_add-set
overflow_add-set c =
    let low = popped_low _ _ _ _ _ _ c.self.invariant _ _ c.in-Some.ensures.items in
    omega (arith, low, c.self.invariant.nest.few)

pub adopt-requires-clause-place : goal.adopt-requires-clause-place
adopt-requires-clause-place c =
    let low = popped_low _ _ _ _ _ _ c.self.invariant _ _ c.in-Some.ensures.items in
    omega (arith, low, c.self.invariant.nest.children_len)

pub adopt-requires-clause-free : goal.adopt-requires-clause-free
adopt-requires-clause-free c =
    free_ring _ _ _ _ _ _ c.self.invariant c.args.ring.now (subst (λ (s : Nested).
    AllByRecursion (IsOutermost s) c.args.ring.now) (sym c.self.view_is) c.requires.outermost)

pub adopt-requires-clause-nodes : goal.adopt-requires-clause-nodes
adopt-requires-clause-nodes c =
    low_nodes _ _ _ _ _ _ c.self.invariant c.args.ring.now (subst (λ (s : Nested).
    AllByRecursion (IsOutermost s) c.args.ring.now) (sym c.self.view_is) c.requires.outermost)

taken : (c : After-lift) → IsTaken c.self.inside.vertices c.self.inside.children
    c.self.inside.parent.items c.self.inside.top.items c.self.inside.unused.items (vec_capacity
    c.self.inside.unused) c.self.invariant c.pop.new.self.items c.in-Some.place c.args.ring.now
    c.adopt.new.children c.adopt.new.parent.items c.lift.new.top.items
taken c =
    let set = c.self.inside.vertices + c.in-Some.place in
    let top = c.self.inside.top.items in
    record {
      popped = c.in-Some.ensures.items;
      is_ring = c.requires.ring;
      ring_apart = c.requires.apart;
      outer = subst (λ (s : Nested). AllByRecursion (IsOutermost s) c.args.ring.now)
          (sym c.self.view_is) c.requires.outermost;
      lists_are = c.adopt.ensures.children;
      disjoint = c.are_disjoint.ensures;
      parent_len = c.adopt.ensures.len;
      parent_is = c.adopt.ensures.parent;
      top_len = c.lift.ensures.len;
      top_is = subst (λ (ps : List ℕ). (v : ℕ) → v < length top → at c.lift.new.top.items v
          ≡ cond (at ps (at top v) == set) set (at top v)) c.deref.ensures.value c.lift.ensures.top;
    }

pub invariant_of-self : goal.invariant_of-self
invariant_of-self c =
    let t = taken (goal.at.invariant_of-self c).After-lift in
    rw c.pop.ensures.capacity (shrunk_kept _ _ _ _ _ _ c.self.invariant _ _ _ _ _ _ t)

pub returns : goal.returns
returns c =
    let t = taken (goal.at.returns c).After-lift in
    subst (λ (s : Nested). IsShrunk s c.args.ring.now (c.self.inside.vertices + c.in-Some.place)
    (shown c.self.inside.vertices c.adopt.new.children.lists c.adopt.new.parent.items
    c.lift.new.top.items)) c.self.view_is
    (is_shrunk _ _ _ _ _ _ c.self.invariant _ _ _ _ _ _ t)
