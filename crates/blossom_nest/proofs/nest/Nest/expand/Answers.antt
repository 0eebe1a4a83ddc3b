use Rattle.std.proofs.Common.{◌≡◌, ◌-◌, ◌<◌, ◌++◌, ◌∷◌, [], ℕ, List, length, sym, ◌∙◌, subst, arith}
use Rattle.std.specs.Vec.{vec_capacity}
use Rattle.blossom_nest.specs.Nests.{IsName, IsOutermost, Nested}
use Rattle.blossom_nest.specs.Kept.{IsChildAbove, IsKept, at}
use Rattle.blossom_nest.proofs.Expanding.{IsGiven, expanded_kept, room_left, way_up}
use Rattle.blossom_nest.proofs.Lists.{ok_choice}
use Rattle.blossom_nest.proofs.nest.Nest.expand.Goals as goal

pub settle-requires-clause-leads : goal.settle-requires-clause-leads
settle-requires-clause-leads c =
    let name = subst (λ (s : Nested). IsName s c.args.set) (sym c.self.view_is) c.requires.name in
    let outer = subst (λ (s : Nested). IsOutermost s c.args.set) (sym c.self.view_is)
    c.requires.outermost in
    rw c.deref.ensures.value (way_up _ _ _ _ _ _ c.self.invariant c.args.set name outer)

pub invariant_of-self : goal.invariant_of-self
invariant_of-self c =
    let set = c.args.set in
    let top = c.self.inside.top.items in
    let name = subst (λ (s : Nested). IsName s c.args.set) (sym c.self.view_is) c.requires.name in
    let outer = subst (λ (s : Nested). IsOutermost s c.args.set) (sym c.self.view_is)
    c.requires.outermost in
    let t : IsGiven _ _ _ _ _ _ c.self.invariant set name outer c.release.new.children
    c.release.new.parent.items c.settle.new.top.items = record {
      lists_are = c.release.ensures.children;
      disjoint = c.are_disjoint.ensures;
      parent_len = c.release.ensures.len;
      parent_is = c.release.ensures.parent;
      top_len = c.settle.ensures.len;
      others = c.settle.ensures.others;
      top_is = subst (λ (ps : List ℕ). (v : ℕ) → v < length top → at top v ≡ set → IsChildAbove ps v
          set (at c.settle.new.top.items v)) c.deref.ensures.value c.settle.ensures.top;
    } in
    let room = room_left _ _ _ _ _ _ c.self.invariant set name outer in
    let ok = c.push.ensures.succeeds (omega (arith, room, c.self.inside.unused.ok.0)) in
    let items : c.push.new.self.items ≡ c.self.inside.unused.items ++ (set - c.self.inside.vertices)
    ∷ [] = c.push.ensures.items ∙ ok_choice c.push.result _ _ ok in
    let kept = expanded_kept _ _ _ _ _ _ c.self.invariant set name outer c.release.new.children
    c.release.new.parent.items c.settle.new.top.items t in
    let more = c.push.ensures.capacity in
    subst (λ xs. IsKept c.self.inside.vertices c.release.new.children c.release.new.parent.items
    c.settle.new.top.items xs (vec_capacity c.push.new.self)) (sym items)
    (record {
      nest = kept.nest;
      nodes = kept.nodes;
      disjoint = kept.disjoint;
      empty = kept.empty;
      listed = kept.listed;
      unused_apart = kept.unused_apart;
      roomy = omega (arith, kept.roomy, more);
    })
