use Rattle.std.proofs.Common.{◌≡◌, ◌≢◌, ◌<◌, sym, subst, arith}
use Rattle.std.proofs.lemmas.Grind.{common_steps}
use Rattle.blossom_nest.specs.Nests.{Nested, no_set, parent_of}
use Rattle.blossom_nest.specs.Kept.{shown}
use Rattle.blossom_nest.proofs.Following.{follows}
use Rattle.blossom_nest.proofs.nest.Nest.after.Goals as goal

follow : (c : goal.After-next_in_ring) → (c.next_in_ring.result < no_set c.args.self.now)
    × (parent_of c.args.self.now c.next_in_ring.result ≡ parent_of c.args.self.now c.args.child)
follow c =
    let i = c.self.inside in
    let s : Nested = shown i.vertices i.children.lists i.parent.items i.top.items in
    let same : s ≡ c.args.self.now = c.self.view_is in
    let low : c.args.child < no_set s =
    subst (λ (t : Nested). c.args.child < no_set t) (sym same) c.requires.below in
    let inside : parent_of s c.args.child ≢ no_set s =
    subst (λ (t : Nested). parent_of t c.args.child ≢ no_set t) (sym same) c.requires.inside in
    let len = c.self.invariant.nest.parent_len in
    let is : c.index.result.now ≡ parent_of s c.args.child =
    grind (arith, common_steps, c.index.ensures) in
    let k = follows s c.self.invariant.nest c.args.child c.index.result.now c.next_in_ring.result
    low is (rw is inside) c.next_in_ring.ensures in
    subst (λ (t : Nested). (c.next_in_ring.result < no_set t)
    × (parent_of t c.next_in_ring.result ≡ parent_of t c.args.child)) same (k.0, rw (← is) k.1)

pub returns-clause-below : goal.returns-clause-below
returns-clause-below c = (follow c).0

pub returns-clause-parent : goal.returns-clause-parent
returns-clause-parent c = (follow c).1
