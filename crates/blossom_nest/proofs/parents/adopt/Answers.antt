use Rattle.std.proofs.Common.{◌<◌, get_or, length, refl, sym, subst, ◌∙◌, arith}
use Rattle.std.proofs.lemmas.List.{take_more}
use Rattle.std.proofs.Math.ListN.{length-set}
use Rattle.link_lists.specs.Lists.{Lists, IsFree}
use Rattle.blossom_nest.proofs.Adopting.{adopted, free_child, raised}
use Rattle.blossom_nest.proofs.Lists.{at_place}
use Rattle.blossom_nest.proofs.parents.adopt.Goals as goal

pub push_back-requires-clause-free : goal.push_back-requires-clause-free
push_back-requires-clause-free c =
    let i = c.loop-child.child-index in
    let ring = c.args.ring.now in
    subst (λ (s : Lists). IsFree s (get_or ring i 0)) (sym c.loop-child.invariant.children)
    (free_child c.args.children.now c.args.place ring i (get_or ring i 0) c.requires.place
    c.requires.apart c.requires.free c.loop-child-test.true refl)

pub loop-child-preserved : goal.loop-child-preserved
loop-child-preserved c =
    let i = c.loop-child.child-index in
    let ring = c.args.ring.now in
    let x = get_or ring i 0 in
    let more = take_more ring i 0 c.loop-child-test.true in
    let low : x < length c.args.parent.now.items =
    (let k = at_place (λ v. v < c.args.children.now.nodes) ring i c.requires.nodes
    c.loop-child-test.true in omega (arith, k, c.requires.names)) in
    record {
      children = adopted c.args.children.now c.args.place ring i x _ _ c.requires.place
          c.loop-child.invariant.children c.push_back.ensures more;
      len = length-set c.loop-child.parent.items x c.args.set ∙ c.loop-child.invariant.len;
      parent = raised c.args.parent.now.items c.loop-child.parent.items ring i x c.args.set
          c.loop-child.invariant.len low more c.loop-child.invariant.parent;
    }
