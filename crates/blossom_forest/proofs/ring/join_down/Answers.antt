use Rattle.std.proofs.Common.{rules, ◌≡◌, ◌<◌, ◌-◌, length, reverse, ap, ◌∙◌, sym, arith}
use Rattle.std.specs.Prelude.{slice_index, slice_set}
use Rattle.std.proofs.lemmas.List.{get_or-reverse, length-reverse}
use Rattle.blossom_forest.specs.Trees.{tie_up, turned}
use Rattle.blossom_forest.proofs.Joining.{last_more, more_down, same_still, with_joint}
use Rattle.blossom_forest.proofs.ring.join_down.Goals as goal

pub loop-at-preserved : goal.loop-at-preserved
loop-at-preserved c =
    let t = c.args.trees.now in
    let now = c.loop-at.trees in
    let way = c.args.way.now in
    let at = c.loop-at.at in
    let above = c.loop-at.above in
    let same = c.loop-at.invariant.same in
    let low : at < length way = omega (arith, c.loop-at-test.true, c.loop-at.auto.at-end) in
    let low' : at < length (reverse way) = omega (arith, low, length-reverse way) in
    let child = slice_index way (length way - 1 - at) in
    let is : child ≡ slice_index (reverse way) at = sym (get_or-reverse way at 0 low) in
    let wrote : c.set_joint.new.self
    ≡ with_joint now (slice_set now.joint above (turned (tie_up now child))) =
    c.set_joint.ensures ∙ ap (λ z. with_joint now (slice_set now.joint above z))
    (c.turned.ensures.turned ∙ ap turned c.tie_up.ensures.tie) in
    record {
      vertices = search rules;
      trees = search rules;
      above = search rules;
      same = same_still t now same c.set_joint.new.self _ wrote;
      down = more_down t now same c.set_joint.new.self (reverse way) at child low' is above wrote
          ∙ c.loop-at.invariant.down;
      last = last_more t now same c.set_joint.new.self (reverse way) at child low' is above
          ∙ c.loop-at.invariant.last;
    }
