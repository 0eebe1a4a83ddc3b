use Rattle.std.proofs.Common.{rules, ◌<◌, ◌≤◌, [], length, ◌∙◌}
use Rattle.blossom_forest.proofs.Rounds.{all_down, all_up, one_down, one_up}
use Rattle.blossom_forest.proofs.ring.list_ring.Goals as goal

pub loop-at-preserved : goal.loop-at-preserved
loop-at-preserved c = record {
  list =
      let low : c.loop-at.at < length c.args.ways.one.now = search rules in
      c.push_reserved-in-loop-at.ensures.items
      ∙ one_down c.args.ways.common c.args.ways.one.now [] c.loop-at.ring.items c.loop-at.at _ low
      (search rules) c.loop-at.invariant.list;
  len = search rules;
  room = search rules;
}

pub loop-set-init : goal.loop-set-init
loop-set-init c = record {
  list =
      let past : length c.args.ways.one.now ≤ c.loop-at.at = search rules in
      all_down c.args.ways.common c.args.ways.one.now c.args.ways.two.now c.loop-at.ring.items
      c.loop-at.at 0 past c.loop-at.invariant.list;
  len = search rules;
  room = search rules;
}

pub loop-set-preserved : goal.loop-set-preserved
loop-set-preserved c = record {
  list =
      let low : c.loop-set.set-index < length c.args.ways.two.now = search rules in
      c.push_reserved-in-loop-set.ensures.items
      ∙ one_up c.args.ways.common c.args.ways.one.now c.args.ways.two.now c.loop-set.ring.items
      c.loop-set.set-index _ low (search rules) c.loop-set.invariant.list;
  len = search rules;
  room = search rules;
}

pub returns-clause-list : goal.returns-clause-list
returns-clause-list c =
    let past : length c.args.ways.two.now ≤ c.loop-set.set-index = search rules in
    all_up c.args.ways.common c.args.ways.one.now c.args.ways.two.now c.loop-set.ring.items
    c.loop-set.set-index 0 past c.loop-set.invariant.list
