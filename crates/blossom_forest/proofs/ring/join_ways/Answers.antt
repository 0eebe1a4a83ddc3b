use Rattle.blossom_forest.proofs.Joining.{round_whole}
use Rattle.blossom_forest.proofs.ring.join_ways.Goals as goal

pub returns-clause-round : goal.returns-clause-round
returns-clause-round c =
    round_whole c.args.trees.now c.join_down-last.new.trees c.set_joint.new.self
    c.join_up.new.trees c.args.ways.common c.join_down-last.result c.args.ways.one.now
    c.args.ways.two.now c.args.tie c.join_down-last.ensures.down c.join_down-last.ensures.last
    c.set_joint.ensures c.join_up.ensures.up
