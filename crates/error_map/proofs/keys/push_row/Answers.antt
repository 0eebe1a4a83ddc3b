use Rattle.error_map.proofs.Keyed.{key_turn}
use Rattle.error_map.proofs.keys.push_row.Goals as goal

pub loop-right-preserved : goal.loop-right-preserved
loop-right-preserved c =
    key_turn c.args.number c.args.row c.args.col c.args.keys.now.items c.loop-right.right
    c.loop-right.keys.items c.push.new.self.items c.loop-right.invariant c.in_ok-push.ensures.items
