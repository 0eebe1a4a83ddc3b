use Rattle.error_map.proofs.Watching.{bit_turn}
use Rattle.error_map.proofs.watch.push_bits.Goals as goal

pub loop-place-preserved : goal.loop-place-preserved
loop-place-preserved c =
    bit_turn c.args.number c.args.line.now c.args.keys.now.items c.args.places.now
    c.loop-place.place-index c.index-line-place.result c.loop-place-test.true
    (c.requires c.loop-place.place-index 0 c.loop-place-test.true) c.index-line-place.is
    c.region_near.result c.region_near.ensures.region c.loop-place.keys.items
    c.push_region.new.keys.items c.loop-place.invariant c.in_ok-push_region.ensures
