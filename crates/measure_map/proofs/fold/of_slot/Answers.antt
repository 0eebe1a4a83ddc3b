use Rattle.std.proofs.Common.{arith}
use Rattle.measure_map.proofs.Firsts.{ordered, slice_is}
use Rattle.measure_map.proofs.fold.of_slot.Goals as goal

pub slice_bounds-result-count : goal.slice_bounds-result-count
slice_bounds-result-count c = let o = ordered c.args.detectors.now c.args.slot c.args.first
    c.args.next c.requires.first c.requires.next in omega (arith, o)

pub slice_bounds-result-start : goal.slice_bounds-result-start
slice_bounds-result-start c = let o = ordered c.args.detectors.now c.args.slot c.args.first
    c.args.next c.requires.first c.requires.next in omega (arith, o)

pub returns : goal.returns
returns c = slice_is c.args.detectors.now c.args.slot c.args.first c.args.next c.requires.first
    c.requires.next
