use Rattle.std.proofs.Common.{◌+◌, ◌-◌, ◌/◌, arith, ◌∙◌, sym}
use Rattle.error_map.proofs.Searches.{cut_up, cut_down}
use Rattle.error_map.proofs.spots.earlier.Goals as goal

pub loop-low-preserved-then-is_earlier : goal.loop-low-preserved-then-is_earlier
loop-low-preserved-then-is_earlier c =
    cut_up c.args.detectors.now c.requires.order (record {
      slot = c.args.slot;
      corner = c.args.corner;
    }) c.loop-low.low c.loop-low.high
    (c.loop-low.low + (c.loop-low.high - c.loop-low.low) / 2) c.loop-low.invariant
    (omega arith) (omega arith) c.index-detectors-middle.result c.index-detectors-middle.is
    (sym c.is_earlier.ensures ∙ c.if-is_earlier.true)

pub loop-low-preserved : goal.loop-low-preserved
loop-low-preserved c =
    cut_down c.args.detectors.now c.requires.order (record {
      slot = c.args.slot;
      corner = c.args.corner;
    }) c.loop-low.low c.loop-low.high
    (c.loop-low.low + (c.loop-low.high - c.loop-low.low) / 2) c.loop-low.invariant
    (omega arith) (omega arith) c.index-detectors-middle.result c.index-detectors-middle.is
    (sym c.is_earlier.ensures ∙ c.if-is_earlier.false)
