use Rattle.std.proofs.Common.{◌||◌, ap, ◌∙◌}
use Rattle.surface_model.specs.Layout.{Region}
use Rattle.slot_bits.specs.Order.{has_bit, is_outcome_in}
use Rattle.slot_bits.specs.Seen.{bits_of}
use Rattle.measure_map.proofs.Gathering.{gathered}
use Rattle.measure_map.proofs.gather.with_regions.Goals as goal

pub loop-region-preserved : goal.loop-region-preserved
loop-region-preserved c = (
  c.in_ok-bits.ensures.rising,
  gathered (λ b (r : Region). is_outcome_in r b) (has_bit (bits_of c.args.bits.items))
      (bits_of c.loop-region.bits.items) (bits_of c.in_ok-bits.bits.items) c.args.regions.now
      c.loop-region.region-index c.region-item.result c.loop-region-test.true c.region-item.is
      c.loop-region.invariant.1 (λ b. c.in_ok-bits.ensures.members b
      ∙ ap (λ items. has_bit (bits_of items) b || is_outcome_in c.region-item.result b)
      c.deref.ensures.value),
)
