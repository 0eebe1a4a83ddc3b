use Rattle.std.proofs.Common.{◌||◌, ap, ◌∙◌}
use Rattle.std.specs.List.{list_any}
use Rattle.surface_model.specs.Layout.{Region, region_of_patch}
use Rattle.patch_layout.specs.Items.{merge_line, read_line}
use Rattle.patch_layout.specs.Regions.{seam_region}
use Rattle.timetable.specs.Times.{reads_at}
use Rattle.slot_bits.specs.Order.{has_bit, is_outcome_in, is_readout_in}
use Rattle.slot_bits.specs.Seen.{bits_of}
use Rattle.measure_map.proofs.Gathering.{slot_made}
use Rattle.measure_map.proofs.gather.bits_of_slot.Goals as goal

pub returns : goal.returns
returns c =
    let s = c.args.schedule.now in let t = c.args.slot in
    let regions = c.in_ok-regions.regions.items in
    slot_made s c.requires.accepted t (bits_of c.in_ok-bits-2.bits.items) regions
    c.in_ok-bits-2.ensures.rising c.in_ok-regions.ensures.regions
    (λ b. c.in_ok-bits-2.ensures.members b
    ∙ ap (λ rs. has_bit (bits_of c.in_ok-bits.bits.items) b
    || list_any (λ (r : Region). is_outcome_in r b) rs) c.deref.ensures.value
    ∙ ap (λ x. x || list_any (λ (r : Region). is_outcome_in r b) regions)
    (c.in_ok-bits.ensures.members b)
    ∙ ap (λ x. (x || list_any (λ n. is_readout_in (seam_region s (merge_line s n)) b)
    c.splits.result.now) || list_any (λ (r : Region). is_outcome_in r b) regions)
    (c.in_ok-read.ensures.members b)
    ∙ ap (λ ns. (list_any (λ n. is_readout_in (region_of_patch s (read_line s n).patch) b) ns
    || list_any (λ n. is_readout_in (seam_region s (merge_line s n)) b) c.splits.result.now)
    || list_any (λ (r : Region). is_outcome_in r b) regions)
    (c.reads.ensures.lines s c.requires.times)
    ∙ ap (λ ns. (list_any (λ n. is_readout_in (region_of_patch s (read_line s n).patch) b)
    (reads_at s t) || list_any (λ n. is_readout_in (seam_region s (merge_line s n)) b) ns)
    || list_any (λ (r : Region). is_outcome_in r b) regions)
    (c.splits.ensures.lines s c.requires.times))
