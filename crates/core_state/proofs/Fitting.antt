-- Whether a slot's values have the right lengths.
use Rattle.std.proofs.Common.{◌≡◌, sym, ◌∙◌, length}
use Rattle.detector_graph.specs.declared.folded.Folded.{Folded}
use Rattle.window_model.specs.Decoder.{Task}
use Rattle.window_model.specs.Speculation.{at_slot, detector_slots}
use Rattle.core_state.specs.Arrivals.{FitsSlot}
use Rattle.core_state.proofs.Arrived.{count_slot}

module _ (task : Task) (folded : Folded) where
  pub fits : length folded.defects ≡ length (at_slot (detector_slots task) folded.slot) →
      length folded.raws ≡ length (at_slot task.raw_slots folded.slot) → FitsSlot task folded
  fits values raws = record {
    values = values ∙ sym (count_slot (detector_slots task) folded.slot);
    raws = raws ∙ sym (count_slot task.raw_slots folded.slot);
  }

  pub fits_values : FitsSlot task folded →
      length folded.defects ≡ length (at_slot (detector_slots task) folded.slot)
  fits_values h = h.values ∙ count_slot (detector_slots task) folded.slot

  pub fits_raws : FitsSlot task folded →
      length folded.raws ≡ length (at_slot task.raw_slots folded.slot)
  fits_raws h = h.raws ∙ count_slot task.raw_slots folded.slot
